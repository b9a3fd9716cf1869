-- The first point with the least delay is the point with the least key: along the list the best so far and the least key so far stay those
-- of one point, since a point further on has a smaller key just where its delay is smaller. The key gives the delay and the number back.
-- Assumes nothing.
use Rattle.std.specs.Prelude.{◌≡◌, refl, ◌⊎◌, List, [], ◌∷◌, ◌++◌, ℕ, zero, suc, ◌+◌, ◌*◌, ◌/◌, ◌%◌, ◌^◌, ◌≤◌, ◌<◌, min, length, get_or, drop, replicate}
use Rattle.std.proofs.Common.{sym, ap, ◌∙◌, subst, inl, inr, mul-le-mul_right, mod-eq_of_lt, le_antisymm, arith, lt-ltb}
use Rattle.std.proofs.Math.Nat.{mul-add-div_right, mul-add-mod_self_right, div-eq_of_lt}
use Rattle.ground.proofs.OrderLaws.{le_or_lt}
use Rattle.tree.specs.Grid.{Answer, points_of, steps_of, better, best_of, found_of}
use Rattle.ground.specs.Each.{Each}
use Rattle.tree.proofs.GridLaws.{better_stays, points_front, points_count}
use Rattle.keys.specs.Keys.{least_of, keys_from, Keyed}

-- the least of a list

pub least_append : (b : ℕ) (l m : List ℕ) → least_of b (l ++ m) ≡ least_of (least_of b l) m
least_append b [] m = refl
least_append b (x ∷ l) m = least_append (min b x) l m

-- numbers that are not below b may be passed over
pub least_stays : (b : ℕ) (l : List ℕ) → Each (λ x. b ≤ x) l → least_of b l ≡ b
least_stays b [] h = refl
least_stays b (x ∷ l) h =
    let e : min b x ≡ b = omega (arith, h.0) in
    ap (λ (c : ℕ). least_of c l) e ∙ least_stays b l h.1

pub least_le : (b : ℕ) (l : List ℕ) → least_of b l ≤ b
least_le b [] = omega arith
least_le b (x ∷ l) = omega (arith, least_le (min b x) l)

-- keys in the order of the points

pub tail_of : {A : Type 0} (z : A) (i : ℕ) (all : List A) (p : A) (l : List A) → drop i all ≡ p ∷ l
    → (get_or all i z ≡ p) × (drop (suc i) all ≡ l) × (i < length all)
tail_of z zero [] p l e = absurd (let z : ◌≡◌ {A = ℕ} 0 (suc (length l)) = ap length e in omega arith)
tail_of {A = A} z zero (q ∷ all) p l e = (ap (λ (m : List A). get_or m 0 z) e, ap (λ (m : List A). drop 1 m) e, omega arith)
tail_of z (suc i) [] p l e = absurd (let z : ◌≡◌ {A = ℕ} 0 (suc (length l)) = ap length e in omega arith)
tail_of z (suc i) (q ∷ all) p l e = let t = tail_of z i all p l e in (t.0, t.1, omega (arith, t.2))

better_yes : (a b : Answer) → b.delay < a.delay → better a b ≡ b
unfolding better
better_yes a b h = rw (lt-ltb b.delay a.delay h)

-- b and c are the delays of two points with numbers i < j
smaller : (M b c i j : ℕ) → j < M → c < b → min (b * M + i) (c * M + j) ≡ c * M + j
smaller M b c i j h k = let m : suc c * M ≤ b * M = mul-le-mul_right M k in omega arith

not_smaller : (M b c i j : ℕ) → i < j → b ≤ c → min (b * M + i) (c * M + j) ≡ b * M + i
not_smaller M b c i j h k = let m : b * M ≤ c * M = mul-le-mul_right M k in omega arith

module _ (M : ℕ) (at : List ℕ → Answer) (all : List (List ℕ)) where
  -- the points l stand from number i on; the best so far has an earlier number
  keyed_on : (l : List (List ℕ)) (i : ℕ) (a : Answer) (k : ℕ) → drop i all ≡ l → i + length l ≤ M → (h : Keyed M at all a k) → h.number < i
      → Keyed M at all (best_of at a l) (least_of k (keys_from M at i l))
  keyed_on [] i a k e m h n = h
  keyed_on (p ∷ l) i a k e m h n = go (keyed_on l (suc i)) (le_or_lt a.delay (at p).delay)
    where
      t : (get_or all i [] ≡ p) × (drop (suc i) all ≡ l) × (i < length all)
      t = tail_of [] i all p l e

      c : ℕ
      c = (at p).delay * M + i

      go : ((b : Answer) (j : ℕ) → drop (suc i) all ≡ l → suc i + length l ≤ M → (h : Keyed M at all b j) → h.number < suc i
          → Keyed M at all (best_of at b l) (least_of j (keys_from M at (suc i) l)))
          → (a.delay ≤ (at p).delay) ⊎ ((at p).delay < a.delay)
          → Keyed M at all (best_of at (better a (at p)) l) (least_of (min k c) (keys_from M at (suc i) l))
      go r (inl x) =
          let d : min k c ≡ k = rw h.is (not_smaller M a.delay (at p).delay h.number i n x) in
          rw (better_stays a (at p) x, d) (r a k t.1 (omega arith) h (omega arith))
      go r (inr x) =
          let d : min k c ≡ c = rw h.is (smaller M a.delay (at p).delay h.number i (omega arith) x) in
          let y : Keyed M at all (at p) c = record { number = i; inside = t.2; small = omega arith; is = refl; there = ap at (sym t.0) } in
          rw (better_yes a (at p) x, d) (r (at p) c t.1 (omega arith) y (omega arith))

-- what a key says of its answer
pub keyed_delay : {M : ℕ} {at : List ℕ → Answer} {points : List (List ℕ)} {a : Answer} {k : ℕ} → Keyed M at points a k → k / M ≡ a.delay
keyed_delay {M} {at} {points} {a} {k} h =
    let z : 0 < M = omega (arith, h.small) in
    rw (h.is, mul-add-div_right z a.delay h.number, div-eq_of_lt h.small) (omega arith)

pub keyed_number : {M : ℕ} {at : List ℕ → Answer} {points : List (List ℕ)} {a : Answer} {k : ℕ} (h : Keyed M at points a k) → k % M ≡ h.number
keyed_number {M} {at} {points} {a} {k} h = rw h.is (mul-add-mod_self_right a.delay M h.number ∙ mod-eq_of_lt h.small)

pub keyed_there : {M : ℕ} {at : List ℕ → Answer} {points : List (List ℕ)} {a : Answer} {k : ℕ} → Keyed M at points a k → a ≡ at (get_or points (k % M) [])
keyed_there {at = at} {points = points} h = h.there ∙ ap (λ (i : ℕ). at (get_or points i [])) (sym (keyed_number h))

-- the best of a list of points, from the first on, has the least key
pub best_keyed : (M : ℕ) (at : List ℕ → Answer) (p : List ℕ) (ps : List (List ℕ)) → length (p ∷ ps) ≤ M
    → Keyed M at (p ∷ ps) (best_of at (at p) (p ∷ ps)) (least_of ((at p).delay * M) (keys_from M at 0 (p ∷ ps)))
best_keyed M at p ps h =
    let z : (at p).delay ≤ (at p).delay = omega arith in
    let e : min ((at p).delay * M) ((at p).delay * M + 0) ≡ (at p).delay * M = omega arith in
    let k : Keyed M at (p ∷ ps) (at p) ((at p).delay * M) = record { number = 0; inside = omega arith; small = omega arith; is = omega arith; there = refl } in
    let r = keyed_on M at (p ∷ ps) ps 1 (at p) ((at p).delay * M) refl (omega arith) k (omega arith) in
    rw (better_stays (at p) (at p) z) (subst (λ (x : ℕ). Keyed M at (p ∷ ps) (best_of at (at p) ps) (least_of x (keys_from M at 1 ps))) (sym e) r)

-- "Mode 0 searches": what the search gives has the least key of the grid; "With every e = 0 the delay is called start", and that point has number 0
pub found_keyed : (M : ℕ) (at : List ℕ → Answer) (n g : ℕ) → 1 ≤ g → g ^ n ≤ M
    → Keyed M at (points_of (steps_of (at (replicate n 0)).delay g) n) (found_of at n 0 g).best
    (least_of ((at (replicate n 0)).delay * M) (keys_from M at 0 (points_of (steps_of (at (replicate n 0)).delay g) n)))
unfolding found_of
found_keyed M at n g h m =
    let s = (at (replicate n 0)).delay in
    let f = points_front s g n h in
    let c = points_count s g n in
    let l : length (replicate n 0 ∷ f.0) ≤ M = omega (arith, c, ap length f.1) in
    rw f.1 (best_keyed M at (replicate n 0) f.0 l)

-- the greatest number that is at most all of them

pub le_least : (c b : ℕ) (l : List ℕ) → c ≤ b → Each (λ x. c ≤ x) l → c ≤ least_of b l
le_least c b [] h k = h
le_least c b (x ∷ l) h k = le_least c (min b x) l (omega (arith, k.0)) k.1

pub least_each : (b : ℕ) (l : List ℕ) → Each (λ x. least_of b l ≤ x) l
least_each b [] = tt
least_each b (x ∷ l) = (omega (arith, least_le (min b x) l), least_each (min b x) l)

-- lists that are above the same numbers have one least
pub least_same : (b : ℕ) (l m : List ℕ) → ((c : ℕ) → Each (λ x. c ≤ x) l → Each (λ x. c ≤ x) m) → ((c : ℕ) → Each (λ x. c ≤ x) m → Each (λ x. c ≤ x) l)
    → least_of b l ≡ least_of b m
least_same b l m f g =
    le_antisymm (le_least (least_of b l) b m (least_le b l) (f (least_of b l) (least_each b l)))
    (le_least (least_of b m) b l (least_le b m) (g (least_of b m) (least_each b m)))
