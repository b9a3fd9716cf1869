-- The point with number i in document 01's order is the one whose digits i has. Chosen from the last group to the first, the points are the
-- same; and of points with equal extras the first has the least key, so equal steps may be taken once.
-- Assumes nothing.
use Rattle.std.specs.Prelude.{◌≡◌, refl, Bool, true, false, ◌⊎◌, ℕ, zero, suc, ◌+◌, ◌*◌, ◌-◌, ◌/◌, ◌%◌, ◌^◌, ◌≤◌, ◌<◌, eqb, length, get_or, replicate}
use Rattle.std.proofs.Common.{sym, ap, ◌∙◌, subst, inl, inr, mul-le-mul_right, mod-eq_of_lt, mod-lt, div-add-mod', pow-suc, mul_comm, mul_assoc, add-mul, div-lt_iff_lt-mul, arith, eqb-true, get_or-append-add}
use mathlib.Core.List.{List, [], ◌∷◌, ◌++◌, append_assoc, append-nil}
use Rattle.std.proofs.Math.Nat.{mul-add-div_right, mul-add-mod_self_right, div-eq_of_lt, pow-zero}
use Rattle.std.proofs.Math.ListN.{get_or-append}
use Rattle.tandem.specs.OfSheet.{listed}
use Rattle.tandem.proofs.OfSheetLaws.{length_listed, listed_at}
use Rattle.ground.proofs.OrderLaws.{le_or_lt}
use Rattle.tree.specs.Grid.{Answer, flat, points_from, points_of, steps_of, found_of}
use Rattle.ground.specs.Each.{Each}
use Rattle.ground.proofs.EachLaws.{each_append, each_map, each_front, each_back}
use Rattle.tree.proofs.GridLaws.{points_from_count, points_count, each_flat}
use Rattle.keys.specs.Keys.{least_of, keys_from, Keyed}
use Rattle.keys.proofs.KeyLaws.{least_same, found_keyed, keyed_there, keyed_number, keyed_delay}
use Rattle.keys.specs.Numbers.{point_at, In, Stand, keep, first_digits, Growing, keys_below}

-- blocks of one length

-- entry r of block q
get_or_flat : {B : Type 0} (h : ℕ → List B) (m : ℕ) (z : B) → ((e : ℕ) → length (h e) ≡ m) → (l : List ℕ) (q r : ℕ) → q < length l → r < m
    → get_or (flat h l) (q * m + r) z ≡ get_or (h (get_or l q 0)) r z
get_or_flat h m z k [] q r p s = absurd (omega arith)
get_or_flat h m z k (e ∷ l) zero r p s =
    let a : 0 * m + r ≡ r = omega arith in
    rw a (get_or-append (h e) (flat h l) z r (omega (arith, k e)))
get_or_flat h m z k (e ∷ l) (suc q) r p s =
    let a : suc q * m + r ≡ length (h e) + (q * m + r) = omega (arith, k e) in
    rw a (get_or-append-add (h e) (flat h l) (q * m + r) z ∙ get_or_flat h m z k l q r (omega arith) s)

-- digits

-- a number below m * g, divided by m
divided : (m g i : ℕ) → i < m * g → (0 < m) × (i / m < g) × (i % m < m) × (i / m * m + i % m ≡ i)
divided zero g i h = absurd (omega arith)
divided (suc f) g i h =
    let m = suc f in
    let z : 0 < m = omega arith in
    (z, (div-lt_iff_lt-mul {k = m} {x = i} {y = g} z).1 (omega (arith, mul_comm g m)), mod-lt i z, div-add-mod' i m)

-- with n digits and one more, without the last
last_digit : (g n i : ℕ) → i < g ^ suc n → (0 < g) × (i / g < g ^ n) × (i % g < g) × (i / g * g + i % g ≡ i)
last_digit g n i h = divided g (g ^ n) i (omega (arith, pow-suc g n, mul_comm g (g ^ n)))

-- and without the first
first_digit : (g n i : ℕ) → i < g ^ suc n → (0 < g ^ n) × (i / g ^ n < g) × (i % g ^ n < g ^ n) × (i / g ^ n * g ^ n + i % g ^ n ≡ i)
first_digit g n i h = divided (g ^ n) g i (omega (arith, pow-suc g n))

-- a digit before the others
front_digit : (step : ℕ → ℕ) (g n d r : ℕ) → d < g → r < g ^ n → point_at step g (suc n) (d * g ^ n + r) ≡ step d ∷ point_at step g n r
front_digit step g zero d r h k =
    let a : g ^ 0 ≡ 1 = pow-zero g in
    let b : d * g ^ 0 ≡ d = rw a (omega arith) in
    let e : d * g ^ 0 + r ≡ d = omega arith in
    ap (λ (x : ℕ). step x ∷ []) (ap (λ (x : ℕ). x % g) e ∙ mod-eq_of_lt h)
front_digit step g (suc n) d r h k =
    let l = last_digit g n r k in
    let e : d * g ^ suc n + r ≡ d * g ^ n * g + r = rw (pow-suc g n) (omega (arith, mul_assoc d (g ^ n) g)) in
    let q : (d * g ^ suc n + r) / g ≡ d * g ^ n + r / g = ap (λ (x : ℕ). x / g) e ∙ mul-add-div_right l.0 (d * g ^ n) r in
    let m : (d * g ^ suc n + r) % g ≡ r % g = ap (λ (x : ℕ). x % g) e ∙ mul-add-mod_self_right (d * g ^ n) g r in
    ap (λ (x : ℕ). point_at step g (suc n) x ++ (step ((d * g ^ suc n + r) % g) ∷ [])) q
    ∙ ap (λ (x : ℕ). point_at step g (suc n) (d * g ^ n + r / g) ++ (step x ∷ [])) m
    ∙ ap (λ (l : List ℕ). l ++ (step (r % g) ∷ [])) (front_digit step g n d (r / g) h l.1)

module _ (step : ℕ → ℕ) (g : ℕ) where
  points_from_at : (n : ℕ) (fixed : List ℕ) (i : ℕ) → i < g ^ n → get_or (points_from (listed g step) fixed n) i [] ≡ fixed ++ point_at step g n i
  points_from_at zero fixed i h =
      let e : i ≡ 0 = omega (arith, pow-zero g) in
      rw e (sym (append-nil fixed))
  points_from_at (suc n) fixed i h =
      let m = g ^ n in
      let c = length_listed g step in
      let d = first_digit g n i h in
      let w : (e : ℕ) → length (points_from (listed g step) (fixed ++ (e ∷ [])) n) ≡ m =
      λ e. points_from_count (listed g step) n (fixed ++ (e ∷ [])) ∙ ap (λ (x : ℕ). x ^ n) c in
      let f = get_or_flat (λ (e : ℕ). points_from (listed g step) (fixed ++ (e ∷ [])) n) m [] w (listed g step) (i / m) (i % m) (omega (arith, d.1)) d.2 in
      let s = listed_at g step (i / m) 0 d.1 in
      ap (λ (x : ℕ). get_or (points_from (listed g step) fixed (suc n)) x []) (sym d.3)
      ∙ f
      ∙ ap (λ (x : ℕ). get_or (points_from (listed g step) (fixed ++ (x ∷ [])) n) (i % m) []) s
      ∙ points_from_at n (fixed ++ (step (i / m) ∷ [])) (i % m) d.2
      ∙ append_assoc fixed (step (i / m) ∷ []) (point_at step g n (i % m))
      ∙ ap (λ (l : List ℕ). fixed ++ l) (sym (front_digit step g n (i / m) (i % m) d.1 d.2) ∙ ap (point_at step g (suc n)) d.3)

  -- the point with number i in document 01's order
  pub point_numbered : (n i : ℕ) → i < g ^ n → get_or (points_of (listed g step) n) i [] ≡ point_at step g n i
  unfolding points_of
  point_numbered n i h = points_from_at n [] i h

-- what is at most each of a list

each_block : (P : ℕ → Type 0) (h : ℕ → List ℕ) (l : List ℕ) (d : ℕ) → In d l → Each P (flat h l) → Each P (h d)
each_block P h [] d i a = absurd i
each_block P h (e ∷ l) d (inl i) a = rw i (each_front P (h e) (flat h l) a)
each_block P h (e ∷ l) d (inr i) a = each_block P h l d i (each_back P (h e) (flat h l) a)

module _ (M : ℕ) (at : List ℕ → Answer) where
  -- the key of the point p with number i
  abbrev key : List ℕ → ℕ → ℕ
  key p i = (at p).delay * M + i

  keys_at : (c : ℕ) (l : List (List ℕ)) (i : ℕ) → Each (λ x. c ≤ x) (keys_from M at i l) → (j : ℕ) → j < length l → c ≤ key (get_or l j []) (i + j)
  keys_at c [] i h j k = absurd (omega arith)
  keys_at c (p ∷ l) i h zero k = omega (arith, h.0)
  keys_at c (p ∷ l) i h (suc j) k =
      let e : suc i + j ≡ i + suc j = omega arith in
      omega (arith, keys_at c l (suc i) h.1 j (omega arith))

  keys_each : (c : ℕ) (l : List (List ℕ)) (i : ℕ) → ((j : ℕ) → j < length l → c ≤ key (get_or l j []) (i + j)) → Each (λ x. c ≤ x) (keys_from M at i l)
  keys_each c [] i h = tt
  keys_each c (p ∷ l) i h = (
    omega (arith, h 0 (omega arith)),
    keys_each c l (suc i) (λ j k. omega (arith, h (suc j) (omega arith))),
  )

  module _ (step : ℕ → ℕ) (g : ℕ) (ds : List ℕ) (stand : Stand step g ds) where
    -- what is at most each key below a branch is at most the key of each number there
    below_at : (c k : ℕ) (done : List ℕ) (number weight : ℕ) → Each (λ x. c ≤ x) (keys_below M at step g ds k done number weight)
        → (i : ℕ) → i < g ^ k → c ≤ key (point_at step g k i ++ done) (i * weight + number)
    below_at c zero done number weight h i l =
        let e : i ≡ 0 = omega (arith, pow-zero g) in
        rw e (omega (arith, h.0))
    below_at c (suc k) done number weight h i l =
        let q = last_digit g k i l in
        let s = stand.all (i % g) q.2 in
        let d = s.0 in
        let b = each_block (λ x. c ≤ x) (λ (d : ℕ). keys_below M at step g ds k (step d ∷ done) (number + d * weight) (weight * g)) ds d s.1 h in
        let r = below_at c k (step d ∷ done) (number + d * weight) (weight * g) b (i / g) q.1 in
        let p : point_at step g k (i / g) ++ (step d ∷ done) ≡ point_at step g (suc k) i ++ done =
        ap (λ (x : ℕ). point_at step g k (i / g) ++ (x ∷ done)) s.3 ∙ sym (append_assoc (point_at step g k (i / g)) (step (i % g) ∷ []) done) in
        let m : d * weight ≤ i % g * weight = mul-le-mul_right weight s.2 in
        let a : i / g * (weight * g) ≡ i / g * g * weight = ap (λ (x : ℕ). i / g * x) (mul_comm weight g) ∙ sym (mul_assoc (i / g) g weight) in
        let f : i * weight ≡ i / g * g * weight + i % g * weight = ap (λ (x : ℕ). x * weight) (sym q.3) ∙ add-mul (i / g * g) (i % g) weight in
        subst (λ (x : List ℕ). c ≤ key x (i * weight + number)) p (omega (arith, r, m, a, f))

    -- and the other way round
    below_each : (c k : ℕ) (done : List ℕ) (number weight : ℕ)
        → ((i : ℕ) → i < g ^ k → c ≤ key (point_at step g k i ++ done) (i * weight + number))
        → Each (λ x. c ≤ x) (keys_below M at step g ds k done number weight)
    below_each c zero done number weight h = (omega (arith, h 0 (omega (arith, pow-zero g))), tt)
    below_each c (suc k) done number weight h =
        each_flat (λ d. d < g) (λ x. c ≤ x) (λ (d : ℕ). keys_below M at step g ds k (step d ∷ done) (number + d * weight) (weight * g)) ds
        (λ d l. below_each c k (step d ∷ done) (number + d * weight) (weight * g) (each d l)) stand.digits
      where
        each : (d : ℕ) → d < g → (q : ℕ) → q < g ^ k → c ≤ key (point_at step g k q ++ (step d ∷ done)) (q * (weight * g) + (number + d * weight))
        each d l q r =
            let z : 0 < g = omega arith in
            let u : (q * g + d) / g ≡ q = mul-add-div_right z q d ∙ ap (λ (x : ℕ). q + x) (div-eq_of_lt l) ∙ (omega arith) in
            let v : (q * g + d) % g ≡ d = mul-add-mod_self_right q g d ∙ mod-eq_of_lt l in
            let m : suc q * g ≤ g ^ k * g = mul-le-mul_right g r in
            let b : q * g + d < g ^ suc k = omega (arith, pow-suc g k) in
            let p : point_at step g (suc k) (q * g + d) ++ done ≡ point_at step g k q ++ (step d ∷ done) =
            ap (λ (x : ℕ). (point_at step g k x ++ (step ((q * g + d) % g) ∷ [])) ++ done) u
            ∙ ap (λ (x : ℕ). (point_at step g k q ++ (step x ∷ [])) ++ done) v ∙ append_assoc (point_at step g k q) (step d ∷ []) done in
            let a : q * (weight * g) ≡ q * g * weight = ap (λ (x : ℕ). q * x) (mul_comm weight g) ∙ sym (mul_assoc q g weight) in
            let f : (q * g + d) * weight ≡ q * g * weight + d * weight = add-mul (q * g) d weight in
            let w : q * (weight * g) + (number + d * weight) ≡ (q * g + d) * weight + number = omega (arith, a, f) in
            rw w (subst (λ (x : List ℕ). c ≤ key x ((q * g + d) * weight + number)) p (h (q * g + d) b))

    -- the least key over all points, chosen from the last group to the first, is the least in document 01's order
    pub keys_same : (b n : ℕ) → least_of b (keys_below M at step g ds n [] 0 1) ≡ least_of b (keys_from M at 0 (points_of (listed g step) n))
    unfolding points_of
    keys_same b n =
        least_same b (keys_below M at step g ds n [] 0 1) (keys_from M at 0 points)
        (λ c h. keys_each c points 0 (λ j l. there c j (omega (arith, long)) (below_at c n [] 0 1 h j (omega (arith, long)))))
        (λ c h. below_each c n [] 0 1 (λ i l. here c i l (keys_at c points 0 h i (omega (arith, long)))))
      where
        points : List (List ℕ)
        points = points_from (listed g step) [] n

        long : length points ≡ g ^ n
        long = points_from_count (listed g step) n [] ∙ ap (λ (x : ℕ). x ^ n) (length_listed g step)

        same : (i : ℕ) → i < g ^ n → get_or points i [] ≡ point_at step g n i ++ []
        same i l = points_from_at step g n [] i l ∙ sym (append-nil (point_at step g n i))

        there : (c j : ℕ) → j < g ^ n → c ≤ key (point_at step g n j ++ []) (j * 1 + 0) → c ≤ key (get_or points j []) (0 + j)
        there c j l h = rw (same j l) (omega (arith, h))

        here : (c i : ℕ) → i < g ^ n → c ≤ key (get_or points i []) (0 + i) → c ≤ key (point_at step g n i ++ []) (i * 1 + 0)
        here c i l h = rw (← same i l) (omega (arith, h))

-- the digits of which each stands for the first of its equal steps

in_front : (x : ℕ) (l m : List ℕ) → In x l → In x (l ++ m)
in_front x [] m i = absurd i
in_front x (y ∷ l) m (inl e) = inl e
in_front x (y ∷ l) m (inr i) = inr (in_front x l m i)

in_last : (x : ℕ) (l : List ℕ) → In x (l ++ (x ∷ []))
in_last x [] = inl refl
in_last x (y ∷ l) = inr (in_last x l)

one_more : (step : ℕ → ℕ) (n : ℕ) (l : List ℕ) (t : Bool) → eqb (step n) (step (suc n)) ≡ t → Stand step (suc n) l → Stand step (suc (suc n)) (keep t l (suc n))
one_more step n l true e s =
    record { digits = each_map (λ d. d < suc n) (λ d. d < suc (suc n)) l (λ d k. omega arith) s.digits; all = λ r k. go r k (le_or_lt r n) }
  where
    go : (r : ℕ) → r < suc (suc n) → (r ≤ n) ⊎ (n < r) → (d : ℕ) × In d l × (d ≤ r) × (step d ≡ step r)
    go r k (inl h) = s.all r (omega arith)
    go r k (inr h) =
        let a = s.all n (omega arith) in
        let b : suc n ≡ r = omega arith in
        (a.0, a.1, omega (arith, a.2), a.3 ∙ eqb-true (step n) (step (suc n)) e ∙ ap step b)
one_more step n l false e s =
    record {
      digits = each_append (λ d. d < suc (suc n)) l (suc n ∷ []) (each_map (λ d. d < suc n) (λ d. d < suc (suc n)) l (λ d k. omega arith) s.digits)
          (omega arith, tt);
      all = λ r k. go r k (le_or_lt r n);
    }
  where
    go : (r : ℕ) → r < suc (suc n) → (r ≤ n) ⊎ (n < r) → (d : ℕ) × In d (l ++ (suc n ∷ [])) × (d ≤ r) × (step d ≡ step r)
    go r k (inl h) = let a = s.all r (omega arith) in (a.0, in_front a.0 l (suc n ∷ []) a.1, a.2, a.3)
    go r k (inr h) =
        let b : suc n ≡ r = omega arith in
        (suc n, in_last (suc n) l, omega arith, ap step b)

pub first_digits_stand : (step : ℕ → ℕ) (n : ℕ) → Stand step n (first_digits step n)
first_digits_stand step zero = record { digits = tt; all = λ r k. absurd (omega arith) }
first_digits_stand step (suc zero) =
    record { digits = (omega arith, tt); all = λ r k. let e : 0 ≡ r = omega arith in (0, inl refl, omega arith, ap step e) }
first_digits_stand step (suc (suc n)) = one_more step n (first_digits step (suc n)) (eqb (step n) (step (suc n))) refl (first_digits_stand step (suc n))

-- what the search gives, by the least key over the points chosen from the last group to the first: the remainder of the key is a number whose
-- digits are the answer's point, and the quotient is its delay
pub found_chosen : (M : ℕ) (at : List ℕ → Answer) (n g : ℕ) (ds : List ℕ) (key : ℕ) → 1 ≤ g → g ^ n ≤ M
    → Stand (λ i. i * (at (replicate n 0)).delay / (g - 1)) g ds
    → key ≡ least_of ((at (replicate n 0)).delay * M) (keys_below M at (λ i. i * (at (replicate n 0)).delay / (g - 1)) g ds n [] 0 1)
    → ((found_of at n 0 g).best ≡ at (point_at (λ i. i * (at (replicate n 0)).delay / (g - 1)) g n (key % M)))
    × ((found_of at n 0 g).best.delay ≡ key / M) × (key % M < g ^ n)
unfolding steps_of
found_chosen M at n g ds key h m s e =
    let start = (at (replicate n 0)).delay in
    let step : ℕ → ℕ = λ i. i * start / (g - 1) in
    let k = subst (Keyed M at (points_of (listed g step) n) (found_of at n 0 g).best) (sym (e ∙ keys_same M at step g ds s (start * M) n))
    (found_keyed M at n g h m) in
    let i : key % M < g ^ n = omega (arith, k.inside, keyed_number k, points_count start g n) in
    (keyed_there k ∙ ap at (point_numbered step g n (key % M) i), sym (keyed_delay k), i)

-- the digits that the search takes grow, and so do their steps
pub grow_snoc : (l : List ℕ) (d : ℕ) → Growing l → Each (λ e. e < d) l → Growing (l ++ (d ∷ []))
grow_snoc [] d o h = (tt, tt)
grow_snoc (e ∷ l) d o h = (each_append (λ x. e < x) l (d ∷ []) o.0 (h.0, tt), grow_snoc l d o.1 h.1)

grow_keep : (l : List ℕ) (d : ℕ) (t : Bool) → Growing l → Each (λ e. e < d) l → Growing (keep t l d)
grow_keep l d true o h = o
grow_keep l d false o h = grow_snoc l d o h

pub first_digits_grow : (step : ℕ → ℕ) (g : ℕ) → Growing (first_digits step g)
first_digits_grow step zero = tt
first_digits_grow step (suc zero) = (tt, tt)
first_digits_grow step (suc (suc n)) =
    grow_keep (first_digits step (suc n)) (suc n) (eqb (step n) (step (suc n))) (first_digits_grow step (suc n)) (first_digits_stand step (suc n)).digits
