-- At most 31 groups: a nested row of N servers has at most 2 N - 1 groups.
-- Of the paths that begin at one server the longest is counted with the server; each other is counted with its last server, no two with the same,
-- and none with the last server of all.
-- Assumes nothing.
use Rattle.std.specs.Prelude.{◌≡◌, Bool, ◌&&◌, ◌⊎◌, eqb}
use Rattle.std.proofs.Math.Path.{refl, sym, ap}
use Rattle.std.proofs.Common.{◌∙◌, true≢false, inl, inr}
use Rattle.std.proofs.Math.Bool.{true, false}
use Prim.Native.Nat.{ℕ, zero, suc, ◌+◌, ◌*◌, ◌-◌, ◌≤◌, ◌<◌}
use native.Mathlib.Omega.{arith}
use Rattle.std.proofs.Math.Dec.{ltb}
use Rattle.std.proofs.Math.ListN.{length, length-append}
use borrow.Author.Tests.{lt-ltb, ltb-true, eq-eqb}
use Rattle.tandem.specs.Sums.{weigh, total, any}
use Rattle.tandem.specs.Tandem.{Tandem, size, flow, on}
use Rattle.row.specs.Groups.{used, path, put, from, from_on, groups}
use Rattle.tandem.specs.Sound.{Limits}
use Rattle.row.specs.Accepted.{Accepted}
use Rattle.ground.proofs.OrderLaws.{le_or_lt}
use Rattle.tandem.proofs.TestLaws.{not_passed, both_true, true_both, decide}
use Rattle.tandem.proofs.SumLaws.{total_mono, total_add, total_zero, total_same, total_swap, total_pick, total_front, total_le, total_one, any_at, any_found}
use Rattle.tandem.proofs.TandemLaws.{on_is}

-- one above l passes
unfoldable above : ℕ → (ℕ → Bool) → ℕ → Bool
above n U l = any n (λ m. ltb l m && U m)

-- of those that pass all but the last have one above
last_of : (n : ℕ) (U : ℕ → Bool) → ((m : ℕ) → m < n → U m ≡ false) ⊎ ((x : ℕ) × (x < n) × (U x ≡ true) × ((m : ℕ) → x < m → m < n → U m ≡ false))
last_of zero U = inl (λ m l. absurd (omega arith))
last_of (suc n) U = go (decide (U n)) (last_of n U)
  where
    go : (U n ≡ true) ⊎ (U n ≡ false) → ((m : ℕ) → m < n → U m ≡ false) ⊎ ((x : ℕ) × (x < n) × (U x ≡ true) × ((m : ℕ) → x < m → m < n → U m ≡ false))
        → ((m : ℕ) → m < suc n → U m ≡ false) ⊎ ((x : ℕ) × (x < suc n) × (U x ≡ true) × ((m : ℕ) → x < m → m < suc n → U m ≡ false))
    go (inl e) r = inr (n, omega arith, e, λ m a b. absurd (omega arith))
    go (inr e) (inl r) = inl (λ m l. step m l (le_or_lt n m))
      where
        step : (m : ℕ) → m < suc n → (n ≤ m) ⊎ (m < n) → U m ≡ false
        step m l (inl k) = let d : m ≡ n = omega arith in rw d e
        step m l (inr k) = r m k
    go (inr e) (inr r) = inr (r.0, omega (arith, r.1), r.2, λ m a b. step m a b (le_or_lt n m))
      where
        step : (m : ℕ) → r.0 < m → m < suc n → (n ≤ m) ⊎ (m < n) → U m ≡ false
        step m a b (inl k) = let d : m ≡ n = omega arith in rw d e
        step m a b (inr k) = r.3 m a k

all_but_one : (n : ℕ) (U : ℕ → Bool) → total n (λ l. weigh (U l) 1) ≤ 1 + total n (λ l. weigh (U l && above n U l) 1)
unfolding above
all_but_one n U = go (last_of n U)
  where
    go : ((m : ℕ) → m < n → U m ≡ false) ⊎ ((x : ℕ) × (x < n) × (U x ≡ true) × ((m : ℕ) → x < m → m < n → U m ≡ false))
        → total n (λ l. weigh (U l) 1) ≤ 1 + total n (λ l. weigh (U l && above n U l) 1)
    go (inl h) = let z = total_zero n (λ l. weigh (U l) 1) (λ l k. rw (h l k)) in omega arith
    go (inr (x, hx, ux, top)) =
        let m = total_mono n (λ l. weigh (U l) 1) (λ l. weigh (eqb l x) 1 + weigh (U l && above n U l) 1) (λ l k. each l k (U l) refl (le_or_lt x l)) in
        omega (arith, m, total_add n (λ l. weigh (eqb l x) 1) (λ l. weigh (U l && above n U l) 1), total_pick n x 1 hx)
      where
        each : (l : ℕ) → l < n → (b : Bool) → U l ≡ b → (x ≤ l) ⊎ (l < x) → weigh (U l) 1 ≤ weigh (eqb l x) 1 + weigh (U l && above n U l) 1
        each l k false e c = rw e (omega arith)
        each l k true e (inr c) =
            let a : any n (λ m. ltb l m && U m) ≡ true = any_at n x (λ m. ltb l m && U m) hx (true_both (ltb l x) (U x) (lt-ltb l x c) ux) in
            rw (e, a) (omega arith)
        each l k true e (inl c) = turn (le_or_lt l x)
          where
            turn : (l ≤ x) ⊎ (x < l) → weigh (U l) 1 ≤ weigh (eqb l x) 1 + weigh (U l && above n U l) 1
            turn (inl d) = let q : l ≡ x = omega arith in rw (eq-eqb l x q, e) (omega arith)
            turn (inr d) = absurd (true≢false (sym e ∙ top l d k))

module _ (row : Tandem) (ok : Accepted row) where
  -- the path from server i + 1 to server l + 1 occurs
  U : ℕ → ℕ → Bool
  U i l = used row (path (suc i) (suc l))

  from_count : (i m : ℕ) → length (from row (suc i) m) ≡ total m (λ l. weigh (U i l) 1)
  unfolding from total U
  from_count i zero = refl
  from_count i (suc m) = go (used row (path (suc i) (suc m))) (from_count i m)
    where
      go : (b : Bool) → length (from row (suc i) m) ≡ total m (λ l. weigh (used row (path (suc i) (suc l))) 1)
          → length (put b (path (suc i) (suc m)) (from row (suc i) m)) ≡ total m (λ l. weigh (used row (path (suc i) (suc l))) 1) + weigh b 1
      go true r = omega arith
      go false r = omega arith

  from_on_count : (n i : ℕ) → length (from_on row (suc i) n) ≡ total n (λ k. length (from row (suc (i + k)) (size row)))
  unfolding from_on
  from_on_count zero i = total_empty (λ k. length (from row (suc (i + k)) (size row)))
    where
      total_empty : (g : ℕ → ℕ) → 0 ≡ total 0 g
      total_empty g = sym (total_zero 0 g (λ f l. absurd (omega arith)))
  from_on_count (suc n) i =
      let z : i + 0 ≡ i = omega arith in
      let s = total_same n (λ k. length (from row (suc (suc i + k)) (size row))) (λ k. length (from row (suc (i + suc k)) (size row)))
      (λ k l. let e : suc i + k ≡ i + suc k = omega arith in ap (λ (x : ℕ). length (from row (suc x) (size row))) e) in
      omega (
        arith,
        length-append (from row (suc i) (size row)) (from_on row (suc (suc i)) n),
        from_on_count n (suc i),
        total_front n (λ k. length (from row (suc (i + k)) (size row))),
        s,
        ap (λ (x : ℕ). length (from row (suc x) (size row))) z,
      )

  -- a path that occurs and is shorter than another with its first server
  inner : ℕ → ℕ → Bool
  inner i l = U i l && above (size row) (U i) l

  inner_is : (i l : ℕ) → (U i l && above (size row) (U i) l) ≡ inner i l
  unfolding inner
  inner_is i l = refl

  is_used : (i l : ℕ) → U i l ≡ true → (f : ℕ) × (f < length row.flows) × ((flow row f).first ≡ suc i) × ((flow row f).last ≡ suc l)
  unfolding U used
  is_used i l h =
      let w = any_found (length row.flows) (on row (path (suc i) (suc l))) h in
      let o = on_is row (path (suc i) (suc l)) w.0 w.2 in
      (w.0, w.1, o.2, o.3)

  -- no two of these have the same last server
  apart : (l i h : ℕ) → h < size row → inner i l ≡ true → inner h l ≡ true → i < h → ⊥
  unfolding inner above
  apart l i h s a b k =
      let x = both_true (U i l) (any (size row) (λ m. ltb l m && U i m)) a in
      let y = both_true (U h l) (any (size row) (λ m. ltb l m && U h m)) b in
      let m = any_found (size row) (λ m. ltb l m && U h m) y.1 in
      let c = both_true (ltb l m.0) (U h m.0) m.2 in
      let f = is_used i l x.0 in
      let g = is_used h l y.0 in
      let q = is_used h m.0 c.1 in
      step f.0 g.0 q.0 m.0 f.1 q.1 f.2 f.3 g.2 g.3 q.2 q.3 (ltb-true l m.0 c.0) (ok.sound.paths g.0 g.1).2
    where
      step : (f g q m : ℕ) → f < length row.flows → q < length row.flows → (flow row f).first ≡ suc i → (flow row f).last ≡ suc l
          → (flow row g).first ≡ suc h → (flow row g).last ≡ suc l
          → (flow row q).first ≡ suc h → (flow row q).last ≡ suc m → l < m
          → ((flow row g).first ≤ (flow row g).last) ⊎ (((flow row g).last ≡ 0) ⊎ (size row < (flow row g).first)) → ⊥
      step f g q m hf hq a b c d e z lt (inl w) = let n = ok.nested f q hf hq (omega arith) (omega arith) in omega arith
      step f g q m hf hq a b c d e z lt (inr (inl w)) = omega arith
      step f g q m hf hq a b c d e z lt (inr (inr w)) = omega arith

  -- nor one of them the last server of all
  not_last : (i l : ℕ) → suc l ≡ size row → inner i l ≡ false
  unfolding inner above
  not_last i l e = not_passed (U i l && any (size row) (λ m. ltb l m && U i m)) (λ k.
      let x = both_true (U i l) (any (size row) (λ m. ltb l m && U i m)) k in
      let m = any_found (size row) (λ m. ltb l m && U i m) x.1 in
      let c = both_true (ltb l m.0) (U i m.0) m.2 in
      let d = ltb-true l m.0 c.0 in
      omega (arith, m.1))

  column : (l : ℕ) → total (size row) (λ i. weigh (inner i l) 1) ≤ 1
  column l = total_one (size row) (λ i. inner i l) (λ i h a b x y. same i h a b x y (le_or_lt i h) (le_or_lt h i))
    where
      same : (i h : ℕ) → i < size row → h < size row → inner i l ≡ true → inner h l ≡ true → (i ≤ h) ⊎ (h < i) → (h ≤ i) ⊎ (i < h) → i ≡ h
      same i h a b x y (inr k) c = absurd (apart l h i a y x k)
      same i h a b x y (inl k) (inr c) = absurd (apart l i h b x y c)
      same i h a b x y (inl k) (inl c) = omega arith

  -- two groups for each server, less one
  two_a_server : length (groups row) + 1 ≤ size row + size row
  unfolding groups total
  two_a_server = finish (size row - 1) (omega (arith, ok.sound.long))
    where
      N : ℕ
      N = size row

      each : (k : ℕ) → k < size row → length (from row (suc (0 + k)) (size row)) ≤ 1 + total (size row) (λ l. weigh (inner k l) 1)
      each k h =
          let e : 0 + k ≡ k = omega arith in
          rw e (omega (arith, from_count k (size row), all_but_one (size row) (U k), within k))
        where
          within : (k : ℕ) → total (size row) (λ l. weigh (U k l && above (size row) (U k) l) 1) ≡ total (size row) (λ l. weigh (inner k l) 1)
          within k = total_same (size row) _ _ (λ l h. ap (λ (b : Bool). weigh b 1) (inner_is k l))

      finish : (M : ℕ) → size row ≡ suc M → length (from_on row 1 (size row)) + 1 ≤ size row + size row
      finish M e =
          let a = from_on_count (size row) 0 in
          let b = total_mono (size row) (λ k. length (from row (suc (0 + k)) (size row))) (λ k. 1 + total (size row) (λ l. weigh (inner k l) 1)) each in
          let c = total_add (size row) (λ k. 1) (λ k. total (size row) (λ l. weigh (inner k l) 1)) in
          let d = total_le (size row) (λ k. 1) (λ k l. omega arith) in
          let s = total_swap (size row) (size row) (λ k l. weigh (inner k l) 1) in
          let g : total (size row) (λ l. total (size row) (λ k. weigh (inner k l) 1))
          ≡ total (suc M) (λ l. total (size row) (λ k. weigh (inner k l) 1)) =
          ap (λ (n : ℕ). total n (λ l. total (size row) (λ k. weigh (inner k l) 1))) e in
          let m = total_le M (λ l. total (size row) (λ k. weigh (inner k l) 1)) (λ l h. column l) in
          let z = total_zero (size row) (λ k. weigh (inner k M) 1) (λ k h. rw (not_last k M (sym e))) in
          omega (arith, a, b, c, d, s, g, m, z)

pub group_count : (row : Tandem) → Accepted row → length (groups row) + 1 ≤ 2 * size row
group_count row ok = omega (arith, two_a_server row ok)

pub few_groups : (row : Tandem) → Accepted row → Limits row → length (groups row) ≤ 31
few_groups row ok lim = omega (arith, two_a_server row ok, lim.few_servers)
