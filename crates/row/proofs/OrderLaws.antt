-- The groups of an accepted row stand in order, and every flow but the watched one is in one of them.
-- Assumes nothing.
use Rattle.std.specs.Prelude.{◌≡◌, Bool, ◌||◌, ◌⊎◌}
use Rattle.std.proofs.Math.Path.{refl, subst}
use Rattle.std.proofs.Common.{sym, ◌∙◌, true≢false}
use Rattle.std.proofs.Math.Bool.{true, false}
use Rattle.std.proofs.lemmas.Bool.{false≢true}
use Rattle.std.proofs.Math.Logic.{inl, inr}
use mathlib.Core.List.{List, [], ◌∷◌, ◌++◌}
use Prim.Native.Nat.{ℕ, zero, suc, ◌+◌, ◌≤◌, ◌<◌}
use native.Mathlib.Omega.{arith}
use Rattle.std.proofs.Math.ListN.{length}
use Rattle.ground.proofs.OrderLaws.{le_or_lt}
use Rattle.tandem.specs.Sums.{any}
use Rattle.tandem.specs.Tandem.{Tandem, Path, size, flow, on}
use Rattle.tandem.proofs.TestLaws.{or_left, or_right, or_cases}
use Rattle.tandem.proofs.SumLaws.{any_at, any_found}
use Rattle.tandem.proofs.TandemLaws.{on_is, is_on}
use Rattle.row.specs.Groups.{used, path, put, from, from_on, groups}
use Rattle.row.specs.Accepted.{Accepted}
use Rattle.row.specs.Order.{later, Order}

module _ (row : Tandem) (ok : Accepted row) where
  pub later_real : (gs : List Path) (f : ℕ) → later row gs f ≡ true → (0 < f) × (f < length row.flows)
  unfolding later
  later_real [] f h = absurd (false≢true h)
  later_real (g ∷ gs) f h = go (or_cases (on row g f) (later row gs f) h) (later_real gs f)
    where
      go : (on row g f ≡ true) ⊎ (later row gs f ≡ true) → (later row gs f ≡ true → (0 < f) × (f < length row.flows)) → (0 < f) × (f < length row.flows)
      go (inl k) r = let o = on_is row g f k in (o.0, o.1)
      go (inr k) r = r k

  later_append : (l m : List Path) (f : ℕ) → later row (l ++ m) f ≡ true → (later row l f ≡ true) ⊎ (later row m f ≡ true)
  unfolding later
  later_append [] m f h = inr h
  later_append (g ∷ l) m f h = go (or_cases (on row g f) (later row (l ++ m) f) h) (later_append l m f)
    where
      go : (on row g f ≡ true) ⊎ (later row (l ++ m) f ≡ true) → (later row (l ++ m) f ≡ true → (later row l f ≡ true) ⊎ (later row m f ≡ true))
          → ((on row g f || later row l f) ≡ true) ⊎ (later row m f ≡ true)
      go (inl k) r = inl (or_left (on row g f) (later row l f) k)
      go (inr k) r = turn (r k)
        where
          turn : (later row l f ≡ true) ⊎ (later row m f ≡ true) → ((on row g f || later row l f) ≡ true) ⊎ (later row m f ≡ true)
          turn (inl x) = inl (or_right (on row g f) (later row l f) x)
          turn (inr x) = inr x

  later_left : (l m : List Path) (f : ℕ) → later row l f ≡ true → later row (l ++ m) f ≡ true
  unfolding later
  later_left [] m f h = absurd (false≢true h)
  later_left (g ∷ l) m f h = go (or_cases (on row g f) (later row l f) h) (later_left l m f)
    where
      go : (on row g f ≡ true) ⊎ (later row l f ≡ true) → (later row l f ≡ true → later row (l ++ m) f ≡ true) → (on row g f || later row (l ++ m) f) ≡ true
      go (inl k) r = or_left (on row g f) (later row (l ++ m) f) k
      go (inr k) r = or_right (on row g f) (later row (l ++ m) f) (r k)

  later_right : (l m : List Path) (f : ℕ) → later row m f ≡ true → later row (l ++ m) f ≡ true
  unfolding later
  later_right [] m f h = h
  later_right (g ∷ l) m f h = or_right (on row g f) (later row (l ++ m) f) (later_right l m f h)

  -- the groups from server i: their flows begin there, and end by m
  from_is : (i m f : ℕ) → later row (from row i m) f ≡ true → ((flow row f).first ≡ i) × ((flow row f).last ≤ m)
  unfolding from later
  from_is i zero f h = absurd (false≢true h)
  from_is i (suc m) f h = go (used row (path i (suc m))) h (from_is i m f)
    where
      go : (b : Bool) → later row (put b (path i (suc m)) (from row i m)) f ≡ true
          → (later row (from row i m) f ≡ true → ((flow row f).first ≡ i) × ((flow row f).last ≤ m))
          → ((flow row f).first ≡ i) × ((flow row f).last ≤ suc m)
      go false h r = let x = r h in (x.0, omega (arith, x.1))
      go true h r = turn (or_cases (on row (path i (suc m)) f) (later row (from row i m) f) h)
        where
          turn : (on row (path i (suc m)) f ≡ true) ⊎ (later row (from row i m) f ≡ true) → ((flow row f).first ≡ i) × ((flow row f).last ≤ suc m)
          turn (inl k) = let o = on_is row (path i (suc m)) f k in (o.2, omega (arith, o.3))
          turn (inr k) = let x = r k in (x.0, omega (arith, x.1))

  from_on_is : (n i f : ℕ) → later row (from_on row i n) f ≡ true → i ≤ (flow row f).first
  unfolding from_on later
  from_on_is zero i f h = absurd (false≢true h)
  from_on_is (suc n) i f h = go (later_append (from row i (size row)) (from_on row (suc i) n) f h) (from_on_is n (suc i) f)
    where
      go : (later row (from row i (size row)) f ≡ true) ⊎ (later row (from_on row (suc i) n) f ≡ true)
          → (later row (from_on row (suc i) n) f ≡ true → suc i ≤ (flow row f).first) → i ≤ (flow row f).first
      go (inl k) r = omega (arith, (from_is i (size row) f k).0)
      go (inr k) r = omega (arith, r k)

  from_has : (m f : ℕ) → 0 < f → f < length row.flows → 0 < (flow row f).last → (flow row f).last ≤ m → later row (from row (flow row f).first m) f ≡ true
  unfolding from later used
  from_has zero f h k a b = absurd (omega arith)
  from_has (suc m) f h k a b = go (le_or_lt (flow row f).last m) (from_has m f h k a)
    where
      i : ℕ
      i = (flow row f).first

      keep_on : (c : Bool) → later row (from row i m) f ≡ true → later row (put c (path i (suc m)) (from row i m)) f ≡ true
      keep_on true x = or_right (on row (path i (suc m)) f) (later row (from row i m) f) x
      keep_on false x = x

      go : ((flow row f).last ≤ m) ⊎ (m < (flow row f).last) → ((flow row f).last ≤ m → later row (from row i m) f ≡ true)
          → later row (put (any (length row.flows) (on row (path i (suc m)))) (path i (suc m)) (from row i m)) f ≡ true
      go (inl x) r = keep_on (any (length row.flows) (on row (path i (suc m)))) (r x)
      go (inr x) r =
          let o : on row (path i (suc m)) f ≡ true = is_on row (path i (suc m)) f h k refl (omega arith) in
          rw (any_at (length row.flows) f (on row (path i (suc m))) k o) (or_left (on row (path i (suc m)) f) (later row (from row i m) f) o)

  from_on_has : (n i f : ℕ) → 0 < f → f < length row.flows → (flow row f).first ≤ (flow row f).last → i ≤ (flow row f).first
      → (flow row f).first < i + n → later row (from_on row i n) f ≡ true
  unfolding from_on later
  from_on_has zero i f h k p a b = absurd (omega arith)
  from_on_has (suc n) i f h k p a b = go (le_or_lt (flow row f).first i) (from_on_has n (suc i) f h k p)
    where
      go : ((flow row f).first ≤ i) ⊎ (i < (flow row f).first)
          → (suc i ≤ (flow row f).first → (flow row f).first < suc i + n → later row (from_on row (suc i) n) f ≡ true)
          → later row (from row i (size row) ++ from_on row (suc i) n) f ≡ true
      go (inl x) r =
          let v = ok.sound.paths f k in
          let e : (flow row f).first ≡ i = omega arith in
          let y : later row (from row i (size row)) f ≡ true =
          subst (λ (z : ℕ). later row (from row z (size row)) f ≡ true) e (from_has (size row) f h k (omega (arith, v.0)) v.1) in
          later_left (from row i (size row)) (from_on row (suc i) n) f y
      go (inr x) r = later_right (from row i (size row)) (from_on row (suc i) n) f (r x (omega arith))

  order_from : (i m : ℕ) (rest : List Path) → i ≤ size row → Order row rest → ((f : ℕ) → later row rest f ≡ true → i < (flow row f).first)
      → Order row (from row i m ++ rest)
  unfolding from Order used
  order_from i zero rest small o h = o
  order_from i (suc m) rest small o h = go (any (length row.flows) (on row (path i (suc m)))) refl (order_from i m rest small o h)
    where
      go : (b : Bool) → any (length row.flows) (on row (path i (suc m))) ≡ b → Order row (from row i m ++ rest)
          → Order row (put b (path i (suc m)) (from row i m) ++ rest)
      go false e r = r
      go true e r = (
        let w = any_found (length row.flows) (on row (path i (suc m))) e in (w.0, w.2, real w.0 w.2),
        λ f k. turn f (later_append (from row i m) rest f k),
        r,
      )
        where
          real : (w : ℕ) → on row (path i (suc m)) w ≡ true → i ≤ suc m
          real w k = let x = on_is row (path i (suc m)) w k in step x (ok.sound.paths w x.1).2
            where
              step : (0 < w) × (w < length row.flows) × ((flow row w).first ≡ i) × ((flow row w).last ≡ suc m)
                  → ((flow row w).first ≤ (flow row w).last) ⊎ (((flow row w).last ≡ 0) ⊎ (size row < (flow row w).first)) → i ≤ suc m
              step x (inl a) = omega (arith, x.2, x.3)
              step x (inr (inl a)) = absurd (omega (arith, x.3))
              step x (inr (inr a)) = absurd (omega (arith, x.2))

          turn : (f : ℕ) → (later row (from row i m) f ≡ true) ⊎ (later row rest f ≡ true)
              → (i < (flow row f).first) ⊎ ((i ≡ (flow row f).first) × ((flow row f).last < suc m))
          turn f (inl k) = let x = from_is i m f k in inr (sym x.0, omega (arith, x.1))
          turn f (inr k) = inl (h f k)

  order_from_on : (n i : ℕ) → i + n ≤ suc (size row) → Order row (from_on row i n)
  unfolding from_on Order
  order_from_on zero i h = tt
  order_from_on (suc n) i h = order_from i (size row) (from_on row (suc i) n) (omega arith) (order_from_on n (suc i) (omega arith)) (from_on_is n (suc i))

  pub order_groups : Order row (groups row)
  unfolding groups
  order_groups = order_from_on (size row) 1 (omega arith)

  -- a flow of the row that is in no group is the watched one
  pub lone : (f : ℕ) → f < length row.flows → (flow row f).first ≤ (flow row f).last → later row (groups row) f ≡ false → f ≡ 0
  unfolding groups
  lone f h p e = go (le_or_lt f 0)
    where
      go : (f ≤ 0) ⊎ (0 < f) → f ≡ 0
      go (inl k) = omega arith
      go (inr k) = let v = ok.sound.paths f h in absurd (true≢false (sym (from_on_has (size row) 1 f k h p v.0 (omega (arith, v.1))) ∙ e))
