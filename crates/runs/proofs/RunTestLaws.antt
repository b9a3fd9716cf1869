-- The tests of the premises are sound: a record that passes them keeps the premises.
-- Assumes nothing.
use Rattle.std.specs.Prelude.{◌≡◌, refl, Bool, true, false, ◌&&◌, ◌⊎◌, ℕ, zero, suc, ◌+◌, ◌-◌, ◌≤◌, ◌<◌, eqb}
use Rattle.std.proofs.Common.{sym, ◌∙◌, true≢false, inl, inr, arith}
use Rattle.std.proofs.lemmas.Bool.{false≢true}
use mathlib.Core.List.{List, [], ◌∷◌, Memᴰ}
use Rattle.std.proofs.Math.ListN.{length}
use borrow.Author.Tests.{leb-true, eqb-true, eq-eqb}
use Rattle.curves.specs.Slots.{serve}
use Rattle.ground.proofs.OrderLaws.{le_or_lt}
use Rattle.tandem.specs.Tandem.{Tandem, size, server, crosses}
use Rattle.tandem.proofs.TestLaws.{both_true, or_left, or_right, or_cases}
use Rattle.tandem.proofs.SumLaws.{any_found}
use Rattle.ground.specs.Each.{Each}
use Rattle.runs.specs.Lines.{keep, Prefix}
use Rattle.runs.specs.Run.{Run, joined_by, left_by, OnPath, InOrder, Relayed, KeepsBuckets, Guarantees, Keeps}
use Rattle.runs.specs.RunTests.{each, each_of, begins, same, has, on_path, in_order, relayed, keeps_buckets, guarantees, keeps_all}

each_at : (n : ℕ) (p : ℕ → Bool) → each n p ≡ true → (i : ℕ) → i < n → p i ≡ true
unfolding each
each_at zero p h i k = absurd (omega arith)
each_at (suc n) p h i k = go (both_true (each n p) (p n) h) (le_or_lt n i) (each_at n p)
  where
    go : (each n p ≡ true) × (p n ≡ true) → (n ≤ i) ⊎ (i < n) → (each n p ≡ true → (i : ℕ) → i < n → p i ≡ true) → p i ≡ true
    go b (inl l) r = let e : i ≡ n = omega arith in rw e b.1
    go b (inr l) r = r b.0 i l

-- server j counted from 1, slot t counted from 1
from_one : (P : ℕ → Type 0) (n : ℕ) → ((i : ℕ) → i < n → P (suc i)) → (j : ℕ) → 0 < j → j ≤ n → P j
from_one P n h zero a b = absurd (omega arith)
from_one P n h (suc j) a b = h j (omega arith)

pub each_of_lem : (p : ℕ → Bool) (l : List ℕ) → each_of p l ≡ true → Each (λ b. p b ≡ true) l
unfolding each_of
each_of_lem p [] h = tt
each_of_lem p (x ∷ xs) h = let b = both_true (p x) (each_of p xs) h in (b.0, each_of_lem p xs b.1)

pub begins_is : (l m : List ℕ) → begins l m ≡ true → Prefix l m
unfolding begins
begins_is [] m h = record { rest = m; whole = refl }
begins_is (x ∷ l) [] h = absurd (false≢true h)
begins_is (x ∷ l) (y ∷ m) h =
    let b = both_true (eqb x y) (begins l m) h in
    let r = begins_is l m b.1 in
    record { rest = r.rest; whole = cc (eqb-true x y b.0, r.whole) }

pub same_is : (l m : List ℕ) → same l m ≡ true → l ≡ m
unfolding same
same_is [] [] h = refl
same_is [] (y ∷ m) h = absurd (false≢true h)
same_is (x ∷ l) [] h = absurd (false≢true h)
same_is (x ∷ l) (y ∷ m) h = let b = both_true (eqb x y) (same l m) h in cc (eqb-true x y b.0, same_is l m b.1)

pub has_is : (x : ℕ) (l : List ℕ) → has x l ≡ true → Memᴰ x l
unfolding has
has_is x [] h = absurd (false≢true h)
has_is x (y ∷ l) h = go (or_cases (eqb x y) (has x l) h) (has_is x l)
  where
    go : (eqb x y ≡ true) ⊎ (has x l ≡ true) → (has x l ≡ true → Memᴰ x l) → Memᴰ x (y ∷ l)
    go (inl e) r = Memᴰ.head (eqb-true x y e)
    go (inr e) r = Memᴰ.tail (r e)

is_has : (x : ℕ) (l : List ℕ) → Memᴰ x l → has x l ≡ true
unfolding has
is_has x [] m = elim m [ ]
is_has x (y ∷ l) (Memᴰ.head e) = or_left (eqb x y) (has x l) (eq-eqb x y e)
is_has x (y ∷ l) (Memᴰ.tail m) = or_right (eqb x y) (has x l) (is_has x l m)

pub has_not : (x : ℕ) (l : List ℕ) → has x l ≡ false → Memᴰ x l → ⊥
has_not x l h m = true≢false (sym (is_has x l m) ∙ h)

-- the premises

module _ (row : Tandem) (run : Run ℕ) (H : ℕ) where
  pub on_path_lem : on_path row run H ≡ true → OnPath row run H
  unfolding on_path
  on_path_lem h j t a b c d =
      from_one (λ j. (t : ℕ) → 0 < t → t ≤ H → Each (λ b. crosses row (run.of b) j ≡ true) (run.join j t)) (size row)
      (λ i k. from_one (λ t. Each (λ b. crosses row (run.of b) (suc i) ≡ true) (run.join (suc i) t)) H
      (λ t l. each_of_lem (λ b. crosses row (run.of b) (suc i)) (run.join (suc i) (suc t)) (each_at H _ (each_at (size row) _ h i k) t l))) j a b t c d

  pub in_order_lem : in_order row run H ≡ true → InOrder row run H
  unfolding in_order
  in_order_lem h j t a b c =
      from_one (λ j. (t : ℕ) → t ≤ H → Prefix (left_by run j t) (joined_by run j t)) (size row)
      (λ i k t l. begins_is (left_by run (suc i) t) (joined_by run (suc i) t) (each_at (suc H) _ (each_at (size row) _ h i k) t (omega arith))) j a b t c

  pub relay_kept : relayed row run H ≡ true → Relayed row run H
  unfolding relayed
  relay_kept h j t a b c d =
      from_one
      (λ j. (t : ℕ) → 0 < t → t ≤ H → keep (λ b. crosses row (run.of b) j) (run.join (suc j) t) ≡ keep (λ b. crosses row (run.of b) (suc j)) (run.leave j t))
      (size row - 1)
      (λ i k. from_one
      (λ t. keep (λ b. crosses row (run.of b) (suc i)) (run.join (suc (suc i)) t) ≡ keep (λ b. crosses row (run.of b) (suc (suc i))) (run.leave (suc i) t)) H
      (λ t l. same_is _ _ (each_at H _ (each_at (size row - 1) _ h i k) t l))) j a (omega arith) t c d

  pub buckets_kept : keeps_buckets row run H ≡ true → KeepsBuckets row run H
  unfolding keeps_buckets
  buckets_kept h f k a b l m =
      leb-true _ _ (each_at (suc H) _ (each_at (suc H) _ (each_at (length row.flows) _ h f k) a (omega arith)) b (omega arith))

  pub guarantees_kept : guarantees row run H ≡ true → Guarantees row run H
  unfolding guarantees
  guarantees_kept h j t a b c =
      from_one
      (λ j. (t : ℕ) → t ≤ H → (s : ℕ) × (s ≤ t) × (length (joined_by run j s) + serve (server row j).rate (server row j).latency (t - s) ≤ length (left_by run j t)))
      (size row)
      (λ i k t l. let x = any_found (suc t) _ (each_at (suc H) _ (each_at (size row) _ h i k) t (omega arith)) in
      (x.0, omega (arith, x.1), leb-true _ _ x.2)) j a b t c

  pub keeps_all_lem : keeps_all row run H ≡ true → Keeps row run H
  unfolding keeps_all
  keeps_all_lem h =
      let a = both_true (on_path row run H) (in_order row run H && (relayed row run H && (keeps_buckets row run H && guarantees row run H))) h in
      let b = both_true (in_order row run H) (relayed row run H && (keeps_buckets row run H && guarantees row run H)) a.1 in
      let c = both_true (relayed row run H) (keeps_buckets row run H && guarantees row run H) b.1 in
      let d = both_true (keeps_buckets row run H) (guarantees row run H) c.1 in
      record {
        paths = on_path_lem a.0;
        order = in_order_lem b.0;
        relay = relay_kept c.0;
        buckets = buckets_kept d.0;
        serves = guarantees_kept d.1;
      }
