-- What stands at a place of a list of numbers, the writer's source: an entry, just where the place lies in the list.
-- Assumes nothing.
use Rattle.std.specs.Prelude.{ℕ, ◌+◌, ◌<◌, ◌≡◌, refl, List, Bool, true, false, Result, Ok, Err, cond, length, get_or, ltb}
use Rattle.std.proofs.Common.{sym, ap, lt-ltb, ltb-true}
use Rattle.numbers.specs.declared.Fault.{Fault}
use Rattle.numbers.specs.declared.Fault.TheVariants.{Ends}
use Rattle.sheet.specs.Sheet.{entry_at}

pub entry_in : (xs : List ℕ) (i : ℕ) → i < length xs → entry_at xs i ≡ Ok (get_or xs i 0, i + 1)
entry_in xs i h = rw (lt-ltb i (length xs) h)

entry_by : (l : Bool) (v i x next : ℕ) → ◌≡◌ {A = Result (ℕ × ℕ) Fault} (cond l (Ok (v, i + 1)) (Err Ends)) (Ok (x, next)) → (l ≡ true) × ((x ≡ v) × (next ≡ i + 1))
entry_by true v i x next e =
    let q : ◌≡◌ {A = ℕ × ℕ} (v, i + 1) (x, next) = cc in
    (refl, (ap (λ (p : ℕ × ℕ). p.0) (sym q), ap (λ (p : ℕ × ℕ). p.1) (sym q)))
entry_by false v i x next e = absurd (cc)

pub record Entry (xs : List ℕ) (i x next : ℕ) : Type 0 where
  pub inside : i < length xs
  pub value : x ≡ get_or xs i 0
  pub place : next ≡ i + 1

pub entry_was : (xs : List ℕ) (i x next : ℕ) → entry_at xs i ≡ Ok (x, next) → Entry xs i x next
entry_was xs i x next e =
    let t = entry_by (ltb i (length xs)) (get_or xs i 0) i x next e in
    record { inside = ltb-true i (length xs) t.0; value = t.1.0; place = t.1.1 }
