-- Refusal 7 is what its sentence says; and a row in range that passes it is sound.
-- Assumes nothing.
use Rattle.std.specs.Prelude.{◌≡◌, refl, Bool, true, false, cond, ◌⊎◌, ℕ, zero, suc, ◌+◌, ◌≤◌, ◌<◌, length, eqb, Some, None}
use Rattle.std.proofs.Math.Dec.{eqb-suc-zero}
use Rattle.std.proofs.Common.{sym, ap, ◌∙◌, true≢false, inl, inr, arith, lt-ltb, ltb-true, ltb-false}
use Rattle.tandem.specs.Tandem.{Tandem, size, server, flow, crosses, rates}
use Rattle.tandem.specs.Sound.{Lies, Sound}
use Rattle.tandem.specs.Crowded.{Crowds, Lowest, crowded, lowest_crowded, crowded_server}
use Rattle.ground.proofs.OrderLaws.{le_or_lt}

-- 7, at a server
pub crowded_crowds : (row : Tandem) (j : ℕ) → crowded row j ≡ true → Crowds row j
unfolding crowded
crowded_crowds row j h = ltb-true _ _ h

pub crowds_crowded : (row : Tandem) (j : ℕ) → Crowds row j → crowded row j ≡ true
unfolding crowded
crowds_crowded row j h = lt-ltb _ _ h

found_lowest : (row : Tandem) (n i : ℕ) → 0 < lowest_crowded row (suc i) n → Lowest row (suc i) n (lowest_crowded row (suc i) n)
unfolding lowest_crowded
found_lowest row zero i h = absurd (omega arith)
found_lowest row (suc n) i h = go (crowded row (suc i)) refl (found_lowest row n (suc i)) h
  where
    go : (b : Bool) → crowded row (suc i) ≡ b
        → (0 < lowest_crowded row (suc (suc i)) n → Lowest row (suc (suc i)) n (lowest_crowded row (suc (suc i)) n))
        → 0 < cond b (suc i) (lowest_crowded row (suc (suc i)) n) → Lowest row (suc i) (suc n) (cond b (suc i) (lowest_crowded row (suc (suc i)) n))
    go true e r k = record { behind = omega arith; before = omega arith; crowds = crowded_crowds row (suc i) e; lower = λ k a b c. omega arith }
    go false e r k =
        let w = r k in
        record {
          behind = omega (arith, w.behind);
          before = omega (arith, w.before);
          crowds = w.crowds;
          lower =
              λ k a b c. low k a b c (le_or_lt (suc (suc i)) k);
        }
      where
        low : (k : ℕ) → suc i ≤ k → k < lowest_crowded row (suc (suc i)) n → Crowds row k → (suc (suc i) ≤ k) ⊎ (k < suc (suc i)) → ⊥
        low m a b c (inl d) = (r k).lower m d b c
        low m a b c (inr d) = let q : m ≡ suc i = omega arith in true≢false (sym (crowds_crowded row m c) ∙ ap (crowded row) q ∙ e)

lowest_found : (row : Tandem) (n i j : ℕ) → Lowest row i n j → lowest_crowded row i n ≡ j
unfolding lowest_crowded
lowest_found row zero i j w = absurd (omega (arith, w.behind, w.before))
lowest_found row (suc n) i j w = go (crowded row i) refl (lowest_found row n (suc i) j) (le_or_lt j i)
  where
    go : (b : Bool) → crowded row i ≡ b → (Lowest row (suc i) n j → lowest_crowded row (suc i) n ≡ j) → (j ≤ i) ⊎ (i < j)
        → cond b i (lowest_crowded row (suc i) n) ≡ j
    go true e r (inl d) = omega (arith, w.behind)
    go true e r (inr d) = absurd (w.lower i (omega arith) d (crowded_crowds row i e))
    go false e r (inl d) = let q : j ≡ i = omega (arith, w.behind) in absurd (true≢false (sym (crowds_crowded row j w.crowds) ∙ ap (crowded row) q ∙ e))
    go false e r (inr d) =
        r (record { behind = omega arith; before = omega (arith, w.before); crowds = w.crowds; lower = λ k a b c. w.lower k (omega arith) b c })

-- 7: the lowest server among 1..N whose rates sum above R
pub crowded_lowest : (row : Tandem) → 0 < lowest_crowded row 1 (size row) → Lowest row 1 (size row) (lowest_crowded row 1 (size row))
crowded_lowest row h = found_lowest row (size row) 0 h

pub lowest_crowded_lem : (row : Tandem) (j : ℕ) → Lowest row 1 (size row) j → lowest_crowded row 1 (size row) ≡ j
lowest_crowded_lem row j w = lowest_found row (size row) 1 j w

-- and 0 exactly if there is none
none_found : (row : Tandem) (n i : ℕ) → lowest_crowded row (suc i) n ≡ 0 → (j : ℕ) → suc i ≤ j → j < suc i + n → crowded row j ≡ false
unfolding lowest_crowded
none_found row zero i h j a b = absurd (omega arith)
none_found row (suc n) i h j a b = go (crowded row (suc i)) refl (none_found row n (suc i)) (le_or_lt j (suc i)) h
  where
    go : (t : Bool) → crowded row (suc i) ≡ t
        → (lowest_crowded row (suc (suc i)) n ≡ 0 → (j : ℕ) → suc (suc i) ≤ j → j < suc (suc i) + n → crowded row j ≡ false)
        → (j ≤ suc i) ⊎ (suc i < j) → cond t (suc i) (lowest_crowded row (suc (suc i)) n) ≡ 0 → crowded row j ≡ false
    go true e r d k = absurd (omega arith)
    go false e r (inl d) k = let q : j ≡ suc i = omega arith in rw q e
    go false e r (inr d) k = r k j d (omega arith)

pub none_crowded : (row : Tandem) → lowest_crowded row 1 (size row) ≡ 0 → (j : ℕ) → 0 < j → j ≤ size row → crowded row j ≡ false
none_crowded row h j a b = none_found row (size row) 0 h j (omega arith) (omega arith)

pub none_crowds : (row : Tandem) → lowest_crowded row 1 (size row) ≡ 0 → (j : ℕ) → 0 < j → j ≤ size row → Crowds row j → ⊥
none_crowds row h j a b c = true≢false (sym (crowds_crowded row j c) ∙ none_crowded row h j a b)

pub crowded_none : (row : Tandem) → ((j : ℕ) → 0 < j → j ≤ size row → Crowds row j → ⊥) → lowest_crowded row 1 (size row) ≡ 0
crowded_none row h = go (le_or_lt (lowest_crowded row 1 (size row)) 0)
  where
    go : (lowest_crowded row 1 (size row) ≤ 0) ⊎ (0 < lowest_crowded row 1 (size row)) → lowest_crowded row 1 (size row) ≡ 0
    go (inl l) = omega arith
    go (inr l) = let w = crowded_lowest row l in absurd (h (lowest_crowded row 1 (size row)) l (omega (arith, w.before)) w.crowds)

-- the lowest such server, if there is one
pub server_of_lowest : (row : Tandem) (j : ℕ) → 0 < j → lowest_crowded row 1 (size row) ≡ j → crowded_server row ≡ Some j
server_of_lowest row zero h e = absurd (omega arith)
server_of_lowest row (suc j) h e = rw (e, eqb-suc-zero j)

pub none_of_lowest : (row : Tandem) → lowest_crowded row 1 (size row) ≡ 0 → crowded_server row ≡ None
none_of_lowest row e = rw e

pub lowest_of_server : (row : Tandem) (j : ℕ) → crowded_server row ≡ Some j → (0 < j) × (lowest_crowded row 1 (size row) ≡ j)
lowest_of_server row j h = go (lowest_crowded row 1 (size row)) h
  where
    go : (n : ℕ) → cond (eqb n 0) None (Some n) ≡ Some j → (0 < j) × (n ≡ j)
    go zero k = cc
    go (suc n) k = let d = rw (eqb-suc-zero n) at k in let e : suc n ≡ j = cc in (omega arith, e)

pub lowest_of_none : (row : Tandem) → crowded_server row ≡ None → lowest_crowded row 1 (size row) ≡ 0
lowest_of_none row h = go (lowest_crowded row 1 (size row)) h
  where
    go : (n : ℕ) → cond (eqb n 0) None (Some n) ≡ None → n ≡ 0
    go zero k = refl
    go (suc n) k = let d = rw (eqb-suc-zero n) at k in cc

-- a row in range that passes 7 is sound
pub sound_row : (row : Tandem) → 0 < size row → 0 < length row.flows → (flow row 0).first ≡ 1 → (flow row 0).last ≡ size row
    → ((f : ℕ) → f < length row.flows → Lies row f)
    → ((f : ℕ) → f < length row.flows → 0 < (flow row f).rate)
    → lowest_crowded row 1 (size row) ≡ 0
    → Sound row
unfolding crowded
sound_row row long some enters leaves paths moves c = record {
  long = long;
  some = some;
  enters = enters;
  leaves = leaves;
  paths = paths;
  moves = moves;
  room = λ j h k. ltb-false (server row j).rate (rates row (λ f. crosses row f j)) (none_crowded row c j h k);
}

pub sound_uncrowded : (row : Tandem) → Sound row → lowest_crowded row 1 (size row) ≡ 0
sound_uncrowded row s = crowded_none row (λ j a b c. omega (arith, s.room j a b, c))
