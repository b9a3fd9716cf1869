-- The row of a valid sheet that passes the checks is accepted and within the limits, and which check stands first.
-- Assumes nothing.
use Rattle.std.specs.Prelude.{◌≡◌, refl, Bool, true, false, cond, Some, None, List, ◌++◌, take, ◌⊎◌, ℕ, ◌≤◌, ◌<◌, ltb, eqb, length}
use Rattle.std.proofs.Common.{sym, subst, inl, inr, arith}
use borrow.Author.Tests.{lt-ltb, ltb-false, eqb-false}
use Rattle.sheet.specs.Valid.{Valid, Within, server_count, mode, grid}
use Rattle.row.specs.declared.Unfit.TheVariants.{Crossing, Crowded, Points}
use Rattle.tandem.specs.declared.Server.{Server}
use Rattle.tandem.specs.declared.Flow.{Flow}
use Rattle.tandem.specs.Tandem.{Tandem, size}
use Rattle.row.specs.Groups.{groups}
use Rattle.tandem.specs.Crowded.{lowest_crowded}
use Rattle.row.specs.Checks.{not_nested, too_many}
use Rattle.row.specs.Accepted.{Accepted}
use Rattle.tandem.specs.OfSheet.{tandem_of}
use Rattle.row.specs.RowFor.{formed_for}
use Rattle.row.specs.OfSheet.{grid_of, row_of, check_of, formed_of}
use Rattle.row.specs.Passed.{PassedRow}
use Rattle.row.proofs.CheckLaws.{accepted_row}
use Rattle.tandem.proofs.OfSheetLaws.{limits, sound}
use Rattle.tandem.specs.Lent.{tandem_in, spread_servers, spread_flows, Handed}
use Rattle.tandem.proofs.LentLaws.{sheet_spread, sheet_room, sheet_lent, lent_handed, sheet_handed}
use Rattle.row.specs.Parts.{Formable}
use Rattle.row.specs.Contract.{FormAsks}
use Rattle.row.proofs.Answers.{fronts_held}

pub accepted : (xs : List ℕ) → Valid xs → not_nested (tandem_of xs) ≡ false → lowest_crowded (tandem_of xs) 1 (size (tandem_of xs)) ≡ 0 → Accepted (tandem_of xs)
accepted xs v n c = accepted_row (tandem_of xs) (sound xs v c) n

passed_tests : (n t : Bool) (j k : ℕ) → cond n (Some Crossing) (cond (ltb 0 j) (Some (Crowded j)) (cond t (Some (Points k)) None)) ≡ None → (n ≡ false) × (j ≡ 0) × (t ≡ false)
passed_tests true t j k h = absurd cc
passed_tests false t j k h = go (ltb 0 j) refl h
  where
    go : (b : Bool) → ltb 0 j ≡ b → cond b (Some (Crowded j)) (cond t (Some (Points k)) None) ≡ None → (false ≡ false) × (j ≡ 0) × (t ≡ false)
    go true e q = absurd cc
    go false e q = (refl, (omega (arith, ltb-false 0 j e)), last t q)
      where
        last : (t : Bool) → cond t (Some (Points k)) None ≡ None → t ≡ false
        last true q = absurd cc
        last false q = refl

pub passed_row : (xs : List ℕ) → Valid xs → check_of xs ≡ None → PassedRow xs
unfolding check_of
passed_row xs v h =
    let row = tandem_of xs in
    let p = passed_tests (not_nested row) (too_many row (mode xs) (grid_of (server_count xs) (grid xs))) (lowest_crowded row 1 (size row)) (length (groups row)) h in
    record { accepts = accepted xs v p.0 p.1; limited = limits xs v; few_points = p.2 }

-- "then 3, 6, 7, 8": which refusal stands, in this order
module _ (xs : List ℕ) where
  pub crossing_first : not_nested (tandem_of xs) ≡ true → check_of xs ≡ Some Crossing
  unfolding check_of
  crossing_first n = rw n

  pub crowded_second : not_nested (tandem_of xs) ≡ false → (j : ℕ) → lowest_crowded (tandem_of xs) 1 (size (tandem_of xs)) ≡ j → 0 < j → check_of xs ≡ Some (Crowded j)
  unfolding check_of
  crowded_second n j e h = rw (n, e, lt-ltb 0 j h)

  pub points_third : not_nested (tandem_of xs) ≡ false → lowest_crowded (tandem_of xs) 1 (size (tandem_of xs)) ≡ 0
      → too_many (tandem_of xs) (mode xs) (grid_of (server_count xs) (grid xs)) ≡ true → check_of xs ≡ Some (Points (length (groups (tandem_of xs))))
  unfolding check_of
  points_third n e t = rw (n, e, t)

  pub passed_last : not_nested (tandem_of xs) ≡ false → lowest_crowded (tandem_of xs) 1 (size (tandem_of xs)) ≡ 0
      → too_many (tandem_of xs) (mode xs) (grid_of (server_count xs) (grid xs)) ≡ false → check_of xs ≡ None
  unfolding check_of
  passed_last n e t = rw (n, e, t)

-- a sheet's row is formed as any other
pub formed_sheet : (xs : List ℕ) → formed_of xs ≡ formed_for (tandem_of xs) (mode xs) (grid_of (server_count xs) (grid xs))
unfolding formed_of check_of row_of
formed_sheet xs = refl

-- "g | 0 or 2..9; 0 means 3"
pub grid_range : (xs : List ℕ) → Valid xs → (2 ≤ grid_of (server_count xs) (grid xs)) × (grid_of (server_count xs) (grid xs) ≤ 9)
unfolding grid_of
grid_range xs v = go (eqb (grid xs) 0) refl v.grids
  where
    go : (b : Bool) → eqb (grid xs) 0 ≡ b → (grid xs ≡ 0) ⊎ Within 2 9 (grid xs) → (2 ≤ cond b 3 (grid xs)) × (cond b 3 (grid xs) ≤ 9)
    go true t w = (omega arith, omega arith)
    go false t (inl w) = absurd (eqb-false (grid xs) 0 t w)
    go false t (inr w) = (w.least, w.most)

-- what `form` asks holds of a row in such lists of numbers
pub formable_handed : (servers : List ℕ) (size : ℕ) (flows : List ℕ) (n g : ℕ) → Formable servers size flows n g → Handed (tandem_in servers size flows n)
formable_handed servers size flows n g f = lent_handed servers size flows n f.lent

-- and they hold every valid sheet's row that passes 7, whatever stands behind the row's numbers
pub sheet_formable : (xs servers flows more rest : List ℕ) → Valid xs → servers ≡ spread_servers (tandem_of xs).servers ++ more
    → flows ≡ spread_flows (tandem_of xs).flows ++ rest → lowest_crowded (tandem_of xs) 1 (size (tandem_of xs)) ≡ 0
    → Formable servers (server_count xs) flows (length (tandem_of xs).flows) (grid_of (server_count xs) (grid xs))
sheet_formable xs servers flows more rest v s f c =
    let is = sheet_spread xs servers flows more rest s f in
    let room = sheet_room xs servers flows more rest s f in
    let g = grid_range xs v in
    record { lent = sheet_lent xs servers flows v is room.0 room.1 c; coarse = g.0; dense = g.1 }

-- what `form` asks holds of the slices into which a valid sheet's servers and flows were listed, whatever stands behind them, if it passes 7
pub sheet_form_asked : (xs : List ℕ) (servers more : List Server) (flows rest : List Flow) → Valid xs → servers ≡ (tandem_of xs).servers ++ more
    → flows ≡ (tandem_of xs).flows ++ rest → lowest_crowded (tandem_of xs) 1 (size (tandem_of xs)) ≡ 0
    → FormAsks (take (server_count xs) servers) (take (length (tandem_of xs).flows) flows)
sheet_form_asked xs servers more flows rest v s f c =
    subst (λ (row : Tandem). FormAsks row.servers row.flows)
    (sym (fronts_held xs servers more flows rest (server_count xs) (length (tandem_of xs).flows) s f refl refl)) (sheet_handed xs v c)
