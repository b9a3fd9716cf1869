-- What the analysis holds is the verdict: a refusal, or the listing of a sheet that passes; and the numbers of both are small.
-- Assumes nothing.
use Rattle.std.specs.Prelude.{ℕ, ◌^◌, ◌≤◌, ◌<◌, ◌≡◌, refl, true, false, ◌⊎◌, Option, Some, None, Ok, Err, List, length, get_or}
use Rattle.std.proofs.Common.{ap, ◌∙◌, inl, inr, arith}
use Rattle.fields.specs.declared.Why.{Why}
use Rattle.fields.specs.declared.Why.TheVariants.{Crossing, Crowded, Points}
use Rattle.fields.specs.Refusal as fields
use Rattle.sheet.specs.Sheet.{Found, fail, these, sheet_of}
use Rattle.sheet.specs.Valid.{server_count, mode, grid, Valid}
use Rattle.sheet.proofs.ValidLaws.{read_valid}
use Rattle.row.specs.declared.Unfit.{Unfit}
use Rattle.row.specs.declared.Unfit.TheVariants as unfit
use Rattle.tandem.specs.Tandem.{Tandem, size}
use Rattle.row.specs.Groups.{groups}
use Rattle.row.proofs.CountLaws.{few_groups}
use Rattle.tandem.specs.OfSheet.{tandem_of}
use Rattle.row.specs.OfSheet.{grid_of, row_of, check_of}
use Rattle.tandem.proofs.OfSheetLaws.{row_size, limits}
use Rattle.row.proofs.OfSheetLaws.{grid_range, accepted, passed_row, crossing_first, crowded_second, points_third, passed_last}
use Rattle.tandem.specs.Crowded.{lowest_crowded}
use Rattle.row.specs.Checks.{not_nested, too_many}
use Rattle.tandem.proofs.CrowdedLaws.{crowded_lowest}
use Rattle.ground.proofs.OrderLaws.{le_or_lt}
use Rattle.tandem.proofs.TestLaws.{decide}
use Rattle.tree.specs.Grid.{Answer}
use Rattle.tree.specs.Bound.{answer_at, searched}
use Rattle.tree.proofs.GridLaws.{found_at}
use Rattle.tree.proofs.SearchLaws.{answer_waits, searched_le_start, searched_start_small, searched_wait_le}
use Rattle.tree.proofs.LargeLaws.{never_too_large}
use Rattle.analysis.specs.Verdict.{Listing, grid_used, listing_of, refused, bounded, verdict_on, verdict_of}
use Rattle.analysis.specs.Held.{filled, numbers_held, analysed_of}

-- the detail of a check that is not passed is small
abbrev check_detail : Option Unfit → ℕ
check_detail None = 0
check_detail (Some unfit.Crossing) = 0
check_detail (Some (unfit.Crowded j)) = j
check_detail (Some (unfit.Points n)) = n

check_small : (xs : List ℕ) → Valid xs → check_detail (check_of xs) ≤ 48
check_small xs v = crossing (decide (not_nested row))
  where
    row : Tandem
    row = tandem_of xs

    many : (not_nested row ≡ false) → lowest_crowded row 1 (size row) ≡ 0
        → (too_many row (mode xs) (grid_of (server_count xs) (grid xs)) ≡ true) ⊎ (too_many row (mode xs) (grid_of (server_count xs) (grid xs)) ≡ false)
        → check_detail (check_of xs) ≤ 48
    many n e (inl t) = rw (points_third xs n e t) (omega (arith, few_groups row (accepted xs v n e) (limits xs v)))
    many n e (inr t) = rw (passed_last xs n e t) (omega arith)

    crowded : (not_nested row ≡ false) → (lowest_crowded row 1 (size row) ≤ 0) ⊎ (0 < lowest_crowded row 1 (size row)) → check_detail (check_of xs) ≤ 48
    crowded n (inl z) = many n (omega arith) (decide (too_many row (mode xs) (grid_of (server_count xs) (grid xs))))
    crowded n (inr j) =
        rw (crowded_second xs n (lowest_crowded row 1 (size row)) refl j)
        (omega (arith, (crowded_lowest row j).before, row_size xs, v.servers.most))

    crossing : (not_nested row ≡ true) ⊎ (not_nested row ≡ false) → check_detail (check_of xs) ≤ 48
    crossing (inl t) = rw (crossing_first xs t) (omega arith)
    crossing (inr n) = crowded n (le_or_lt (lowest_crowded row 1 (size row)) 0)

-- why a sheet is refused: its bytes, or a check of its row, whose detail is small
pub data Cause (bytes : List ℕ) (w : Why) (d : ℕ) : Type 0 where
  of_bytes : sheet_of bytes ≡ fail w d → Cause bytes w d
  of_row : d ≤ 48 → Cause bytes w d

-- the two cases of a sheet's bytes: what the verdict is, and what is held
pub data Case (bytes : List ℕ) : Type 0 where
  refusing : (w : Why) (d : ℕ) → Cause bytes w d → verdict_of bytes ≡ refused w d → analysed_of bytes ≡ Err (fields.refused w d) → Case bytes
  listing : (xs : List ℕ) → sheet_of bytes ≡ these xs → Valid xs → check_of xs ≡ None → verdict_of bytes ≡ bounded (listing_of xs)
      → analysed_of bytes ≡ Ok (filled (row_of xs).groups (listing_of xs)) → Case bytes

-- a row that passes the checks is listed: 9 is never given
pub passed_listed : (xs : List ℕ) → Valid xs → check_of xs ≡ None → verdict_on xs ≡ bounded (listing_of xs)
unfolding verdict_on
passed_listed xs v e =
    let p = passed_row xs v e in
    rw (e, never_too_large (tandem_of xs) p.accepts p.limited (mode xs) (grid_used xs) (grid_range xs v).0)

pub passed_verdict : (bytes xs : List ℕ) → sheet_of bytes ≡ these xs → Valid xs → check_of xs ≡ None → verdict_of bytes ≡ bounded (listing_of xs)
unfolding verdict_of
passed_verdict bytes xs s v e = rw (s, passed_listed xs v e)

case_row : (bytes xs : List ℕ) → sheet_of bytes ≡ these xs → Valid xs → (c : Option Unfit) → check_of xs ≡ c → check_detail c ≤ 48 → Case bytes
unfolding verdict_of verdict_on analysed_of numbers_held
case_row bytes xs s v None e d = listing xs s v e (passed_verdict bytes xs s v e) (rw (s, passed_listed xs v e))
case_row bytes xs s v (Some unfit.Crossing) e d = refusing Crossing 0 (of_row (omega arith)) (rw (s, e)) (rw (s, e))
case_row bytes xs s v (Some (unfit.Crowded j)) e d = refusing Crowded j (of_row d) (rw (s, e)) (rw (s, e))
case_row bytes xs s v (Some (unfit.Points n)) e d = refusing Points n (of_row d) (rw (s, e)) (rw (s, e))

pub case_of : (bytes : List ℕ) → Case bytes
unfolding verdict_of analysed_of
case_of bytes = by (sheet_of bytes) refl
  where
    by : (f : Found) → sheet_of bytes ≡ f → Case bytes
    by (fail w d) e = refusing w d (of_bytes e) (rw e) (rw e)
    by (these xs) e = let v = read_valid bytes xs e in case_row bytes xs e v (check_of xs) refl (check_small xs v)

-- the numbers of a listing are small
pub record Small (l : Listing) : Type 0 where
  pub bound : l.bound < 2 ^ 30
  pub start : l.start < 2 ^ 30
  pub grid : l.grid ≤ 9
  pub few : length l.paths ≤ 31
  pub waits : (k : ℕ) → get_or l.waits k 0 < 2 ^ 30
  pub each : length l.waits ≡ length l.paths

pub listing_small : (xs : List ℕ) → Valid xs → check_of xs ≡ None → Small (listing_of xs)
unfolding listing_of searched
listing_small xs v passed =
    let row = tandem_of xs in
    let p = passed_row xs v passed in
    let ok = p.accepts in
    let g = grid_range xs v in
    let s = searched_start_small row ok p.limited (mode xs) (grid_used xs) in
    let b = searched_le_start row (mode xs) (grid_used xs) in
    record {
      bound = omega (arith, s, b);
      start = s;
      grid = g.1;
      few = few_groups row ok p.limited;
      waits = λ k. omega (arith, s, b, searched_wait_le row ok (mode xs) (grid_used xs) g.0 k);
      each = each;
    }
  where
    each : length (searched (tandem_of xs) (mode xs) (grid_used xs)).best.waits ≡ length (groups (tandem_of xs))
    each =
        let x = found_at (answer_at (tandem_of xs)) (length (groups (tandem_of xs))) (mode xs) (grid_used xs) (grid_range xs v).0 in
        ap (λ (a : Answer). length a.waits) x.2 ∙ answer_waits (tandem_of xs) x.0
