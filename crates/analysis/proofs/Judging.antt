-- What the analysis finds at each step: the numbers that were read, the row that was formed, and what is said of it.
-- Assumes nothing.
use Rattle.std.specs.Prelude.{ℕ, ◌≡◌, refl, Option, Some, None, Result, Ok, Err, List, length, take, replicate}
use Rattle.std.proofs.Common.{sym, ◌∙◌, arith}
use Rattle.fields.specs.declared.Refusal.{Refusal}
use Rattle.sheet.specs.Sheet.{Found, fail, these, sheet_of, read_gives, read_holds}
use Rattle.sheet.specs.Valid.{Valid}
use Rattle.sheet.proofs.ValidLaws.{valid_length, read_valid}
use Rattle.sheet.proofs.TripLaws.{gives_room, holds_front}
use Rattle.sheet.proofs.RoomLaws.{Numbers, numbers_read}
use Rattle.row.specs.declared.Row.{Row}
use Rattle.row.specs.declared.Unfit.{Unfit}
use Rattle.row.specs.declared.Unfit.TheVariants as unfit
use Rattle.row.specs.RowFor.{row_where}
use Rattle.row.specs.OfSheet.{row_of, check_of, formed_of}
use Rattle.row.specs.Contract.{RowOf}
use Rattle.search.specs.Point.{searched}
use Rattle.search.specs.Searchable.{Searchable}
use Rattle.analysis.specs.declared.Analysed.{Analysed}
use Rattle.analysis.specs.Verdict.{listing_of, verdict_on}
use Rattle.analysis.specs.Held.{filled, row_held, judged, numbers_held, sheet_held, analysed_of}
use Rattle.analysis.proofs.VerdictLaws.{passed_listed}
use Rattle.analysis.proofs.SearchLaws.{search_is_searched, searchable, count_held}

-- a row that was formed of a sheet's numbers passed the checks, and can be searched
pub row_searchable : {xs : List ℕ} {r : Result Row Unfit} {row : Row} → RowOf xs r → Valid xs → r ≡ Ok row → Searchable row
unfolding formed_of
row_searchable {xs} {r} {row} formed v e = by (check_of xs) refl (sym formed.is ∙ e)
  where
    by : (c : Option Unfit) → check_of xs ≡ c → row_where c (row_of xs) ≡ Ok row → Searchable row
    by None q h = let same : row_of xs ≡ row = cc in rw (← same) (searchable xs v q)
    by (Some u) q h = absurd (cc)

row_listed : (xs : List ℕ) → row_held (row_of xs) (searched (row_of xs)) ≡ filled (row_of xs).groups (listing_of xs)
unfolding row_of listing_of
row_listed xs = rw (search_is_searched xs, count_held xs)

unfit_told : (xs : List ℕ) (u : Unfit) → check_of xs ≡ Some u → judged (Err u) ≡ numbers_held xs
unfolding numbers_held verdict_on
unfit_told xs unfit.Crossing q = rw q
unfit_told xs (unfit.Crowded j) q = rw q
unfit_told xs (unfit.Points n) q = rw q

row_told : (xs : List ℕ) → Valid xs → check_of xs ≡ None → judged (Ok (row_of xs)) ≡ numbers_held xs
unfolding numbers_held
row_told xs v q = rw (row_listed xs, passed_listed xs v q)

-- what is said of a sheet's row is the verdict, as it is held
judged_is : (xs : List ℕ) → Valid xs → judged (formed_of xs) ≡ numbers_held xs
unfolding formed_of
judged_is xs v = by (check_of xs) refl
  where
    by : (c : Option Unfit) → check_of xs ≡ c → judged (row_where c (row_of xs)) ≡ numbers_held xs
    by None q = row_told xs v q
    by (Some u) q = unfit_told xs u q

-- what is said of what was read into a list
abbrev pub judged_front : Result ℕ Refusal → List ℕ → Result Analysed Refusal
judged_front (Ok n) numbers = judged (formed_of (take n numbers))
judged_front (Err r) numbers = Err r

-- a list of 231 numbers is never too short: so that is the verdict too
pub analysed_read : (s : List ℕ) → analysed_of s ≡ judged_front (read_gives (sheet_of s) 231) (read_holds (sheet_of s) (replicate 231 0))
unfolding analysed_of
analysed_read s = by (sheet_of s) refl
  where
    by : (f : Found) → sheet_of s ≡ f → sheet_held f ≡ judged_front (read_gives f 231) (read_holds f (replicate 231 0))
    by (fail w d) e = refl
    by (these xs) e =
        let v = read_valid s xs e in
        let short = valid_length xs v in
        rw (gives_room (length xs) 231 (omega (arith, short)), holds_front xs (replicate 231 0) (omega (arith, short))) (sym (judged_is xs v))

-- and what was read is valid
pub front_valid : (s : List ℕ) (n : ℕ) → read_gives (sheet_of s) 231 ≡ Ok n → Valid (take n (read_holds (sheet_of s) (replicate 231 0)))
front_valid s n e =
    let read : Numbers s (replicate 231 0) _ _ refl refl refl n = numbers_read s (replicate 231 0) _ _ refl refl refl n e in
    rw read.front read.valid
