-- The lines of a sheet, and what stands on the page behind some of them. And what is handed over once all are on it.
-- Assumes nothing.
use Rattle.std.specs.Prelude.{ℕ, zero, suc, ◌+◌, ◌-◌, ◌<◌, ◌≡◌, List, ◌++◌, length}
use Rattle.std.proofs.Common.{arith, append_assoc, append-nil, zero-add}
use Rattle.text.specs.declared.Page.{Page}
use Rattle.text.specs.Contract.{Room, Written}
use Rattle.text.proofs.PutLaws.{room_first, room_then, written_then, written_none}
use Rattle.showing.specs.Shown.{number_line, lines_from, shown}

-- the lines of n + m numbers are those of n of them, and behind them those of the others
lines_split : (xs : List ℕ) (i n m : ℕ) → lines_from xs i (n + m) ≡ lines_from xs i n ++ lines_from xs (i + n) m
unfolding lines_from
lines_split xs i zero m = let z : 0 + m ≡ m = omega arith in let j : i + 0 ≡ i = omega arith in rw (z, j)
lines_split xs i (suc n) m =
    let z : suc n + m ≡ suc (n + m) = omega arith in
    let j : i + suc n ≡ suc i + n = omega arith in
    rw (z, j, lines_split xs (suc i) n m, append_assoc)

-- the lines of the first i numbers, and the line of the next
next_line : (xs : List ℕ) (i : ℕ) → lines_from xs 0 (i + 1) ≡ lines_from xs 0 i ++ number_line xs i
unfolding lines_from
next_line xs i = rw (lines_split xs 0 i 1, zero-add, append-nil)

-- all lines: those of the first i numbers, the line of the next, and the others
lines_at : (xs : List ℕ) (i k : ℕ) → length xs ≡ i + suc k → shown xs ≡ lines_from xs 0 i ++ (number_line xs i ++ lines_from xs (suc i) k)
unfolding shown lines_from
lines_at xs i k e = rw (e, lines_split xs 0 i (suc k), zero-add)

module _ (xs : List ℕ) {first page : Page} where
  pub room_next : {i : ℕ} → i < length xs → Written (lines_from xs 0 i) first page → Room (shown xs) first → Room (number_line xs i) page
  room_next {i} h w r =
      let k = length xs - suc i in
      let rest = lines_from xs (suc i) k in
      room_first (number_line xs i) rest page
      (room_then (lines_from xs 0 i) (number_line xs i ++ rest) w (rw (lines_at xs i k (omega arith)) at r))

  pub one_more : (i : ℕ) {page' : Page} → Written (lines_from xs 0 i) first page → Written (number_line xs i) page page'
      → Written (lines_from xs 0 (i + 1)) first page'
  one_more i w p = rw (next_line xs i) (written_then w p)

  pub all_lines : {i : ℕ} → length xs ≡ i → Written (lines_from xs 0 i) first page → Written (shown xs) first page
  unfolding shown
  all_lines e w = rw e w

pub none_yet : (xs : List ℕ) (page : Page) → Written (lines_from xs 0 0) page page
unfolding lines_from
none_yet xs page = written_none page
