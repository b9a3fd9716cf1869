-- Document 01's number and detail of each answer ("Refusals by number"). This is the one place that knows the numbers.
-- Assumes nothing.
use Rattle.std.specs.Prelude.{ℕ, Result, Ok, Err}
use Rattle.numbers.specs.declared.Fault.{Fault}
use Rattle.numbers.specs.declared.Fault.TheVariants as fault
use Rattle.fields.specs.declared.Refusal.{Refusal}
use Rattle.fields.specs.declared.Why.{Why}
use Rattle.fields.specs.declared.Why.TheVariants.{Ends, Padded, Large, Left, Outside, OffPath, Crossing, Crowded, Points, TooLarge, Short}

abbrev pub refusal : Why → ℕ
-- "the bytes (writer: the numbers) end before the last field does"
refusal Ends = 1
-- "a number not shortest, with a fifth group that continues, or above 4,294,967,295"
refusal Padded = 2
refusal Large = 2
-- "bytes (numbers) left over"
refusal Left = 3
-- "a field other than first, last is outside its range"
refusal Outside = 4
-- "first or last outside its range"
refusal OffPath = 5
-- "the row is not nested"
refusal Crossing = 6
-- "the rates at a server, the watched flow's included, sum above R"
refusal Crowded = 7
-- "mode 0 and g to the power of the number of groups is above 65,536"
refusal Points = 8
-- "an offset, stage, wait or delay would pass 2^63 − 1"
refusal TooLarge = 9
-- "the buffer is too short"
refusal Short = 10

-- 0 on success
abbrev pub number : Result ℕ Refusal → ℕ
number (Ok n) = 0
number (Err r) = refusal r.why

-- the count or the length on success
abbrev pub detail : Result ℕ Refusal → ℕ
detail (Ok n) = n
detail (Err r) = r.at

-- a refusal, and the detail that goes with it
abbrev pub refused : Why → ℕ → Refusal
refused why at = record { why = why; at = at }

-- why no number stands at a place, told as a reason of a refusal
abbrev pub why_of : Fault → Why
why_of fault.Ends = Ends
why_of fault.Padded = Padded
why_of fault.Large = Large
