-- How long an answer record is.
-- Assumes nothing.
use Rattle.std.specs.Prelude.{◌≤◌, length}
use Rattle.std.proofs.Common.{arith}
use Rattle.sheet.proofs.DetailLaws.{encode_all_few}
use Rattle.analysis.specs.Verdict.{Listing, record_numbers, record_of}
use Rattle.analysis.proofs.VerdictLaws as verdict

-- an answer record has at most 175 bytes: four numbers and at most 31 waits, of at most five bytes each
pub record_short : (l : Listing) → verdict.Small l → length (record_of l) ≤ 175
record_short l s = omega (arith, encode_all_few (record_numbers l), s.few, s.each)
