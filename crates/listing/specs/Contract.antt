-- What the public function promises.
-- Assumes nothing.
use Rattle.std.specs.Prelude.{ℕ, ◌≡◌, List, Result}
use Rattle.text.specs.declared.Refused.{Refused}
use Rattle.ground.specs.Buffer.{holds}
use Rattle.analysis.specs.Verdict.{verdict_of}
use Rattle.listing.specs.Text.{report_of, printed_of}

-- `report`: what there is to print of a sheet's verdict, which stands at the front of the buffer where it has room; else the buffer stays
-- as it was
pub record Report (bytes before : List ℕ) (r : Result ℕ Refused) (after : List ℕ) : Type 0 where
  pub gives : r ≡ printed_of (verdict_of bytes)
  pub leaves : after ≡ holds (report_of (verdict_of bytes)) before
