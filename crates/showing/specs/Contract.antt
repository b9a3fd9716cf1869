-- What the public function promises.
-- Assumes nothing.
use Rattle.std.specs.Prelude.{◌≡◌, ℕ, List, Result}
use Rattle.ground.specs.Buffer.{holds}
use Rattle.sheet.specs.Sheet.{sheet_of}
use Rattle.text.specs.declared.Refused.{Refused}
use Rattle.showing.specs.Shown.{show_text, show_printed}

-- `show`: what there is to print of a sheet, which stands at the front of the buffer where it has room; else the buffer stays as it was
pub record Show (bytes before : List ℕ) (r : Result ℕ Refused) (after : List ℕ) : Type 0 where
  pub gives : r ≡ show_printed (sheet_of bytes)
  pub leaves : after ≡ holds (show_text (sheet_of bytes)) before
