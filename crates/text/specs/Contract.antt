-- What each public function promises of its result and of the buffer lent to it.
-- Assumes nothing.
use Rattle.std.specs.Prelude.{ℕ, ◌+◌, ◌≤◌, ◌≡◌, List, Result, length}
use Rattle.std.proofs.lemmas.List.Edits.{sets}
use Rattle.ground.specs.Buffer.{holds}
use Rattle.text.specs.declared.Page.{Page}
use Rattle.text.specs.declared.Refused.{Refused}
use Rattle.text.specs.Decimal.{decimal}
use Rattle.text.specs.Lines.{bytes_of}

-- `bytes_of`
pub record BytesOf (printed : Result ℕ Refused) (r : ℕ) : Type 0 where
  pub is : r ≡ bytes_of printed

-- `decimal_width`: as many as the number has digits
pub record DecimalWidth (x r : ℕ) : Type 0 where
  pub is : r ≡ length (decimal x)

-- these bytes stand at a place of a buffer, r is the place behind them, and all else of the buffer stays
pub record Put (bytes before : List ℕ) (at r : ℕ) (after : List ℕ) : Type 0 where
  pub next : r ≡ at + length bytes
  pub stored : after ≡ sets before at bytes

-- a page has room for these bytes at its place
abbrev pub Room : List ℕ → Page → Type 0
Room bytes page = page.at + length bytes ≤ length page.bytes.now

-- `put_word`, `put_decimal`, `put_field`, `put_line`, `put_refusal`: these bytes are put at the page's place, the page goes on behind them, and its
-- buffer is the one that it was lent
pub record Written (bytes : List ℕ) (before after : Page) : Type 0 where
  pub put : Put bytes before.bytes.now before.at after.at after.bytes.now
  pub same : after.bytes.ghost_name ≡ before.bytes.ghost_name
  pub stays : after.bytes.ref_ptr ≡ before.bytes.ref_ptr

-- `hand_over`: these bytes stand at the front of a buffer that has room for them; else it stays as it was
pub record HandOver (bytes before after : List ℕ) : Type 0 where
  pub leaves : after ≡ holds bytes before
