-- How long the text of a sheet is: a line takes at most 65 bytes, so that a page has room for 231 of them.
-- Assumes nothing.
use Rattle.std.specs.Prelude.{ℕ, zero, suc, ◌+◌, ◌*◌, ◌≤◌, ◌≡◌, refl, List, Result, length, get_or}
use Rattle.std.proofs.Common.{ap, arith, length-append}
use Rattle.fields.specs.Refusal.{refusal}
use Rattle.sheet.specs.Sheet.{Found, fail, these, sheet_of}
use Rattle.sheet.proofs.ValidLaws.{read_valid, valid_length}
use Rattle.text.specs.declared.Refused.{Refused}
use Rattle.text.specs.Decimal.{decimal}
use Rattle.text.proofs.DecimalLaws.{decimal_few}
use Rattle.text.specs.Lines.{bytes_of}
use Rattle.text.proofs.LinesLaws.{refusal_short}
use Rattle.naming.specs.Names.{extent_in, name_at}
use Rattle.naming.proofs.NamesLaws.{name_at_short}
use Rattle.showing.specs.Contract.{Show}
use Rattle.showing.specs.Shown.{named_line, number_line, lines_from, shown, show_text, show_printed, sheet_page}

pub line_length : (xs : List ℕ) (i : ℕ) → length (number_line xs i) ≡ length (decimal (get_or xs i 0)) + (3 + (length (name_at i (extent_in xs)) + 1))
unfolding named_line
line_length xs i = rw (length-append, length-append, length-append)

line_short : (xs : List ℕ) (i : ℕ) → length (number_line xs i) ≤ 65
line_short xs i = omega (arith, line_length xs i, decimal_few (get_or xs i 0), name_at_short i (extent_in xs))

lines_short : (xs : List ℕ) (i n : ℕ) → length (lines_from xs i n) ≤ 65 * n
unfolding lines_from
lines_short xs i zero = omega arith
lines_short xs i (suc n) = omega (arith, length-append (number_line xs i) (lines_from xs (suc i) n), line_short xs i, lines_short xs (suc i) n)

pub shown_short : (xs : List ℕ) → length xs ≤ 231 → length (shown xs) ≤ sheet_page
unfolding shown
shown_short xs h = omega (arith, lines_short xs 0 (length xs))

-- what is printed has room on a page
short_by : (bytes : List ℕ) (f : Found) → sheet_of bytes ≡ f → length (show_text f) ≤ sheet_page
unfolding show_text
short_by bytes (fail w d) e = omega (arith, refusal_short (refusal w) d)
short_by bytes (these xs) e = shown_short xs (valid_length xs (read_valid bytes xs e))

pub show_short : (bytes : List ℕ) → length (show_text (sheet_of bytes)) ≤ sheet_page
show_short bytes = short_by bytes (sheet_of bytes) refl

-- as many bytes are printed as the text has
pub show_bytes : (f : Found) → bytes_of (show_printed f) ≡ length (show_text f)
unfolding show_printed
show_bytes (fail w d) = refl
show_bytes (these xs) = refl

-- so a page has room for what `show` gives to print
pub show_fits : {bytes before after : List ℕ} {r : Result ℕ Refused} → Show bytes before r after → bytes_of r ≤ sheet_page
show_fits {bytes} h = omega (arith, ap bytes_of h.gives, show_bytes (sheet_of bytes), show_short bytes)
