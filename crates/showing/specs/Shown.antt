-- What `show` prints of a sheet: a line for each number, with the number, ` # ` and the name of its field; or the line of its refusal.
-- Assumes nothing.
use Rattle.std.specs.Prelude.{ℕ, zero, suc, List, [], ◌∷◌, ◌++◌, Result, Ok, Err, length, get_or}
use Rattle.fields.specs.Refusal.{refusal}
use Rattle.sheet.specs.Sheet.{Found, fail, these}
use Rattle.text.specs.declared.Refused.{Refused}
use Rattle.text.specs.Decimal.{decimal}
use Rattle.text.specs.Lines.{line_end, refusal_line}
use Rattle.naming.specs.declared.Extent.{Extent}
use Rattle.naming.specs.Names.{extent_in, name_at}

-- " # "
abbrev pub hash_word : List ℕ
hash_word = 32 ∷ 35 ∷ 32 ∷ []

-- the line of a number x at place i of a list with an extent: `10 # rate of server 1`
unfoldable pub named_line : ℕ → ℕ → Extent → List ℕ
named_line x i e = decimal x ++ (hash_word ++ (name_at i e ++ line_end))

-- the line of the number at place i
abbrev pub number_line : List ℕ → ℕ → List ℕ
number_line xs i = named_line (get_or xs i 0) i (extent_in xs)

-- the lines of n numbers from place i on
unfoldable pub lines_from : List ℕ → ℕ → ℕ → List ℕ
lines_from xs i zero = []
lines_from xs i (suc n) = number_line xs i ++ lines_from xs (suc i) n

-- the text of a sheet's numbers
unfoldable pub shown : List ℕ → List ℕ
shown xs = lines_from xs 0 (length xs)

-- what is printed of a sheet's bytes, and whether it is an answer
unfoldable pub show_text : Found → List ℕ
show_text (fail w d) = refusal_line (refusal w) d
show_text (these xs) = shown xs

unfoldable pub show_printed : Found → Result ℕ Refused
show_printed (fail w d) = Err (record { length = length (show_text (fail w d)) })
show_printed (these xs) = Ok (length (show_text (these xs)))

-- every text that is shown has room on a page of so many bytes
abbrev pub sheet_page : ℕ
sheet_page = 16384
