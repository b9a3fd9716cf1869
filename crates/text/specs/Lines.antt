-- Lines of text: a word and a number, the same at the end of a line, and the line of a refusal (document 01: "A refusal prints one line,
-- `refused 7 at 1`: number, detail"). Words are in ASCII codes, and each line ends with one line end.
-- Assumes nothing.
use Rattle.std.specs.Prelude.{ℕ, List, [], ◌∷◌, ◌++◌, Result, Ok, Err}
use Rattle.text.specs.declared.Refused.{Refused}
use Rattle.text.specs.Decimal.{decimal}

-- the line end
abbrev pub line_end : List ℕ
line_end = 10 ∷ []

-- "refused "
abbrev pub refused_word : List ℕ
refused_word = 114 ∷ 101 ∷ 102 ∷ 117 ∷ 115 ∷ 101 ∷ 100 ∷ 32 ∷ []

-- " at "
abbrev pub at_word : List ℕ
at_word = 32 ∷ 97 ∷ 116 ∷ 32 ∷ []

-- a word and behind it a number; and the same as the end of a line
unfoldable pub field : List ℕ → ℕ → List ℕ
field word x = word ++ decimal x

unfoldable pub line : List ℕ → ℕ → List ℕ
line word x = field word x ++ line_end

-- `refused R at D`
unfoldable pub refusal_line : ℕ → ℕ → List ℕ
refusal_line number detail = field refused_word number ++ line at_word detail

-- how many bytes there are to print
abbrev pub bytes_of : Result ℕ Refused → ℕ
bytes_of (Ok n) = n
bytes_of (Err refused) = refused.length
