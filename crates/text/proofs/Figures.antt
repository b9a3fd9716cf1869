-- Worked examples of decimal numbers and of a line, computed.
-- Assumes nothing.
use Rattle.std.specs.Prelude.{◌≡◌, refl, [], ◌∷◌}
use Rattle.text.specs.Decimal.{decimal, value_of}
use Rattle.text.specs.Lines.{field, line, refusal_line}

-- "0"
pub zero_spelled : decimal 0 ≡ 48 ∷ []
unfolding decimal
zero_spelled = refl

-- "7"
pub seven_spelled : decimal 7 ≡ 55 ∷ []
unfolding decimal
seven_spelled = refl

-- "10"
pub ten_spelled : decimal 10 ≡ 49 ∷ 48 ∷ []
unfolding decimal
ten_spelled = refl

-- "4294967295"
pub word_spelled : decimal 4294967295 ≡ 52 ∷ 50 ∷ 57 ∷ 52 ∷ 57 ∷ 54 ∷ 55 ∷ 50 ∷ 57 ∷ 53 ∷ []
unfolding decimal
word_spelled = refl

-- the greatest number of 64 bits, with twenty digits, and back
pub greatest_spelled : value_of (decimal 18446744073709551615) ≡ 18446744073709551615
unfolding decimal
greatest_spelled = refl

-- "refused 7 at 1", as document 01 prints it
pub refused_spelled : refusal_line 7 1 ≡ 114 ∷ 101 ∷ 102 ∷ 117 ∷ 115 ∷ 101 ∷ 100 ∷ 32 ∷ 55 ∷ 32 ∷ 97 ∷ 116 ∷ 32 ∷ 49 ∷ 10 ∷ []
unfolding refusal_line line field decimal
refused_spelled = refl
