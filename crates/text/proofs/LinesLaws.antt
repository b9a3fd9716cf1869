-- How long lines are: a number takes at most twenty digits. And what a line says: its number can be told from it.
-- Assumes nothing.
use Rattle.std.specs.Prelude.{ℕ, ◌+◌, ◌≤◌, ◌<◌, ◌≡◌, refl, List, [], ◌∷◌, ◌++◌, length, drop, get_or}
use Rattle.std.proofs.Common.{sym, ap, ◌∙◌, append_assoc, arith, length-append}
use Rattle.text.specs.Decimal.{decimal, value_of}
use Rattle.text.proofs.DecimalLaws.{AllDigits, decimal_few, decimal_all, decimal_value}
use Rattle.text.specs.Lines.{line_end, refused_word, at_word, field, line, refusal_line}

pub field_length : (word : List ℕ) (x : ℕ) → length (field word x) ≡ length word + length (decimal x)
unfolding field
field_length word x = length-append word (decimal x)

pub line_length : (word : List ℕ) (x : ℕ) → length (line word x) ≡ length (field word x) + 1
unfolding line
line_length word x = length-append (field word x) line_end

pub refusal_length : (number detail : ℕ) → length (refusal_line number detail) ≡ length (field refused_word number) + length (line at_word detail)
unfolding refusal_line
refusal_length number detail = length-append (field refused_word number) (line at_word detail)

pub field_short : (word : List ℕ) (x : ℕ) → length (field word x) ≤ length word + 20
field_short word x = omega (arith, field_length word x, decimal_few x)

pub line_short : (word : List ℕ) (x : ℕ) → length (line word x) ≤ length word + 21
line_short word x = omega (arith, line_length word x, field_short word x)

pub refusal_short : (number detail : ℕ) → length (refusal_line number detail) ≤ 53
refusal_short number detail = omega (arith, refusal_length number detail, field_short refused_word number, line_short at_word detail)

-- digits end at the first line end
digits_end : (a b x y : List ℕ) → AllDigits a → AllDigits b → a ++ (line_end ++ x) ≡ b ++ (line_end ++ y) → (a ≡ b) × (x ≡ y)
digits_end [] [] x y h k e = (refl, ap (drop 1) e)
digits_end [] (d ∷ b) x y h k e = absurd (omega (arith, ap (λ (l : List ℕ). get_or l 0 0) e, k.0.0))
digits_end (d ∷ a) [] x y h k e = absurd (omega (arith, ap (λ (l : List ℕ). get_or l 0 0) e, h.0.0))
digits_end (c ∷ a) (d ∷ b) x y h k e =
    let r = digits_end a b x y h.1 k.1 (ap (drop 1) e) in
    (cc (ap (λ (l : List ℕ). get_or l 0 0) e, r.0), r.1)

-- a word that two texts begin with
word_off : (w a b : List ℕ) → w ++ a ≡ w ++ b → a ≡ b
word_off [] a b e = e
word_off (c ∷ w) a b e = word_off w a b (ap (drop 1) e)

-- two texts that are one begin with the same line, if both begin with a line of the same word; and their rests are one
pub line_same : (word : List ℕ) (a b : ℕ) (x y : List ℕ) → a < 18446744073709551616 → b < 18446744073709551616
    → line word a ++ x ≡ line word b ++ y → (a ≡ b) × (x ≡ y)
unfolding line field
line_same word a b x y h k e =
    let apart : (n : ℕ) (z : List ℕ) → ((word ++ decimal n) ++ line_end) ++ z ≡ word ++ (decimal n ++ (line_end ++ z)) =
    λ n z. append_assoc (word ++ decimal n) line_end z ∙ append_assoc word (decimal n) (line_end ++ z) in
    let r = digits_end (decimal a) (decimal b) x y (decimal_all a) (decimal_all b)
    (word_off word (decimal a ++ (line_end ++ x)) (decimal b ++ (line_end ++ y)) (sym (apart a x) ∙ e ∙ apart b y)) in
    (sym (decimal_value a h) ∙ ap value_of r.0 ∙ decimal_value b k, r.1)
