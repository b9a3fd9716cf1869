-- Worked examples of texts and what they say, computed; and what each of the 256 bytes does between numbers, inside a number and in a comment.
-- Assumes nothing.
use Rattle.std.specs.Prelude.{ℕ, zero, suc, ◌+◌, ◌-◌, ◌*◌, ◌≡◌, refl, List, [], ◌∷◌, ◌++◌, map, length}
use Rattle.scribe.specs.declared.Slip.TheVariants.{Word, Large, Many}
use Rattle.scribe.specs.Text.{is_blank, is_digit, outside_by, longer_by, inside_by, turn_of, line_after, Said, these, wrong, text_of}

-- a text, read with room for so many numbers, and what it says
pub record Example : Type 0 where
  pub room : ℕ
  pub text : List ℕ
  pub says : Said

abbrev example : ℕ → List ℕ → Said → Example
example n t s = record { room = n; text = t; says = s }

-- "1 20", "#x", "3" in three lines with no line end behind the last
abbrev three : List ℕ
three = 49 ∷ 32 ∷ 50 ∷ 48 ∷ 10 ∷ 35 ∷ 120 ∷ 10 ∷ 51 ∷ []

-- "429496729": the greatest number without its last digit
abbrev nine : List ℕ
nine = 52 ∷ 50 ∷ 57 ∷ 52 ∷ 57 ∷ 54 ∷ 55 ∷ 50 ∷ 57 ∷ []

abbrev pub texts : List Example
texts =
    example 0 [] (these [])
    ∷ example 3 three (these (1 ∷ 20 ∷ 3 ∷ []))
    -- one number too many, in the line in which it ends
    ∷ example 2 three (wrong (1 ∷ 20 ∷ []) Many 3)
    ∷ example 1 three (wrong (1 ∷ []) Many 1)
    -- "1" and "-2" in two lines, without and with a carriage return; in one line, behind a tab and a carriage return
    ∷ example 3 (49 ∷ 10 ∷ 45 ∷ 50 ∷ []) (wrong (1 ∷ []) Word 2)
    ∷ example 3 (49 ∷ 13 ∷ 10 ∷ 45 ∷ 50 ∷ []) (wrong (1 ∷ []) Word 2)
    ∷ example 3 (9 ∷ 49 ∷ 13 ∷ 45 ∷ 50 ∷ []) (wrong (1 ∷ []) Word 1)
    -- the greatest number, also with a 0 before it, and one above
    ∷ example 1 (nine ++ (53 ∷ [])) (these (4294967295 ∷ []))
    ∷ example 1 (48 ∷ nine ++ (53 ∷ [])) (these (4294967295 ∷ []))
    ∷ example 1 (nine ++ (54 ∷ [])) (wrong [] Large 1)
    ∷ []

pub texts_read : map (λ (e : Example). text_of e.room e.text) texts ≡ map (λ (e : Example). e.says) texts
unfolding text_of turn_of outside_by inside_by longer_by is_blank is_digit line_after
texts_read = refl

-- The 256 bytes, each of one kind.

abbrev counted : ℕ → ℕ → List ℕ
counted zero b = []
counted (suc n) b = b ∷ counted n (suc b)

-- the bytes from a to z
abbrev pub to : ℕ → ℕ → List ℕ
to a z = counted (suc z - a) a

-- tab, line end, carriage return, blank
abbrev pub blanks : List ℕ
blanks = 9 ∷ 10 ∷ 13 ∷ 32 ∷ []

abbrev pub digits : List ℕ
digits = to 48 57

-- neither blanks nor digits, and not `#`, which is 35
abbrev pub others : List ℕ
others = to 0 8 ++ (to 11 12 ++ (to 14 31 ++ (to 33 34 ++ (to 36 47 ++ to 58 255))))

-- all but the line end, which is 10
abbrev pub in_line : List ℕ
in_line = to 0 9 ++ to 11 255

pub bytes_counted : (length (blanks ++ (digits ++ (35 ∷ others))) ≡ 256) × (length in_line ≡ 255)
bytes_counted = (refl, refl)

-- bytes, a text with one of them in it, and what the text says with each
pub record Kind : Type 0 where
  pub bytes : List ℕ
  pub text : ℕ → List ℕ
  pub says : ℕ → Said

abbrev kind : List ℕ → (ℕ → List ℕ) → (ℕ → Said) → Kind
kind bs t s = record { bytes = bs; text = t; says = s }

abbrev pub kinds : List Kind
kinds =
    -- between numbers, and between the "1" and "2" of "12"
    kind blanks (λ b. b ∷ 50 ∷ []) (λ b. these (2 ∷ []))
    ∷ kind blanks (λ b. 49 ∷ b ∷ 50 ∷ []) (λ b. these (1 ∷ 2 ∷ []))
    ∷ kind digits (λ b. b ∷ 50 ∷ []) (λ b. these ((10 * (b - 48) + 2) ∷ []))
    ∷ kind digits (λ b. 49 ∷ b ∷ 50 ∷ []) (λ b. these ((100 + 10 * (b - 48) + 2) ∷ []))
    ∷ kind (35 ∷ []) (λ b. b ∷ 50 ∷ []) (λ b. these [])
    ∷ kind (35 ∷ []) (λ b. 49 ∷ b ∷ 50 ∷ []) (λ b. these (1 ∷ []))
    ∷ kind others (λ b. b ∷ 50 ∷ []) (λ b. wrong [] Word 1)
    ∷ kind others (λ b. 49 ∷ b ∷ 50 ∷ []) (λ b. wrong [] Word 1)
    -- in a comment, with "2" behind it: only the line end ends it
    ∷ kind in_line (λ b. 35 ∷ b ∷ 50 ∷ []) (λ b. these [])
    ∷ kind (10 ∷ []) (λ b. 35 ∷ b ∷ 50 ∷ []) (λ b. these (2 ∷ []))
    -- in a comment, with "-" in the line below: only the line end counts as a line
    ∷ kind in_line (λ b. 35 ∷ b ∷ 10 ∷ 45 ∷ []) (λ b. wrong [] Word 2)
    ∷ kind (10 ∷ []) (λ b. 35 ∷ b ∷ 10 ∷ 45 ∷ []) (λ b. wrong [] Word 3)
    ∷ []

pub bytes_read : map (λ (k : Kind). map (λ (b : ℕ). text_of 2 (k.text b)) k.bytes) kinds ≡ map (λ (k : Kind). map k.says k.bytes) kinds
unfolding text_of turn_of outside_by inside_by longer_by is_blank is_digit line_after
bytes_read = refl
