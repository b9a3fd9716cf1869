-- What a text says: decimal numbers with blanks, tabs, carriage returns or line ends between them; `#` begins a comment up to the line's end.
-- A text is read byte by byte, by a reader that stands between numbers, in a comment or inside a number.
-- Assumes nothing.
use Rattle.std.specs.Prelude.{ℕ, zero, suc, ◌+◌, ◌-◌, ◌*◌, List, [], ◌∷◌, ◌++◌, Bool, Option, None, Some, Result, Ok, Err, cond, ◌&&◌, ◌||◌, length, leb, eqb}
use Rattle.scribe.specs.declared.Mark.{Mark}
use Rattle.scribe.specs.declared.Mark.TheVariants.{Between, Comment, Inside}
use Rattle.scribe.specs.declared.Slip.{Slip}
use Rattle.scribe.specs.declared.Slip.TheVariants.{Word, Large, Many}
use Rattle.scribe.specs.declared.Mistake.{Mistake}

-- What a byte does: the number that ends with it, if one does, and where the reader stands behind it; or the text is wrong.
abbrev pub Turn : Type 0
Turn = Result (Option ℕ × Mark) Slip

-- a blank, a tab, a carriage return, a line end
unfoldable pub is_blank : ℕ → Bool
is_blank b = eqb b 32 || (eqb b 9 || (eqb b 13 || eqb b 10))

-- `0` to `9`
unfoldable pub is_digit : ℕ → Bool
is_digit b = leb 48 b && leb b 57

-- A byte between numbers: a blank, the `#` of a comment, or the first digit of a number.
unfoldable pub outside_by : ℕ → Turn
outside_by b =
    cond (is_blank b) (Ok (None, Between))
    (cond (eqb b 35) (Ok (None, Comment))
    (cond (is_digit b) (Ok (None, Inside (b - 48))) (Err Word)))

-- A digit d behind digits worth v: the greatest number is 4,294,967,295.
unfoldable pub longer_by : ℕ → ℕ → Turn
longer_by v d = cond (leb (10 * v + d) 4294967295) (Ok (None, Inside (10 * v + d))) (Err Large)

-- A byte behind digits worth v: one more digit; or the number ends, by a blank or by a comment.
unfoldable pub inside_by : ℕ → ℕ → Turn
inside_by v b =
    cond (is_digit b) (longer_by v (b - 48))
    (cond (is_blank b) (Ok (Some v, Between))
    (cond (eqb b 35) (Ok (Some v, Comment)) (Err Word)))

-- What a byte does, by where the reader stands. A comment ends at the line's end.
unfoldable pub turn_of : Mark → ℕ → Turn
turn_of Between b = outside_by b
turn_of Comment b = cond (eqb b 10) (Ok (None, Between)) (Ok (None, Comment))
turn_of (Inside v) b = inside_by v b

-- The numbers of a text; or those before the first thing that is wrong, what that is, and in which line.
pub data Said : Type 0 where
  these : List ℕ → Said
  wrong : List ℕ → Slip → ℕ → Said

abbrev pub also : ℕ → Said → Said
also x (these xs) = these (x ∷ xs)
also x (wrong xs s l) = wrong (x ∷ xs) s l

-- The line behind a byte.
unfoldable pub line_after : ℕ → ℕ → ℕ
line_after line b = cond (eqb b 10) (line + 1) line

-- A number takes a place of the room that is left, and where there is none it is one too many.
abbrev pub on_turn : Turn → ℕ → ℕ → (ℕ → Mark → Said) → Said
on_turn (Ok (None, m)) room line go = go room m
on_turn (Ok (Some x, m)) zero line go = wrong [] Many line
on_turn (Ok (Some x, m)) (suc room) line go = also x (go room m)
on_turn (Err s) room line go = wrong [] s line

-- Byte by byte, from a line on, with room for so many numbers.
abbrev pub text_from : ℕ → ℕ → Mark → List ℕ → Said
text_from room line m [] = these []
text_from room line m (b ∷ t) = on_turn (turn_of m b) room line (λ room' m'. text_from room' (line_after line b) m' t)

-- A whole text, behind which a line end stands: lines are counted from 1.
unfoldable pub text_of : ℕ → List ℕ → Said
text_of room text = text_from room 1 Between (text ++ (10 ∷ []))

-- What the reader gives, and what it writes over the front of the list.
abbrev pub gives_text : Said → Result ℕ Mistake
gives_text (these xs) = Ok (length xs)
gives_text (wrong xs s l) = Err (record { slip = s; line = l })

abbrev pub numbers_in : Said → List ℕ
numbers_in (these xs) = xs
numbers_in (wrong xs s l) = xs
