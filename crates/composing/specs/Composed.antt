-- What `compose` makes of a text: the bytes of the sheet whose numbers it says, or one line that says what is wrong and where. Lines are counted
-- from 1, and numbers from 0, as the writer's refusals count them.
-- Assumes nothing.
use Rattle.std.specs.Prelude.{ℕ, ◌-◌, cond, List, [], ◌∷◌, ◌++◌, Option, Some, None, Result, Ok, Err, ltb, eqb, length, get_or}
use Rattle.fields.specs.declared.User.TheVariants.{Writer}
use Rattle.fields.specs.declared.Rule.{Rule}
use Rattle.fields.specs.declared.Why.{Why}
use Rattle.fields.specs.declared.Why.TheVariants.{Ends, Left}
use Rattle.fields.specs.Refusal.{refusal}
use Rattle.fields.specs.Rule.{field_at, field_rule}
use Rattle.sheet.specs.Sheet.{Found, fail, these, list_of, encode_all}
use Rattle.text.specs.declared.Refused.{Refused}
use Rattle.text.specs.Lines.{line_end, field}
use Rattle.scribe.specs.declared.Slip.{Slip}
use Rattle.scribe.specs.declared.Slip.TheVariants.{Word, Large, Many}
use Rattle.scribe.specs.Text as scribe
use Rattle.naming.specs.Names.{extent_in, seen, name_at, range_of}

-- "line "
abbrev pub line_word : List ℕ
line_word = 108 ∷ 105 ∷ 110 ∷ 101 ∷ 32 ∷ []

-- ": number "
abbrev pub place_word : List ℕ
place_word = 58 ∷ 32 ∷ 110 ∷ 117 ∷ 109 ∷ 98 ∷ 101 ∷ 114 ∷ 32 ∷ []

-- "number "
abbrev pub number_word : List ℕ
number_word = 110 ∷ 117 ∷ 109 ∷ 98 ∷ 101 ∷ 114 ∷ 32 ∷ []

-- " ("
abbrev pub open_word : List ℕ
open_word = 32 ∷ 40 ∷ []

-- ") is "
abbrev pub is_word : List ℕ
is_word = 41 ∷ 32 ∷ 105 ∷ 115 ∷ 32 ∷ []

-- ") is missing" and the line end
abbrev pub missing_word : List ℕ
missing_word = 41 ∷ 32 ∷ 105 ∷ 115 ∷ 32 ∷ 109 ∷ 105 ∷ 115 ∷ 115 ∷ 105 ∷ 110 ∷ 103 ∷ 10 ∷ []

-- " is left over" and the line end
abbrev pub left_word : List ℕ
left_word = 32 ∷ 105 ∷ 115 ∷ 32 ∷ 108 ∷ 101 ∷ 102 ∷ 116 ∷ 32 ∷ 111 ∷ 118 ∷ 101 ∷ 114 ∷ 10 ∷ []

-- ": not a number" and the line end
abbrev pub word_slip : List ℕ
word_slip = 58 ∷ 32 ∷ 110 ∷ 111 ∷ 116 ∷ 32 ∷ 97 ∷ 32 ∷ 110 ∷ 117 ∷ 109 ∷ 98 ∷ 101 ∷ 114 ∷ 10 ∷ []

-- ": a number above 4294967295" and the line end
abbrev pub large_slip : List ℕ
large_slip =
    58 ∷ 32 ∷ 97 ∷ 32 ∷ 110 ∷ 117 ∷ 109 ∷ 98 ∷ 101 ∷ 114 ∷ 32 ∷ 97 ∷ 98 ∷ 111
    ∷ 118 ∷ 101 ∷ 32 ∷ 52 ∷ 50 ∷ 57 ∷ 52 ∷ 57 ∷ 54 ∷ 55 ∷ 50 ∷ 57 ∷ 53 ∷ 10 ∷ []

-- ": more than 232 numbers" and the line end
abbrev pub many_slip : List ℕ
many_slip = 58 ∷ 32 ∷ 109 ∷ 111 ∷ 114 ∷ 101 ∷ 32 ∷ 116 ∷ 104 ∷ 97 ∷ 110 ∷ 32 ∷ 50 ∷ 51 ∷ 50 ∷ 32 ∷ 110 ∷ 117 ∷ 109 ∷ 98 ∷ 101 ∷ 114 ∷ 115 ∷ 10 ∷ []

-- "the text is longer than 16384 bytes" and the line end
abbrev pub long_text : List ℕ
long_text =
    116 ∷ 104 ∷ 101 ∷ 32 ∷ 116 ∷ 101 ∷ 120 ∷ 116 ∷ 32 ∷ 105 ∷ 115 ∷ 32 ∷ 108 ∷ 111 ∷ 110 ∷ 103 ∷ 101 ∷ 114
    ∷ 32 ∷ 116 ∷ 104 ∷ 97 ∷ 110 ∷ 32 ∷ 49 ∷ 54 ∷ 51 ∷ 56 ∷ 52 ∷ 32 ∷ 98 ∷ 121 ∷ 116 ∷ 101 ∷ 115 ∷ 10 ∷ []

-- what is wrong with the text itself, and in which line: `line 2: not a number`
abbrev pub slip_word : Slip → List ℕ
slip_word Word = word_slip
slip_word Large = large_slip
slip_word Many = many_slip

unfoldable pub slip_line : Slip → ℕ → List ℕ
slip_line slip line = field line_word line ++ slip_word slip

-- the line of number d of a text: that of the first number for which a list of d has no room, if there is one
abbrev pub line_in : scribe.Said → Option ℕ
line_in (scribe.these xs) = None
line_in (scribe.wrong xs slip line) = Some line

unfoldable pub line_of : List ℕ → ℕ → Option ℕ
line_of text d = line_in (scribe.text_of d text)

-- where a number stands: `line 4: number 7`, or `number 7` where the text does not have it
unfoldable pub place_text : Option ℕ → ℕ → List ℕ
place_text (Some line) d = field line_word line ++ field place_word d
place_text None d = field number_word d

-- the rule of the field at place d of a list, as the writer has it
abbrev pub rule_in : List ℕ → ℕ → Rule
rule_in xs d = field_rule Writer (get_or xs 1 0) (get_or xs (d - 1) 0) (field_at d (seen (extent_in xs)))

-- that the number at place d is outside the range of its rule: `70000, outside 0..65535`
unfoldable pub outside_text : List ℕ → ℕ → List ℕ
outside_text xs d = range_of (rule_in xs d)

unfoldable pub outside_line : List ℕ → ℕ → List ℕ
outside_line xs d = field is_word (get_or xs d 0) ++ (outside_text xs d ++ line_end)

-- what is wrong with number d of a list, by the number of the writer's refusal: it is left over, it is missing, or it is outside its range
unfoldable pub fault_end : List ℕ → ℕ → ℕ → List ℕ
fault_end xs number d = cond (eqb number (refusal Ends)) missing_word (outside_line xs d)

unfoldable pub fault_text : List ℕ → ℕ → ℕ → List ℕ
fault_text xs number d = cond (eqb number (refusal Left)) left_word (open_word ++ (name_at d (extent_in xs) ++ fault_end xs number d))

unfoldable pub complaint : List ℕ → List ℕ → Why → ℕ → List ℕ
complaint text xs w d = place_text (line_of text d) d ++ fault_text xs (refusal w) d

-- a sheet's bytes, or a line that says what is wrong
pub data Composed : Type 0 where
  made : List ℕ → Composed
  wrong : List ℕ → Composed

abbrev pub by_writer : List ℕ → List ℕ → Found → Composed
by_writer text xs (these ys) = made (encode_all ys)
by_writer text xs (fail w d) = wrong (complaint text xs w d)

-- one number more than a sheet has is taken, so that the writer can say that it is left over
abbrev pub by_text : List ℕ → scribe.Said → Composed
by_text text (scribe.these xs) = by_writer text xs (list_of xs)
by_text text (scribe.wrong xs slip line) = wrong (slip_line slip line)

-- a text has at most 16,384 bytes
unfoldable pub composed : List ℕ → Composed
composed text = cond (ltb 16384 (length text)) (wrong long_text) (by_text text (scribe.text_of 232 text))

-- what is printed, and whether it is an answer
abbrev pub composed_bytes : Composed → List ℕ
composed_bytes (made bytes) = bytes
composed_bytes (wrong line) = line

abbrev pub composed_printed : Composed → Result ℕ Refused
composed_printed (made bytes) = Ok (length bytes)
composed_printed (wrong line) = Err (record { length = length line })

-- every sheet and every line has room on a page of so many bytes
abbrev pub compose_page : ℕ
compose_page = 512
