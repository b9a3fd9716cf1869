-- P7 shown and composed, which meets every hypothesis of `shown_composed`, and the line of a text whose edition is wrong, computed.
-- Assumes nothing.
use Rattle.std.specs.Prelude.{ℕ, zero, suc, ◌≡◌, refl, false, Ok, Err, List, [], ◌∷◌, ◌++◌}
use Rattle.std.proofs.Common.{ap, inl, arith}
use Rattle.numbers.specs.Seven.{number_at}
use Rattle.numbers.proofs.SevenLaws.{Bytes}
use Rattle.fields.specs.declared.Why.TheVariants.{Outside}
use Rattle.fields.specs.declared.Rule.TheVariants.{Range}
use Rattle.fields.specs.Rule.{rule_at, field_at, seen_after, allowed}
use Rattle.fields.specs.Step.{step_on}
use Rattle.sheet.specs.Sheet.{sheet_of, list_of}
use Rattle.text.specs.Decimal.{decimal}
use Rattle.text.specs.Lines.{field}
use Rattle.scribe.specs.Text.{is_blank, is_digit, outside_by, longer_by, inside_by, turn_of, line_after, text_of}
use Rattle.naming.specs.Names.{name_of, owner_at, name_at, ends_of, range_of}
use Rattle.showing.specs.Shown.{shown}
use Rattle.composing.specs.Composed.{line_of, place_text, outside_text, outside_line, fault_end, fault_text, complaint, made, wrong, composed, composed_printed}
use Rattle.composing.proofs.ComposedLaws.{shown_composed}
use Rattle.composing.proofs.ToldLaws.{Told, told}

-- P7: R 10, T 0; cross 10, 6; watched 12, 4; g 4: its numbers are its bytes
abbrev pub P7 : List ℕ
P7 = 1 ∷ 1 ∷ 10 ∷ 0 ∷ 1 ∷ 1 ∷ 1 ∷ 10 ∷ 6 ∷ 12 ∷ 4 ∷ 0 ∷ 4 ∷ []

p7_bytes : Bytes P7
p7_bytes zero = omega arith
p7_bytes (suc zero) = omega arith
p7_bytes (suc (suc zero)) = omega arith
p7_bytes (suc (suc (suc zero))) = omega arith
p7_bytes (suc (suc (suc (suc zero)))) = omega arith
p7_bytes (suc (suc (suc (suc (suc zero))))) = omega arith
p7_bytes (suc (suc (suc (suc (suc (suc zero)))))) = omega arith
p7_bytes (suc (suc (suc (suc (suc (suc (suc zero))))))) = omega arith
p7_bytes (suc (suc (suc (suc (suc (suc (suc (suc zero)))))))) = omega arith
p7_bytes (suc (suc (suc (suc (suc (suc (suc (suc (suc zero))))))))) = omega arith
p7_bytes (suc (suc (suc (suc (suc (suc (suc (suc (suc (suc zero)))))))))) = omega arith
p7_bytes (suc (suc (suc (suc (suc (suc (suc (suc (suc (suc (suc zero))))))))))) = omega arith
p7_bytes (suc (suc (suc (suc (suc (suc (suc (suc (suc (suc (suc (suc zero)))))))))))) = omega arith
p7_bytes (suc (suc (suc (suc (suc (suc (suc (suc (suc (suc (suc (suc (suc i))))))))))))) = omega arith

-- what is shown of it is composed to it
pub p7_composed : composed (shown P7) ≡ made P7
unfolding sheet_of step_on rule_at field_at seen_after number_at
p7_composed = shown_composed P7 P7 p7_bytes refl

-- "2", whose edition is not 1
abbrev pub second : List ℕ
second = 50 ∷ []

-- "line 1: number 0 (edition) is 2, outside 1..1"
abbrev pub complained : List ℕ
complained =
    (108 ∷ 105 ∷ 110 ∷ 101 ∷ 32 ∷ 49 ∷ 58 ∷ 32 ∷ [])
    ++ (110 ∷ 117 ∷ 109 ∷ 98 ∷ 101 ∷ 114 ∷ 32 ∷ 48 ∷ 32 ∷ 40 ∷ 101 ∷ 100 ∷ 105 ∷ 116 ∷ 105 ∷ 111 ∷ 110 ∷ 41 ∷ 32 ∷ [])
    ++ (105 ∷ 115 ∷ 32 ∷ 50 ∷ 44 ∷ 32 ∷ 111 ∷ 117 ∷ 116 ∷ 115 ∷ 105 ∷ 100 ∷ 101 ∷ 32 ∷ 49 ∷ 46 ∷ 46 ∷ 49 ∷ 10 ∷ [])

pub second_wrong : composed second ≡ wrong complained
unfolding composed text_of turn_of outside_by inside_by longer_by is_blank is_digit line_after list_of step_on rule_at field_at seen_after complaint line_of place_text
    fault_text fault_end outside_line outside_text name_at name_of owner_at range_of ends_of field decimal
second_wrong = refl

-- a sheet is an answer of so many bytes, and what is wrong with a text is none
pub p7_printed : composed_printed (composed (shown P7)) ≡ Ok 13
p7_printed = ap composed_printed p7_composed

pub second_printed : composed_printed (composed second) ≡ Err (record { length = 46 })
second_printed = ap composed_printed second_wrong

-- it meets the hypotheses of the law of what is told
pub second_told : Told second (2 ∷ []) Outside 0
unfolding list_of step_on rule_at field_at seen_after
second_told = told second (2 ∷ []) Outside 0 (inl refl) refl

-- what that law says of it: the whole line, and that 1..1 does not admit 2
pub second_line : complaint second (2 ∷ []) Outside 0 ≡ complained
unfolding text_of turn_of outside_by inside_by longer_by is_blank is_digit line_after line_of place_text name_at name_of owner_at range_of ends_of field_at field decimal
second_line = second_told.line

pub second_barred : allowed (Range 1 1) 2 ≡ false
unfolding field_at
second_barred = second_told.barred
