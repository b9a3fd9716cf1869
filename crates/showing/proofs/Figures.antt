-- What there is to print of P7, an answer, and of no byte at all, a refusal.
-- Assumes nothing.
use Rattle.std.specs.Prelude.{ℕ, ◌≡◌, refl, List, [], ◌∷◌, Ok, Err}
use Rattle.numbers.specs.Seven.{number_at}
use Rattle.fields.specs.Rule.{rule_at, field_at, seen_after}
use Rattle.fields.specs.Step.{step_on}
use Rattle.sheet.specs.Sheet.{sheet_of}
use Rattle.text.specs.Decimal.{decimal}
use Rattle.text.specs.Lines.{field, line, refusal_line}
use Rattle.naming.specs.Names.{name_of, owner_at, name_at}
use Rattle.showing.specs.Shown.{named_line, lines_from, shown, show_text, show_printed}

-- P7: R 10, T 0; cross 10, 6; watched 12, 4; g 4
abbrev P7 : List ℕ
P7 = 1 ∷ 1 ∷ 10 ∷ 0 ∷ 1 ∷ 1 ∷ 1 ∷ 10 ∷ 6 ∷ 12 ∷ 4 ∷ 0 ∷ 4 ∷ []

-- the text of P7 has 274 bytes
pub printed7 : show_printed (sheet_of P7) ≡ Ok 274
unfolding show_printed show_text shown lines_from named_line name_at name_of owner_at field decimal sheet_of step_on rule_at field_at seen_after number_at
printed7 = refl

-- "refused 1 at 0"
pub printed0 : show_printed (sheet_of []) ≡ Err (record { length = 15 })
unfolding show_printed show_text refusal_line line field decimal sheet_of step_on rule_at field_at seen_after number_at
printed0 = refl
