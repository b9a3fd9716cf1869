-- `composing::put_outside` meets its contract: the number, its range and the line end are put behind one another.
-- Assumes nothing.
use Rattle.std.proofs.Common.{◌++◌, ◌∙◌, get_or}
use Rattle.text.specs.Lines.{line_end, field}
use Rattle.text.proofs.PutLaws.{room_first, room_then, written_then}
use Rattle.composing.specs.Composed.{is_word, outside_text, outside_line}
use Rattle.composing.proofs.Complaining.{range_said}
use Rattle.composing.proofs.put_outside.Goals as goal

pub put_field-requires : goal.put_field-requires
unfolding outside_line
put_field-requires c =
    let range = outside_text c.args.numbers.now c.args.place in
    rw (c.from.ensures ∙ c.number_at.ensures.is)
    (room_first (field is_word (get_or c.args.numbers.now c.args.place 0)) (range ++ line_end) c.args.page.now c.requires.1)

pub put_range-requires : goal.put_range-requires
unfolding outside_line
put_range-requires c =
    let range = outside_text c.args.numbers.now c.args.place in
    let f = rw (c.from.ensures ∙ c.number_at.ensures.is) at c.put_field.ensures in
    rw (range_said c.args.numbers.now c.args.place _ c.rule_at.ensures)
    (room_first range line_end c.put_field.new.self (room_then (field is_word (get_or c.args.numbers.now c.args.place 0)) (range ++ line_end) f c.requires.1))

pub put_word-requires : goal.put_word-requires
unfolding outside_line
put_word-requires c =
    let range = outside_text c.args.numbers.now c.args.place in
    let f = rw (c.from.ensures ∙ c.number_at.ensures.is) at c.put_field.ensures in
    let g = rw (range_said c.args.numbers.now c.args.place _ c.rule_at.ensures) at c.put_range.ensures in
    room_then range line_end g (room_then (field is_word (get_or c.args.numbers.now c.args.place 0)) (range ++ line_end) f c.requires.1)

pub returns : goal.returns
unfolding outside_line
returns c =
    let f = rw (c.from.ensures ∙ c.number_at.ensures.is) at c.put_field.ensures in
    let g = rw (range_said c.args.numbers.now c.args.place _ c.rule_at.ensures) at c.put_range.ensures in
    written_then f (written_then g c.put_word.ensures)
