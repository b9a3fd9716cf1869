-- `composing::put_fault` meets its contract: by the refusal; the name and the rest are put behind the opening words.
-- Assumes nothing.
use Rattle.std.proofs.Common.{◌≡◌, ◌++◌, rules}
use Rattle.fields.specs.declared.Why.TheVariants.{Left}
use Rattle.fields.specs.Refusal.{refusal}
use Rattle.text.proofs.PutLaws.{room_first, room_then, written_then}
use Rattle.naming.specs.Names.{extent_in, name_at}
use Rattle.composing.specs.Composed.{open_word, fault_end, fault_text}
use Rattle.composing.proofs.Complaining.{fault_named}
use Rattle.composing.proofs.put_fault.Goals as goal

pub put_word-requires : goal.put_word-requires
unfolding fault_text
put_word-requires c = let e : c.args.why ≡ Left = search rules in rw e at c.requires.1

pub returns-then-eq : goal.returns-then-eq
unfolding fault_text
returns-then-eq c = let e : c.args.why ≡ Left = search rules in rw e c.put_word.ensures

pub put_word-requires-else-eq : goal.put_word-requires-else-eq
put_word-requires-else-eq c =
    let n : c.args.why ≡ Left → ⊥ = search rules in
    let xs = c.args.numbers.now in
    room_first open_word (name_at c.args.place (extent_in xs) ++ fault_end xs (refusal c.args.why) c.args.place) c.args.page.now
    (rw (fault_named c.args.why n) at c.requires.1)

pub put_name_at-requires : goal.put_name_at-requires
put_name_at-requires c =
    let n : c.args.why ≡ Left → ⊥ = search rules in
    let name = name_at c.args.place (extent_in c.args.numbers.now) in
    let rest = fault_end c.args.numbers.now (refusal c.args.why) c.args.place in
    let r = room_then open_word (name ++ rest) c.put_word-else-eq.ensures (rw (fault_named c.args.why n) at c.requires.1) in
    (c.requires.0, rw c.of.ensures.is (room_first name rest c.put_word-else-eq.new.self r))

pub put_end-requires : goal.put_end-requires
put_end-requires c =
    let n : c.args.why ≡ Left → ⊥ = search rules in
    let name = name_at c.args.place (extent_in c.args.numbers.now) in
    let rest = fault_end c.args.numbers.now (refusal c.args.why) c.args.place in
    let r = room_then open_word (name ++ rest) c.put_word-else-eq.ensures (rw (fault_named c.args.why n) at c.requires.1) in
    (c.requires.0, room_then name rest (rw c.of.ensures.is at c.put_name_at.ensures) r)

pub returns-else-eq : goal.returns-else-eq
returns-else-eq c =
    let n : c.args.why ≡ Left → ⊥ = search rules in
    rw (fault_named c.args.why n) (written_then c.put_word-else-eq.ensures (written_then (rw c.of.ensures.is at c.put_name_at.ensures) c.put_end.ensures))
