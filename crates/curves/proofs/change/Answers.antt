use Rattle.std.proofs.Common.{sym, arith}
use Rattle.curves.proofs.PartLaws.{changed_none}
use Rattle.curves.proofs.ChangeLaws.{changing_at, changing_turns, changing_ends}
use Rattle.curves.proofs.change.Goals as goal

pub loop-x-init : goal.loop-x-init
loop-x-init g c = λ h a. sym (changed_none h 0 _)

pub f-requires : goal.f-requires
f-requires g c = let a = c.requires.acts in changing_at a.0 _ _ _ _ _ _ _ c.requires.part.0 c.requires.callable (c.loop-x.invariant a.0 a.1) (omega arith)

pub loop-x-preserved : goal.loop-x-preserved
loop-x-preserved g c = λ h a. changing_turns h _ _ _ _ _ (c.loop-x.invariant h a) (omega arith) (a _ _ c.f.ensures)

pub returns : goal.returns
returns g c = record { acts = c.requires.acts; is = λ h a. changing_ends h _ _ _ _ _ c.requires.part.0 (c.loop-x.invariant h a) (omega arith) }
