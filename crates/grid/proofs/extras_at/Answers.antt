use native.Mathlib.Omega.{arith}
use Rattle.grid.specs.Steps.{step_at}
use Rattle.grid.proofs.Decoding.{decoding_begins, decoding_turns, decoding_ends}
use Rattle.grid.proofs.extras_at.Goals as goal

pub loop-k-init : goal.loop-k-init
loop-k-init c = decoding_begins (step_at c.args.start c.args.g) c.args.g c.args.groups c.args.number

pub loop-k-preserved : goal.loop-k-preserved
loop-k-preserved c =
    let a = c.args in
    let l = c.loop-k in
    decoding_turns (step_at a.start a.g) a.g a.groups a.number l.extras l.rest l.k (omega arith) (omega arith) l.invariant

pub returns : goal.returns
returns c = record {
  is =
      let a = c.args in
      let l = c.loop-k in
      decoding_ends (step_at a.start a.g) a.g a.groups a.number l.extras l.rest l.k (omega arith) l.invariant;
}
