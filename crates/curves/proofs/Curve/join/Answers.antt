use Rattle.std.proofs.Common.{arith, ◌≡◌, ◌+◌, ◌-◌, ℕ, List, ◌++◌, length, take, drop, sym, append_assoc, drop-drop}
use Rattle.std.proofs.Math.Seq.{paste}
use Rattle.curves.specs.declared.Stage.{Stage}
use Rattle.curves.specs.Curve.{joined}
use Rattle.curves.specs.Held.{shape_of, spare}
use Rattle.curves.proofs.HeldLaws.{held_both, held_joined}
use Rattle.curves.proofs.Curve.join.Goals as goal

-- the other's stages, put in the place of as many behind the first a
pasted : (xs ys zs : List Stage) (a n k : ℕ) → ys ≡ take n zs → k ≡ n → take a xs ++ (ys ++ drop k (drop a xs)) ≡ paste xs a zs n
pasted xs ys zs a n k e h = rw (e, h, drop-drop) (sym (append_assoc (take a xs) (take n zs) (drop (a + n) xs)))

pub returns : goal.returns
returns c =
    let a = c.args.self.now in
    let b = c.args.other.now in
    let m : length a.stages ≡ 16 = omega arith in
    let n : length b.stages ≡ 16 = omega arith in
    let p = pasted a.stages c.copy_from_slice.new.self b.stages a.count b.count (a.count + b.count - a.count) c.copy_from_slice.ensures.after (omega arith) in
    let h = held_both (joined (shape_of a) (shape_of b)) (drop b.count (spare a)) (rw p (held_joined a b (omega arith) (omega arith))) in
    record { is = h.0; holds = h.1 }
