-- Where the first point can not be passed it is the best; else the least key's number is that of the best point (proofs/Searching.antt).
-- Assumes nothing.
use native.Mathlib.Omega.{arith}
use Rattle.search.proofs.Searching.{servers_are, light, offset_small, steps_start, second_small, first_best, ready_first, number_best}
use Rattle.search.proofs.best_number.Goals as goal

pub curve_of-curve-requires : goal.curve_of-curve-requires
curve_of-curve-requires c = (c.requires.0.shaped.short, servers_are _ c.requires.0, c.requires.0.prompt)

pub overflow_add-curve : goal.overflow_add-curve
overflow_add-curve c =
    let h = c.curve_of-curve.ensures in
    omega (arith, offset_small _ c.requires.0 c.requires.1 _ c.requires.2 _ h, second_small _ c.requires.0 c.requires.1 _ c.requires.2 _ h)

pub returns-then-steps-curve : goal.returns-then-steps-curve
returns-then-steps-curve c = first_best _ c.requires.0 c.requires.1 _ c.requires.2 _ c.curve_of-curve.ensures c.if-steps-curve.true

pub wants_of-wants-requires : goal.wants_of-wants-requires
wants_of-wants-requires c = (c.requires.0.shaped, light _ c.requires.0)

pub overflow_mul-most : goal.overflow_mul-most
overflow_mul-most c = omega (arith, steps_start _ c.requires.0 c.requires.1 _ c.requires.2 _ c.curve_of-curve.ensures, c.requires.0.near)

pub choose-key-requires : goal.choose-key-requires
choose-key-requires c = ready_first _ c.requires.0 c.requires.1 _ c.requires.2 _ c.curve_of-curve.ensures c.wants_of-wants.result c.wants_of-wants.ensures

pub returns : goal.returns
returns c = number_best _ c.requires.0 c.requires.1 _ c.requires.2 _ c.curve_of-curve.ensures c.choose-key.result c.choose-key.ensures.is
