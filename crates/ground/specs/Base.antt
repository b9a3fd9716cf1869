-- How many digits a number has in a base.
-- Assumes nothing.
use Rattle.std.specs.Prelude.{ℕ, zero, suc, ◌/◌, cond, ltb}

-- The number of digits of x in base b, at most n: a number below the base has one, any other one more than its b-th part.
abbrev pub width : ℕ → ℕ → ℕ → ℕ
width b zero x = 0
width b (suc n) x = cond (ltb x b) 1 (suc (width b n (x / b)))
