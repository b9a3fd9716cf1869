-- What the functions inside the reader of a number hand on to each other.
-- Assumes nothing.
use Rattle.std.specs.Prelude.{ℕ, ◌+◌, ◌*◌, ◌<◌, ◌≡◌, cond, List, Result, Ok, Err, length, get_or, ltb, eqb}
use Rattle.numbers.specs.declared.Fault.{Fault}
use Rattle.numbers.specs.declared.Fault.TheVariants.{Ends, Padded, Large}
use Rattle.numbers.specs.Seven.{Run, ends, long, run}

-- a number of several groups, by its value, its last group and the place behind it
abbrev pub settled : ℕ → ℕ → ℕ → Result (ℕ × ℕ) Fault
settled value last next = cond (ltb 4294967295 value) (Err Large) (cond (eqb last 0) (Err Padded) (Ok (value, next)))

-- a number whose fifth group, and what that one is, stands behind four groups worth `sum`
abbrev pub fifth_of : ℕ → ℕ → Run → Result (ℕ × ℕ) Fault
fifth_of sum p ends = Err Ends
fifth_of sum p long = Err Large
fifth_of sum p (run v k z) = settled (sum + 268435456 * v) z (p + k)

-- at a place a number begins with a group worth `first` that says that another follows
pub record Continues (s : List ℕ) (at first : ℕ) : Type 0 where
  pub inside : at < length s
  pub group : get_or s at 0 ≡ first + 128
  pub small : first < 128
