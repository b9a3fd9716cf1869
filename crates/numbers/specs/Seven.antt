-- The seven-bit number of document 01, "The sheet": "Numbers are in groups of seven bits, lowest first; a set top bit says that
-- another group follows. At most five groups, at most 4,294,967,295, shortest form only. 300 is bytes 172, 2."
-- Assumes nothing.
use Rattle.std.specs.Prelude.{ℕ, zero, suc, ◌+◌, ◌-◌, ◌*◌, ◌/◌, ◌%◌, List, [], ◌∷◌, Result, Ok, Err, cond, ◌&&◌, drop, ltb, eqb}
use Rattle.numbers.specs.declared.Fault.{Fault}
use Rattle.numbers.specs.declared.Fault.TheVariants.{Ends, Padded, Large}

-- What the groups at the front of a list are: the list ends inside them; every group allowed continues; or they have a value,
-- there are so many of them, and the last is this.
pub data Run : Type 0 where
  ends : Run
  long : Run
  run : ℕ → ℕ → ℕ → Run

-- A group of seven bits that stands below others.
abbrev pub push : ℕ → Run → Run
push d ends = ends
push d long = long
push d (run v k z) = run (d + 128 * v) (k + 1) z

-- "groups of seven bits, lowest first; a set top bit says that another group follows", at most n of them
abbrev pub scan : ℕ → List ℕ → Run
scan zero s = long
scan (suc n) [] = ends
scan (suc n) (b ∷ s) = cond (ltb b 128) (run b 1 b) (push (b - 128) (scan n s))

-- "a number not shortest, with a fifth group that continues, or above 4,294,967,295": too large is said before padded, and
-- padded is a last group of 0 that is not the only one.
abbrev pub judge : ℕ → Run → Result (ℕ × ℕ) Fault
judge at ends = Err Ends
judge at long = Err Large
judge at (run v k z) = cond (ltb 4294967295 v) (Err Large) (cond (eqb z 0 && ltb 1 k) (Err Padded) (Ok (v, at + k)))

-- The number at a place of a list of bytes, and the place behind it; or why there is none.
unfoldable pub number_at : List ℕ → ℕ → Result (ℕ × ℕ) Fault
number_at s at = judge at (scan 5 (drop at s))

-- The groups of x, at most n of them: the lowest seven bits first, with the top bit set where another follows.
abbrev pub groups : ℕ → ℕ → List ℕ
groups zero x = []
groups (suc n) x = cond (ltb x 128) (x ∷ []) ((x % 128 + 128) ∷ groups n (x / 128))

-- The bytes of a number.
unfoldable pub encode : ℕ → List ℕ
encode x = groups 5 x
