-- What a lent buffer holds where some entries are to go into it: they stand at its front where it has room for them, and entries past them
-- stay; where it is too short, all of it stays.
-- Assumes nothing.
use Rattle.std.specs.Prelude.{ℕ, cond, List, ◌++◌, ltb, length, drop}

abbrev pub holds : List ℕ → List ℕ → List ℕ
holds xs buffer = cond (ltb (length buffer) (length xs)) buffer (xs ++ drop (length xs) buffer)
