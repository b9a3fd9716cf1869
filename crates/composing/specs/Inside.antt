-- What the functions inside `compose` hand on to each other.
-- Assumes nothing.
use Rattle.std.specs.Prelude.{ℕ, List}
use Rattle.sheet.specs.Sheet.{list_of}
use Rattle.composing.specs.Composed.{Composed, by_writer}

-- what is made of a text's numbers
unfoldable pub by_list : List ℕ → List ℕ → Composed
by_list text xs = by_writer text xs (list_of xs)
