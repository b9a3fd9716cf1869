-- What the functions inside the entry of the analysis hand on to each other.
-- Assumes nothing.
use Rattle.std.specs.Prelude.{ℕ, ◌≤◌, ◌<◌, ◌≡◌, List, ◌∷◌, length, get_or, take}
use Rattle.analysis.specs.declared.Analysed.{Analysed}

-- the numbers of an answer record, from what the analysis holds
abbrev pub record_in : Analysed → List ℕ
record_in a = a.bound ∷ a.start ∷ a.grid ∷ a.count ∷ take a.count a.waits

-- its numbers fit
pub record Fits (a : Analysed) : Type 0 where
  pub bound : a.bound < 4294967296
  pub start : a.start < 4294967296
  pub grid : a.grid < 4294967296
  pub few : a.count ≤ 31
  pub waits : (k : ℕ) → k < a.count → get_or a.waits k 0 < 4294967296
  pub long : length a.waits ≡ 32
