-- What the public function promises of its result and of the list lent to it.
-- Assumes nothing.
use Rattle.std.specs.Prelude.{◌≡◌, List, ℕ, Result, length}
use Rattle.std.proofs.lemmas.List.Edits.{sets}
use Rattle.scribe.specs.declared.Mistake.{Mistake}
use Rattle.scribe.specs.Text.{text_of, gives_text, numbers_in}

pub record NumbersOfText (text before : List ℕ) (r : Result ℕ Mistake) (after : List ℕ) : Type 0 where
  -- the count of the text's numbers, or what is wrong with it and in which line
  pub gives : r ≡ gives_text (text_of (length before) text)
  -- the numbers read stand in front, and entries past them stay
  pub holds : after ≡ sets before 0 (numbers_in (text_of (length before) text))
