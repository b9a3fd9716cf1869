-- A property of each entry of a list.
-- Assumes nothing.
use Rattle.std.specs.Prelude.{List, [], ◌∷◌}

-- P of each entry of a list
abbrev pub Each : {A : Type 0} → (A → Type 0) → List A → Type 0
Each P [] = Unit {0}
Each P (x ∷ l) = P x × Each P l
