-- One run of P3, in which a watched byte leaves one slot after it entered. Witness.antt shows that it keeps every premise, and what follows.
-- Assumes nothing.
use Rattle.std.specs.Prelude.{ℕ, zero, suc, List, [], ◌∷◌}
use Rattle.runs.specs.Run.{Run}

-- P3: "R 10, T 0", "watched 6, 5", "mode 0, g 3". Every number is below 128, so the sheet's bytes are its numbers.
abbrev pub sheet : List ℕ
sheet = 1 ∷ 1 ∷ 10 ∷ 0 ∷ 0 ∷ 6 ∷ 5 ∷ 0 ∷ 3 ∷ []

-- eleven bytes join in slot 1; ten leave in it, and one in slot 2
abbrev pub joining : ℕ → List ℕ
joining zero = []
joining (suc zero) = 0 ∷ 1 ∷ 2 ∷ 3 ∷ 4 ∷ 5 ∷ 6 ∷ 7 ∷ 8 ∷ 9 ∷ 10 ∷ []
joining (suc (suc t)) = []

abbrev pub leaving : ℕ → List ℕ
leaving zero = []
leaving (suc zero) = 0 ∷ 1 ∷ 2 ∷ 3 ∷ 4 ∷ 5 ∷ 6 ∷ 7 ∷ 8 ∷ 9 ∷ []
leaving (suc (suc zero)) = 10 ∷ []
leaving (suc (suc (suc t))) = []

-- every byte is of the watched flow
abbrev pub run : Run ℕ
run = record { of = λ b. 0; join = λ j. joining; leave = λ j. leaving }
