-- One run of P1, in which thirty watched bytes are inside the row at the end of slot 2. Filled.antt shows that it keeps every premise, and what follows.
-- Assumes nothing.
use Rattle.std.specs.Prelude.{ℕ, zero, suc, ◌+◌, List, [], ◌∷◌}
use Rattle.tandem.specs.OfSheet.{listed}
use Rattle.runs.specs.Run.{Run}

-- P1: "R 10, T 2; watched 20, 5", "mode 0, g 3". Every number is below 128, so the sheet's bytes are its numbers.
abbrev pub sheet : List ℕ
sheet = 1 ∷ 1 ∷ 10 ∷ 2 ∷ 0 ∷ 20 ∷ 5 ∷ 0 ∷ 3 ∷ []

-- n bytes, numbered from a on
abbrev pub bytes : ℕ → ℕ → List ℕ
bytes a n = listed n (λ i. a + i)

-- twenty-five bytes join in slot 1 and five in slot 2, as many as the bucket allows
abbrev pub joining : ℕ → List ℕ
joining zero = []
joining (suc zero) = bytes 0 25
joining (suc (suc zero)) = bytes 25 5
joining (suc (suc (suc t))) = []

-- none leaves in the two slots of the latency, and ten in each of the next three
abbrev pub leaving : ℕ → List ℕ
leaving zero = []
leaving (suc zero) = []
leaving (suc (suc zero)) = []
leaving (suc (suc (suc zero))) = bytes 0 10
leaving (suc (suc (suc (suc zero)))) = bytes 10 10
leaving (suc (suc (suc (suc (suc zero))))) = bytes 20 10
leaving (suc (suc (suc (suc (suc (suc t)))))) = []

-- every byte is of the watched flow
abbrev pub run : Run ℕ
run = record { of = λ b. 0; join = λ j. joining; leave = λ j. leaving }
