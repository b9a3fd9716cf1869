-- Refusal 7 (document 01, "Refusals by number") as a test of a row and as a sentence. CrowdedLaws.antt proves that both say the same.
-- Assumes nothing.
use Rattle.std.specs.Prelude.{ℕ, zero, suc, ◌+◌, ◌≤◌, ◌<◌, Bool, cond, eqb, ltb, Option, Some, None}
use Rattle.tandem.specs.Tandem.{Tandem, size, server, crosses, rates}

-- 7: "the rates at a server, the watched flow's included, sum above R"
unfoldable pub crowded : Tandem → ℕ → Bool
crowded row j = ltb (server row j).rate (rates row (λ f. crosses row f j))

-- "lowest such server", from server j on, of n servers; 0 if there is none
unfoldable pub lowest_crowded : Tandem → ℕ → ℕ → ℕ
lowest_crowded row j zero = 0
lowest_crowded row j (suc n) = cond (crowded row j) j (lowest_crowded row (suc j) n)

-- the lowest such server of the row, if there is one
abbrev pub crowded_server : Tandem → Option ℕ
crowded_server row = cond (eqb (lowest_crowded row 1 (size row)) 0) None (Some (lowest_crowded row 1 (size row)))

-- the rates at server j, the watched flow's included, sum above R
abbrev pub Crowds : Tandem → ℕ → Type 0
Crowds row j = (server row j).rate < rates row (λ f. crosses row f j)

-- server j is one of the n from server i on, its rates sum above R, and no lower server's of these do
pub record Lowest (row : Tandem) (i n j : ℕ) : Type 0 where
  pub behind : i ≤ j
  pub before : j < i + n
  pub crowds : Crowds row j
  pub lower : (k : ℕ) → i ≤ k → k < j → Crowds row k → ⊥
