-- Points by their numbers: a number is written with a digit for each group, the last group's lowest, and each digit stands for a step.
-- Assumes nothing.
use Rattle.std.specs.Prelude.{◌≡◌, ◌⊎◌, Bool, true, false, List, [], ◌∷◌, ◌++◌, ℕ, zero, suc, ◌+◌, ◌*◌, ◌/◌, ◌%◌, ◌≤◌, ◌<◌, eqb}
use Rattle.tree.specs.Grid.{Answer, flat}
use Rattle.ground.specs.Each.{Each}

-- the point of n groups with number i, where digit d stands for the extra `step d`
abbrev pub point_at : (ℕ → ℕ) → ℕ → ℕ → ℕ → List ℕ
point_at step g zero i = []
point_at step g (suc n) i = point_at step g n (i / g) ++ (step (i % g) ∷ [])

-- x is in the list
abbrev pub In : ℕ → List ℕ → Type 0
In x [] = ⊥
In x (y ∷ l) = (x ≡ y) ⊎ In x l

-- the digits ds stand for all steps: each is a digit, and for each digit there is one among them, no greater, that stands for the same step
pub record Stand (step : ℕ → ℕ) (g : ℕ) (ds : List ℕ) : Type 0 where
  pub digits : Each (λ d. d < g) ds
  pub all : (r : ℕ) → r < g → (d : ℕ) × In d ds × (d ≤ r) × (step d ≡ step r)

-- d behind l, unless its step is the step before
abbrev pub keep : Bool → List ℕ → ℕ → List ℕ
keep true l d = l
keep false l d = l ++ (d ∷ [])

-- the digits below n, equal steps once with the first digit that has them: the steps do not fall, so equal ones stand side by side
abbrev pub first_digits : (ℕ → ℕ) → ℕ → List ℕ
first_digits step zero = []
first_digits step (suc zero) = 0 ∷ []
first_digits step (suc (suc n)) = keep (eqb (step n) (step (suc n))) (first_digits step (suc n)) (suc n)

-- each number of a list is below all behind it
abbrev pub Growing : List ℕ → Type 0
Growing [] = Unit {0}
Growing (d ∷ ds) = Each (λ e. d < e) ds × Growing ds

-- the keys of all points that end in the extras `done`, for whose groups `number` stands: k groups are still to be chosen, from the last
-- to the first, and a digit of the next counts `weight`
abbrev pub keys_below : ℕ → (List ℕ → Answer) → (ℕ → ℕ) → ℕ → List ℕ → ℕ → List ℕ → ℕ → ℕ → List ℕ
keys_below M at step g ds zero done number weight = ((at done).delay * M + number) ∷ []
keys_below M at step g ds (suc k) done number weight =
    flat (λ (d : ℕ). keys_below M at step g ds k (step d ∷ done) (number + d * weight) (weight * g)) ds
