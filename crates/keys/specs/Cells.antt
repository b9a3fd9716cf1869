-- The servers in a line, counted from 0: the stage that each still gives, and its share of the offset. A stretch of the line is a curve:
-- the shares added up, and the stages in order. What a group that is taken out does to it.
-- Assumes nothing.
use Rattle.std.specs.Prelude.{◌≡◌, ◌⊎◌, List, [], ◌∷◌, ℕ, zero, suc, ◌+◌, ◌≤◌, ◌<◌, length, get_or}
use Rattle.curves.specs.declared.Stage.{Stage}
use Rattle.curves.specs.Curve.{Shape, after}

-- the stage of server j
abbrev pub cell_at : List ℕ → List ℕ → ℕ → Stage
cell_at bursts rates j = record { burst = get_or bursts j 0; rate = get_or rates j 0 }

-- the stages of n servers from j on
abbrev pub stages_from : List ℕ → List ℕ → ℕ → ℕ → List Stage
stages_from bursts rates j zero = []
stages_from bursts rates j (suc n) = cell_at bursts rates j ∷ stages_from bursts rates (suc j) n

-- the shares of n servers from j on, added up
abbrev pub sum_from : List ℕ → ℕ → ℕ → ℕ
sum_from shares j zero = 0
sum_from shares j (suc n) = get_or shares j 0 + sum_from shares (suc j) n

-- the curve of n servers from j on
abbrev pub curve_from : List ℕ → List ℕ → List ℕ → ℕ → ℕ → Shape
curve_from bursts rates shares j n = record { offset = sum_from shares j n; stages = stages_from bursts rates j n }

-- a group (σ, ρ) is taken out of the servers from `a` up to before `b`, x slots after their offset
pub record Left (bursts rates bursts' rates' : List ℕ) (a b σ ρ x : ℕ) : Type 0 where
  pub bursts_long : length bursts' ≡ length bursts
  pub rates_long : length rates' ≡ length rates
  pub inside : (j : ℕ) → a ≤ j → j < b → cell_at bursts' rates' j ≡ after σ ρ x (cell_at bursts rates j)
  pub outside : (j : ℕ) → (j < a) ⊎ (b ≤ j) → cell_at bursts' rates' j ≡ cell_at bursts rates j

-- the servers from `a` up to before `b` have one offset, w, which the first of them holds
pub record Pooled (shares shares' : List ℕ) (a b w : ℕ) : Type 0 where
  pub long : length shares' ≡ length shares
  pub first : get_or shares' a 0 ≡ w
  pub rest : (j : ℕ) → a < j → j < b → get_or shares' j 0 ≡ 0
  pub outside : (j : ℕ) → (j < a) ⊎ (b ≤ j) → get_or shares' j 0 ≡ get_or shares j 0
