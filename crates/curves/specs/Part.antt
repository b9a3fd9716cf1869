-- A part of a curve's stages: how long a group waits for it, and what the group leaves of it. The search holds all servers of a row in one
-- curve, a stage for each, and a group's path is a part of it.
-- Assumes nothing.
use Rattle.std.specs.Prelude.{◌≡◌, List, [], ◌∷◌, ℕ, zero, suc, ◌+◌}
use Rattle.std.proofs.Math.Seq.{slice}
use Rattle.curves.specs.Curve.{Shape, after, greatest, catch_up}

-- what is given of a value, `gives`, is what h gives of it
abbrev pub Acts : {A : Type 0} → (A → A → Type 0) → (A → A) → Type 0
Acts {A} gives h = (x r : A) → gives x r → r ≡ h x

-- f of the entries from place a up to before place b; the others stay
abbrev pub changed : {A : Type 0} → (A → A) → ℕ → ℕ → List A → List A
changed f a b [] = []
changed f zero zero (x ∷ l) = x ∷ l
changed f zero (suc b) (x ∷ l) = f x ∷ changed f zero b l
changed f (suc a) zero (x ∷ l) = x ∷ l
changed f (suc a) (suc b) (x ∷ l) = x ∷ changed f a b l

-- the slots until the stages from place a up to before place b have σ bytes
abbrev pub lag_in : Shape → ℕ → ℕ → ℕ → ℕ
lag_in c a b σ = greatest (catch_up σ) (slice a b c.stages)

-- a group (σ, ρ) is taken out of the stages from place a up to before place b, x slots after the offset; the others stay
abbrev pub left_in : Shape → ℕ → ℕ → ℕ → ℕ → ℕ → Shape
left_in c a b σ ρ x = record { offset = c.offset + x; stages = changed (after σ ρ x) a b c.stages }
