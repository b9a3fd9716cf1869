-- A curve by itself, with any number of stages, and what is made of curves (document 01, "Curves").
-- Two curves may agree at every slot and differ in their least waits, so no stage is ever dropped, merged or changed on the way.
-- Assumes nothing.
use Rattle.std.specs.Prelude.{◌≡◌, List, [], ◌∷◌, ◌++◌, map, ◌⊎◌, ℕ, ◌+◌, ◌-◌, ◌*◌, ◌/◌, ◌≤◌, ◌<◌, min, max}
use Rattle.ground.specs.Each.{Each}
use Rattle.curves.specs.declared.Stage.{Stage}
use Rattle.curves.specs.Slots.{bucket, zero_up_to}

-- "A curve (003, pseudoaffine) is an offset D and stages (b, r)"
pub record Shape : Type 0 where
  pub offset : ℕ
  pub stages : List Stage

-- a stage x slots after the offset: "b + r·(t − D)" with x = t − D
abbrev pub line : ℕ → Stage → ℕ
line x s = s.burst + s.rate * x

-- "the least of b + r·(t − D)"; 0 where there is no stage
unfoldable pub least_line : ℕ → List Stage → ℕ
least_line x [] = 0
least_line x (s ∷ []) = line x s
least_line x (s ∷ g ∷ l) = min (line x s) (least_line x (g ∷ l))

-- "0 for t ≤ D, otherwise the least of b + r·(t − D)"
unfoldable pub value_at : Shape → ℕ → ℕ
value_at c t = zero_up_to c.offset t (least_line (t - c.offset) c.stages)

-- "A server is offset T with one stage (0, R)."
unfoldable pub server : ℕ → ℕ → Shape
server R T = record { offset = T; stages = record { burst = 0; rate = R } ∷ [] }

-- the curve of no server at all: joined to a curve it gives that curve
unfoldable pub neutral : Shape
neutral = record { offset = 0; stages = [] }

-- "the sum of the offsets and the stages of both"
unfoldable pub joined : Shape → Shape → Shape
joined c d = record { offset = c.offset + d.offset; stages = c.stages ++ d.stages }

-- a / r, rounded up
unfoldable pub ceil : ℕ → ℕ → ℕ
ceil a r = (a + (r - 1)) / r

-- the greatest of f over the stages, 0 of none
unfoldable pub greatest : (Stage → ℕ) → List Stage → ℕ
greatest f [] = 0
greatest f (s ∷ l) = max (f s) (greatest f l)

-- the slots after the offset until a stage has σ bytes: "ceil(max(0, σ − b) / r)"
unfoldable pub catch_up : ℕ → Stage → ℕ
catch_up σ s = ceil (σ - s.burst) s.rate

-- "The least wait is h = D + the greatest over the stages of ceil(max(0, σ − b) / r)."
unfoldable pub least_wait : Shape → ℕ → ℕ
least_wait c σ = c.offset + greatest (catch_up σ) c.stages

-- "each stage (b + r·(θ − D) − σ, r − ρ)", with x = θ − D
abbrev pub after : ℕ → ℕ → ℕ → Stage → Stage
after σ ρ x s = record { burst = line x s - σ; rate = s.rate - ρ }

-- "the remainder is again a curve: offset θ, each stage (b + r·(θ − D) − σ, r − ρ)"
unfoldable pub remainder : Shape → ℕ → ℕ → ℕ → Shape
remainder c σ ρ θ = record { offset = θ; stages = map (after σ ρ (θ - c.offset)) c.stages }

-- the slots by which a stage lets a bucket's bytes fall behind: "ceil(max(0, σ + ρ − b − r) / r)"
unfoldable pub lateness : ℕ → ℕ → Stage → ℕ
lateness σ ρ s = ceil (σ + ρ - s.burst - s.rate) s.rate

-- "Here that is D + the greatest of ceil(max(0, σ + ρ − b − r) / r)."
unfoldable pub delay : Shape → ℕ → ℕ → ℕ
delay c σ ρ = c.offset + greatest (lateness σ ρ) c.stages

-- how far a bucket is above the curve at most: at the offset, or one slot behind it, where the curve is the least of b + r
unfoldable pub backlog : Shape → ℕ → ℕ → ℕ
backlog c σ ρ = max (bucket σ ρ c.offset) (greatest (λ s. bucket σ ρ (c.offset + 1) - line 1 s) c.stages)

-- every stage's rate is at least ρ
abbrev pub Rates : ℕ → List Stage → Type 0
Rates ρ l = Each (λ s. ρ ≤ s.rate) l

-- v is at most each stage, x slots after the offset
abbrev pub Below : ℕ → ℕ → List Stage → Type 0
Below v x l = Each (λ s. v ≤ line x s) l

-- v is at most the curve's value at t, where a curve without stages has no limit after its offset
abbrev pub Under : Shape → ℕ → ℕ → Type 0
Under c t v = (v ≡ 0) ⊎ ((c.offset < t) × Below v (t - c.offset) c.stages)
