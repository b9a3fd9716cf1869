-- What each public function promises: one record a function, of the record it is called on, its inputs and its result. Unique.antt proves that these
-- leave one result.
-- Assumes nothing.
use Rattle.std.specs.Prelude.{◌≡◌, List, ℕ, max, drop, replicate}
use Rattle.curves.specs.declared.Stage.{Stage}
use Rattle.curves.specs.declared.Curve.{Curve}
use Rattle.curves.specs.Curve.{neutral, joined, after, remainder, catch_up, least_wait, delay, backlog}
use Rattle.curves.specs.Held.{shape_of, spare, held, Holds, blank}
use Rattle.curves.specs.Part.{Acts, changed, lag_in, left_in}

-- `change`, by a function f that gives `gives` of a value
pub record Change {T : Type 0} (gives : T → T → Type 0) (from to : ℕ) (before after : List T) : Type 0 where
  -- f acts as some function
  pub acts : (h : T → T) × Acts gives h
  -- and that of the entries from place `from` up to before place `to`; the others stay
  pub is : (h : T → T) → Acts gives h → after ≡ changed h from to before

-- `catch_up`
pub record CatchUp (s : Stage) (σ most r : ℕ) : Type 0 where
  -- the greater of `most` and "ceil(max(0, σ − b) / r)"
  pub is : r ≡ max most (catch_up σ s)

-- `after`
pub record After (s : Stage) (σ ρ x : ℕ) (r : Stage) : Type 0 where
  -- "(b + r·(θ − D) − σ, r − ρ)", with x = θ − D
  pub is : r ≡ after σ ρ x s

-- `none`
pub record None (r : Curve) : Type 0 where
  -- the curve of no server
  pub is : r ≡ held neutral (replicate 16 blank)
  -- the curve that the record holds
  pub holds : Holds r neutral

-- `join`
pub record Join (c d r : Curve) : Type 0 where
  -- "the sum of the offsets and the stages of both"
  pub is : r ≡ held (joined (shape_of c) (shape_of d)) (drop d.count (spare c))
  -- the curve that the record holds
  pub holds : Holds r (joined (shape_of c) (shape_of d))

-- `lag`
pub record Lag (c : Curve) (from to σ r : ℕ) : Type 0 where
  -- the slots until the stages from `from` up to before `to` have σ bytes
  pub is : r ≡ lag_in (shape_of c) from to σ

-- `left`
pub record Left (c : Curve) (from to σ ρ x : ℕ) (r : Curve) : Type 0 where
  -- a group is taken out of these stages, x slots after the offset
  pub is : r ≡ held (left_in (shape_of c) from to σ ρ x) (spare c)
  -- the curve that the record holds
  pub holds : Holds r (left_in (shape_of c) from to σ ρ x)

-- `least_wait`
pub record LeastWait (c : Curve) (σ r : ℕ) : Type 0 where
  -- "The least wait is h = D + the greatest over the stages of ceil(max(0, σ − b) / r)."
  pub is : r ≡ least_wait (shape_of c) σ

-- `remainder`
pub record Remainder (c : Curve) (σ ρ θ : ℕ) (r : Curve) : Type 0 where
  -- "the remainder is again a curve: offset θ, each stage (b + r·(θ − D) − σ, r − ρ)"
  pub is : r ≡ held (remainder (shape_of c) σ ρ θ) (spare c)
  -- the curve that the record holds
  pub holds : Holds r (remainder (shape_of c) σ ρ θ)

-- `delay`
pub record Delay (c : Curve) (σ ρ r : ℕ) : Type 0 where
  -- "Here that is D + the greatest of ceil(max(0, σ + ρ − b − r) / r)."
  pub is : r ≡ delay (shape_of c) σ ρ

-- `backlog`
pub record Backlog (c : Curve) (σ ρ r : ℕ) : Type 0 where
  -- how far the bucket is above the curve at most
  pub is : r ≡ backlog (shape_of c) σ ρ
