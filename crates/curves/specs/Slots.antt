-- What a flow may send and a server guarantees, as functions of slots (document 01, "Curves"; document 02, Wish 1).
-- Assumes nothing.
use Rattle.std.specs.Prelude.{◌≡◌, cond, ℕ, zero, suc, ◌+◌, ◌*◌, ◌-◌, ◌≤◌, min, leb}

-- "A token bucket (σ, ρ) allows 0 bytes over 0 slots and σ + ρ·t over t ≥ 1 slots."
unfoldable pub bucket : ℕ → ℕ → ℕ → ℕ
bucket σ ρ zero = 0
bucket σ ρ (suc t) = σ + ρ * suc t

-- "A server (R, T) guarantees β(t) = R·max(0, t − T)."
unfoldable pub serve : ℕ → ℕ → ℕ → ℕ
serve R T t = R * (t - T)

-- the least of f 0, f 1, .. f n
unfoldable pub lowest : ℕ → (ℕ → ℕ) → ℕ
lowest zero f = f 0
lowest (suc n) f = min (lowest n f) (f (suc n))

-- "the min-plus convolution: the least over 0 ≤ s ≤ t of f(t − s) + g(s)"
unfoldable pub conv : (ℕ → ℕ) → (ℕ → ℕ) → ℕ → ℕ
conv f g t = lowest t (λ s. f (t - s) + g s)

-- 0 for t ≤ D, otherwise v
unfoldable pub zero_up_to : ℕ → ℕ → ℕ → ℕ
zero_up_to D t v = cond (leb t D) 0 v

-- "What is left after a cross group (σ, ρ) with wait θ is 0 for t ≤ θ, else max(0, curve(t) − σ − ρ·(t − θ))."
unfoldable pub left : (ℕ → ℕ) → ℕ → ℕ → ℕ → ℕ → ℕ
left f σ ρ θ t = zero_up_to θ t (f t - (σ + ρ * (t - θ)))

-- "for every s ≥ 0 the bucket at s is at most the curve at s + d"
abbrev pub Covers : (ℕ → ℕ) → ℕ → ℕ → ℕ → Type 0
Covers f σ ρ d = (s : ℕ) → bucket σ ρ s ≤ f (s + d)

-- "the least d such that": it is such a number, and no smaller one is
pub record Least (P : ℕ → Type 0) (d : ℕ) : Type 0 where
  pub holds : P d
  pub least : (e : ℕ) → P e → d ≤ e

-- "the bucket at u less the root curve at u, never below 0" (document 02, Wish 1): the minus of these numbers does not go below 0
abbrev pub excess : (ℕ → ℕ) → ℕ → ℕ → ℕ → ℕ
excess f σ ρ u = bucket σ ρ u - f u

-- "the greatest, over u ≥ 0": at no slot is there more, and at some slot there is that much
pub record Greatest (f : ℕ → ℕ) (x : ℕ) : Type 0 where
  pub most : (u : ℕ) → f u ≤ x
  pub slot : ℕ
  pub reached : f slot ≡ x
