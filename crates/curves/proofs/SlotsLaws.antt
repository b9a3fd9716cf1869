-- Laws of the least of finitely many numbers, of a function that is 0 up to a slot, of the least number with a property, of the greatest value of a
-- function, and of a bucket.
-- Assumes nothing.
use Rattle.std.specs.Prelude.{◌≡◌, refl, ◌⊎◌, ℕ, zero, suc, ◌+◌, ◌*◌, ◌≤◌, ◌<◌, min}
use Rattle.std.proofs.Common.{inl, inr, mul-le-mul_left, mul-add, arith, le-leb}
use Rattle.std.proofs.lemmas.Bool.{lt-leb}
use Rattle.ground.proofs.OrderLaws.{le_or_lt}
use Rattle.curves.specs.Slots.{lowest, bucket, zero_up_to, Least, Greatest}

pub lowest_le : (n s : ℕ) (f : ℕ → ℕ) → s ≤ n → lowest n f ≤ f s
unfolding lowest
lowest_le zero s f k = let e : s ≡ 0 = omega arith in rw e (omega arith)
lowest_le (suc n) s f k = go (le_or_lt s n) (lowest_le n s f)
  where
    go : (s ≤ n) ⊎ (n < s) → (s ≤ n → lowest n f ≤ f s) → min (lowest n f) (f (suc n)) ≤ f s
    go (inl l) r = let x = r l in omega arith
    go (inr l) r = let e : s ≡ suc n = omega arith in rw e (omega arith)

pub le_lowest : (n v : ℕ) (f : ℕ → ℕ) → ((s : ℕ) → s ≤ n → v ≤ f s) → v ≤ lowest n f
unfolding lowest
le_lowest zero v f k = k 0 (omega arith)
le_lowest (suc n) v f k = omega (arith, le_lowest n v f (λ s l. k s (omega arith)), k (suc n) (omega arith))

pub zero_before : (D t v : ℕ) → t ≤ D → zero_up_to D t v ≡ 0
unfolding zero_up_to
zero_before D t v h = rw (le-leb t D h)

pub zero_after : (D t v : ℕ) → D < t → zero_up_to D t v ≡ v
unfolding zero_up_to
zero_after D t v h = rw (lt-leb t D h)

-- "the least d such that": there is no other
pub least_unique : (P : ℕ → Type 0) (d e : ℕ) → Least P d → Least P e → d ≡ e
least_unique P d e h k = omega (arith, h.least e k.holds, k.least d h.holds)

-- "the greatest": there is no other
pub greatest_unique : (f : ℕ → ℕ) (x y : ℕ) → Greatest f x → Greatest f y → x ≡ y
greatest_unique f x y h k = omega (arith, h.most k.slot, k.reached, k.most h.slot, h.reached)

-- a bucket over one slot or more
pub bucket_after : (σ ρ t : ℕ) → 0 < t → bucket σ ρ t ≡ σ + ρ * t
unfolding bucket
bucket_after σ ρ zero h = absurd (omega arith)
bucket_after σ ρ (suc t) h = refl

-- and over more slots: no less, and a rate more for each slot behind the first
pub bucket_mono : (σ ρ s t : ℕ) → s ≤ t → bucket σ ρ s ≤ bucket σ ρ t
unfolding bucket
bucket_mono σ ρ zero t h = omega arith
bucket_mono σ ρ (suc s) zero h = absurd (omega arith)
bucket_mono σ ρ (suc s) (suc t) h = omega (arith, mul-le-mul_left ρ h)

pub bucket_later : (σ ρ t y : ℕ) → bucket σ ρ (suc (t + y)) ≡ bucket σ ρ (suc t) + ρ * y
unfolding bucket
bucket_later σ ρ t y = omega (arith, mul-add ρ t y)
