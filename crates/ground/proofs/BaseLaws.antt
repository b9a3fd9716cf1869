-- Laws of the digits of a number, over their base.
-- Assumes nothing.
use Rattle.std.specs.Prelude.{ℕ, zero, suc, ◌/◌, ◌^◌, ◌≤◌, ◌<◌, ◌≡◌}
use Rattle.std.proofs.Common.{⊎_elim, pow-suc, one-mul, div-lt_iff_lt-mul, le-div_iff_mul-le, arith, lt-ltb, le-ltb}
use Rattle.std.proofs.Math.Nat.{pow-zero, one-le-pow}
use Rattle.ground.proofs.OrderLaws.{lt_or_ge}
use Rattle.ground.specs.Base.{width}

pub below_power : (b n x : ℕ) → 0 < b → x < b ^ suc n → x / b < b ^ n
below_power b n x p h = (div-lt_iff_lt-mul {k = b} p).1 (rw pow-suc at h)

pub width_last : (b n x : ℕ) → x < b → width b (suc n) x ≡ 1
width_last b n x h = rw (lt-ltb x b h)

pub width_more : (b n x : ℕ) → b ≤ x → width b (suc n) x ≡ suc (width b n (x / b))
width_more b n x h = rw (le-ltb x b h)

pub width_some : (b n x : ℕ) → 0 < width b (suc n) x
width_some b n x = ⊎_elim (λ h. rw (width_last b n x h) (omega arith)) (λ h. rw (width_more b n x h) (omega arith)) (lt_or_ge x b)

pub width_few : (b n x : ℕ) → width b n x ≤ n
width_few b zero x = omega arith
width_few b (suc n) x =
    ⊎_elim (λ h. rw (width_last b n x h) (omega arith)) (λ h. rw (width_more b n x h) (omega (arith, width_few b n (x / b)))) (lt_or_ge x b)

-- A number below b^(k + 1) has at most k + 1 digits, and one that is not below b^k has more than k.
pub width_most : (b k n x : ℕ) → 0 < b → x < b ^ suc k → width b n x ≤ suc k
width_most b k zero x p h = omega arith
width_most b zero (suc n) x p h = let l : x < b = rw (pow-suc, pow-zero, one-mul) at h in rw (width_last b n x l) (omega arith)
width_most b (suc k) (suc n) x p h =
    ⊎_elim (λ l. rw (width_last b n x l) (omega arith))
    (λ g. rw (width_more b n x g) (omega (arith, width_most b k n (x / b) p (below_power b (suc k) x p h)))) (lt_or_ge x b)

pub width_least : (b k n x : ℕ) → 0 < b → k ≤ n → b ^ k ≤ x → k < width b (suc n) x
width_least b zero n x p h g = width_some b n x
width_least b (suc k) zero x p h g = absurd (omega arith)
width_least b (suc k) (suc n) x p h g =
    let d : b ^ k ≤ x / b = (le-div_iff_mul-le {k = b} p).1 (rw pow-suc at g) in
    let i = width_least b k n (x / b) p (omega arith) d in
    ⊎_elim (λ l. absurd (omega (arith, one-le-pow k b p, d, small l)))
    (λ m. rw (width_more b (suc n) x m) (omega (arith, i))) (lt_or_ge x b)
  where
    small : x < b → x / b < 1
    small l = (div-lt_iff_lt-mul {k = b} p).1 (omega arith)
