-- `numbers::width` meets its contract: the tests are the powers of 128, and a number from 128^k to below 128^(k + 1) has k + 1 groups.
-- Assumes nothing.
use Prim.Native.Nat.{ℕ, suc, ◌≤◌, ◌<◌, ◌^◌}
use mathlib.Core.Path.{◌≡◌}
use native.Mathlib.Omega.{arith}
use lib.ListN.{length}
use Rattle.numbers.specs.Seven.{encode}
use Rattle.numbers.proofs.SevenLaws.{encode_most, encode_least, encode_some}
use Rattle.numbers.proofs.width.Goals as goal

between : (k x : ℕ) → k ≤ 4 → 128 ^ k ≤ x → x < 128 ^ suc k → suc k ≡ length (encode x)
between k x h low high = omega (arith, encode_most k x high, encode_least k x h low)

pub returns-then-x-lt128 : goal.returns-then-x-lt128
returns-then-x-lt128 c = record { is = omega (arith, encode_most 0 _ c.if-x-lt128.true, encode_some c.args.x) }

pub returns-then-x-lt16384 : goal.returns-then-x-lt16384
returns-then-x-lt16384 c = record { is = between 1 _ (omega arith) (omega arith) (omega arith) }

pub returns-then-x-lt2097152 : goal.returns-then-x-lt2097152
returns-then-x-lt2097152 c = record { is = between 2 _ (omega arith) (omega arith) (omega arith) }

pub returns-then-x-lt268435456 : goal.returns-then-x-lt268435456
returns-then-x-lt268435456 c = record { is = between 3 _ (omega arith) (omega arith) (omega arith) }

pub returns-else-x-lt268435456 : goal.returns-else-x-lt268435456
returns-else-x-lt268435456 c = record { is = between 4 _ (omega arith) (omega arith) (omega arith) }
