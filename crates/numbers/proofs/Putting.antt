-- Where the writer of one number stands between two groups, and what a turn of its loop makes of it.
-- Assumes nothing.
use Prim.Native.Nat.{ℕ, zero, suc, ◌+◌, ◌/◌, ◌%◌, ◌^◌, ◌≤◌, ◌<◌}
use mathlib.Core.Path.{◌≡◌, refl, sym, ap, ◌∙◌}
use mathlib.Core.List.{List}
use native.Mathlib.Numerals.{add-one}
use native.Mathlib.Omega.{arith}
use lib.ListN.{length, set, length-set}
use lib.Seq.{sets}
use Rattle.ground.proofs.BaseLaws.{below_power}
use Rattle.numbers.specs.Seven.{groups, encode}
use Rattle.numbers.proofs.SevenLaws.{groups_last, groups_more, groups_some}

-- where the writer stands: what is left to write is the groups of `rest`, at p, and `left` groups may follow the next
pub record Putting (first : List ℕ) (at x : ℕ) (buf : List ℕ) (p rest : ℕ) : Type 0 where
  pub left : ℕ
  pub room : p + left ≡ at + 4
  pub fits : rest < 128 ^ suc left
  pub place : at + length (encode x) ≡ p + length (groups (suc left) rest)
  pub same : sets first at (encode x) ≡ sets buf p (groups (suc left) rest)
  pub long : length buf ≡ length first

pub begin : (first : List ℕ) (at x : ℕ) → x < 4294967296 → Putting first at x first at x
unfolding encode
begin first at x h = record { left = 4; room = refl; fits = omega arith; place = refl; same = refl; long = refl }

next_at : (first buf : List ℕ) (at x p rest n : ℕ) → p + n ≡ at + 4 → rest < 128 ^ suc n → at + length (encode x) ≡ p + length (groups (suc n) rest)
    → sets first at (encode x) ≡ sets buf p (groups (suc n) rest) → length buf ≡ length first → 128 ≤ rest
    → Putting first at x (set buf p (rest % 128 + 128)) (p + 1) (rest / 128)
next_at first buf at x p rest zero r f pl sm lo h = absurd (omega arith)
next_at first buf at x p rest (suc n) r f pl sm lo h =
    let e = groups_more (suc n) rest h in
    let pl' = pl ∙ ap (λ (l : List ℕ). p + length l) e in
    record {
      left = n;
      room = omega arith;
      fits = below_power 128 (suc n) rest (omega arith) f;
      place = omega (arith, pl');
      same = sm ∙ rw (e, add-one);
      long = length-set buf p (rest % 128 + 128) ∙ lo;
    }

module _ {first buf : List ℕ} {at x p rest : ℕ} where
  pub next : Putting first at x buf p rest → 128 ≤ rest → Putting first at x (set buf p (rest % 128 + 128)) (p + 1) (rest / 128)
  next g h = next_at first buf at x p rest g.left g.room g.fits g.place g.same g.long h

  pub inside : Putting first at x buf p rest → at + length (encode x) ≤ length first → p < length buf
  inside g h = omega (arith, g.place, g.long, groups_some g.left rest)

  pub last : Putting first at x buf p rest → rest < 128 → (p + 1 ≡ at + length (encode x)) × (set buf p rest ≡ sets first at (encode x))
  last g h =
      let e = groups_last g.left rest h in
      (sym (g.place ∙ rw e), sym (g.same ∙ rw e))

  -- the fifth group is the last
  pub fifth : Putting first at x buf p rest → at + 4 ≤ p → (p ≡ at + 4) × (rest < 128)
  fifth g h =
      let z : g.left ≡ 0 = omega (arith, g.room) in
      (omega (arith, g.room), omega (arith, rw z at g.fits))
