-- Two errors that look reasonable (document 01), as definitions, and the runs that show them to be errors. MistakeLaws.antt proves it.
-- Assumes nothing.
use Rattle.std.specs.Prelude.{ℕ, zero, suc, ◌+◌, ◌-◌, ◌*◌, ◌≤◌, ◌<◌, max, ◌≡◌, Bool, cond, List, [], ◌∷◌, ltb, length}
use Rattle.curves.specs.Slots.{bucket, zero_up_to}
use Rattle.tandem.specs.Tandem.{Tandem, size}
use Rattle.tandem.specs.OfSheet.{listed}
use Rattle.runs.specs.Lines.{keep, by, Prefix}
use Rattle.runs.specs.Run.{Run, left_by, OnPath, Relayed, KeepsBuckets, Guarantees}

-- "Zeroing t ≤ θ after the running greatest value (above): a bound that a run breaks."

-- the greatest of f 0, f 1, .. f n
unfoldable pub highest : ℕ → (ℕ → ℕ) → ℕ
highest zero f = f 0
highest (suc n) f = max (highest n f) (f (suc n))

-- "Theorem 1 of 000 takes the running greatest value before it zeroes t ≤ θ. With a bucket that is 0 at 0 this claims too much just after θ."
unfoldable pub running_left : (ℕ → ℕ) → ℕ → ℕ → ℕ → ℕ → ℕ
running_left f σ ρ θ t = zero_up_to θ t (highest t (λ u. f u - bucket σ ρ (u - θ)))

-- one server 10, 0; cross 40, 6; watched 12, 1; mode 0, g 3
abbrev pub burst_sheet : List ℕ
burst_sheet = 1 ∷ 1 ∷ 10 ∷ 0 ∷ 1 ∷ 1 ∷ 1 ∷ 40 ∷ 6 ∷ 12 ∷ 1 ∷ 0 ∷ 3 ∷ []

-- bytes 0 to 58 join in slot 1: first the cross flow's 46, then the watched flow's 13
abbrev pub burst_joins : ℕ → List ℕ
burst_joins zero = []
burst_joins (suc zero) = listed 59 (λ i. i)
burst_joins (suc (suc t)) = []

-- ten leave in each slot, and the last nine in slot 6
abbrev pub burst_leaves : ℕ → List ℕ
burst_leaves zero = []
burst_leaves (suc t) = listed (cond (ltb t 5) 10 (cond (ltb t 6) 9 0)) (λ i. 10 * t + i)

abbrev pub burst_run : Run ℕ
burst_run = record { of = λ b. cond (ltb b 46) 1 0; join = λ j. burst_joins; leave = λ j. burst_leaves }

-- "Taking FIFO slot by slot. Two bytes may leave server 1 in one slot and be turned round at server 2."

-- the same bytes, in any order: of every kind there are as many in the one as in the other
abbrev pub SameBytes : {B : Type 0} → List B → List B → Type 0
SameBytes {B} l m = (p : B → Bool) → length (keep p l) ≡ length (keep p m)

-- a line keeps the order of slots: the bytes that join in one slot can be put in some order such that all leave in that order
pub record InSlotOrder (row : Tandem) {B : Type 0} (run : Run B) (H : ℕ) : Type 0 where
  pub turned : ℕ → ℕ → List B
  pub same : (j t : ℕ) → 0 < j → j ≤ size row → 0 < t → t ≤ H → SameBytes (turned j t) (run.join j t)
  pub order : (j t : ℕ) → 0 < j → j ≤ size row → t ≤ H → Prefix (left_by run j t) (by (turned j) t)

-- the premises with the order of slots in place of the order of bytes
pub record KeepsSlots (row : Tandem) {B : Type 0} (run : Run B) (H : ℕ) : Type 0 where
  pub paths : OnPath row run H
  pub order : InSlotOrder row run H
  pub relay : Relayed row run H
  pub buckets : KeepsBuckets row run H
  pub serves : Guarantees row run H

-- servers 2, 0 and 2, 0; cross 5, 1 on (1,2); watched 2, 1; mode 0, g 3
abbrev pub turn_sheet : List ℕ
turn_sheet = 1 ∷ 2 ∷ 2 ∷ 0 ∷ 2 ∷ 0 ∷ 1 ∷ 1 ∷ 2 ∷ 5 ∷ 1 ∷ 2 ∷ 1 ∷ 0 ∷ 3 ∷ []

-- in slot 1 six bytes of the cross flow enter and three of the watched one, 6 to 8; then two more of the cross flow
abbrev pub turn_enters : ℕ → List ℕ
turn_enters zero = []
turn_enters (suc zero) = 0 ∷ 1 ∷ 2 ∷ 3 ∷ 4 ∷ 5 ∷ 6 ∷ 7 ∷ 8 ∷ []
turn_enters (suc (suc zero)) = 9 ∷ []
turn_enters (suc (suc (suc zero))) = 10 ∷ []
turn_enters (suc (suc (suc (suc t)))) = []

-- two bytes leave a server in each of slots 1 to 4, and then these
abbrev pub turn_slots : List ℕ → List ℕ → ℕ → List ℕ
turn_slots fifth sixth zero = []
turn_slots fifth sixth (suc zero) = 0 ∷ 1 ∷ []
turn_slots fifth sixth (suc (suc zero)) = 2 ∷ 3 ∷ []
turn_slots fifth sixth (suc (suc (suc zero))) = 4 ∷ 5 ∷ []
turn_slots fifth sixth (suc (suc (suc (suc zero)))) = 6 ∷ 7 ∷ []
turn_slots fifth sixth (suc (suc (suc (suc (suc zero))))) = fifth
turn_slots fifth sixth (suc (suc (suc (suc (suc (suc zero)))))) = sixth
turn_slots fifth sixth (suc (suc (suc (suc (suc (suc (suc t))))))) = []

-- what server 1 sends to server 2: 8, 9 and 10 in slot 5
abbrev pub between : ℕ → List ℕ
between = turn_slots (8 ∷ 9 ∷ 10 ∷ []) []

-- the run in which server 2 sends these in slots 5 and 6
abbrev pub two_servers : List ℕ → List ℕ → Run ℕ
two_servers fifth sixth = record {
  of = λ b. cond (ltb b 6) 1 (cond (ltb b 9) 0 1);
  join = λ j. cond (ltb j 2) turn_enters between;
  leave = λ j. cond (ltb j 2) between (turn_slots fifth sixth);
}

-- in the order of bytes
abbrev pub straight_run : Run ℕ
straight_run = two_servers (8 ∷ 9 ∷ []) (10 ∷ [])

-- turned round
abbrev pub turn_run : Run ℕ
turn_run = two_servers (9 ∷ 10 ∷ []) (8 ∷ [])

-- the order in which server 2 takes the bytes of slot 5
abbrev pub turn_taken : ℕ → ℕ → List ℕ
turn_taken j = cond (ltb j 2) turn_enters (turn_slots (9 ∷ 10 ∷ 8 ∷ []) [])
