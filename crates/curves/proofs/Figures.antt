-- Figures of document 01 that the definitions must give, those of document 02, Wish 1, and for each of the four laws on values a curve that meets its
-- hypotheses.
-- Assumes nothing.
use Rattle.std.specs.Prelude.{◌≡◌, refl, List, [], ◌∷◌, map, ℕ, zero, suc, ◌+◌}
use Rattle.std.proofs.Common.{arith}
use Rattle.curves.specs.Slots.{bucket, serve, lowest, conv, zero_up_to, left, Covers, Least, excess, Greatest}
use Rattle.curves.specs.Curve.{Shape, least_line, value_at, server, joined, ceil, greatest, catch_up, least_wait, remainder, lateness, delay, backlog}
use Rattle.curves.proofs.CurveLaws.{value_before, value_after}
use Rattle.curves.proofs.JoinLaws.{join_is_conv}
use Rattle.curves.proofs.RemainderLaws.{remainder_is_left}
use Rattle.curves.proofs.DelayLaws.{delay_is_least}
use Rattle.curves.proofs.BacklogLaws.{backlog_is_greatest}

-- a group (σ, ρ) taken out of a curve after its least wait and an extra e
abbrev after_group_lem : Shape → ℕ → ℕ → ℕ → Shape
after_group_lem c σ ρ e = remainder c σ ρ (least_wait c σ + e)

-- P8's row: group (3, 3) inside group (2, 3), and group (1, 1) before them
abbrev inner : Shape
inner = joined (server 10 1) (after_group_lem (server 10 1) 4 2 0)

abbrev row8 : Shape
row8 = joined (after_group_lem (server 10 1) 4 2 0) (after_group_lem inner 4 2 0)

-- the bounds of P1 to P3; of P4 to P7 the delay at the point that wins, and of P5 also at its other point; P8; and the waits
pub figures :
    (delay (server 10 2) 20 5 ≡ 4)
    × (delay (server 10 0) 5 5 ≡ 0)
    × (delay (server 10 0) 6 5 ≡ 1)
    × (delay (after_group_lem (server 10 1) 10 2 0) 8 3 ≡ 3)
    × (delay (after_group_lem (server 10 0) 10 6 0) 12 4 ≡ 4)
    × (delay (after_group_lem (server 10 0) 10 6 4) 12 4 ≡ 5)
    × (delay (after_group_lem (server 10 0) 10 6 2) 12 4 ≡ 3)
    × (delay (after_group_lem (server 10 0) 10 6 1) 12 4 ≡ 3)
    × (delay row8 6 2 ≡ 6)
    × (least_wait (server 10 1) 10 ∷ least_wait (server 10 0) 10 ∷ least_wait (server 10 1) 4 ∷ least_wait inner 4 ∷ [] ≡ 2 ∷ 1 ∷ 2 ∷ 4 ∷ [])
unfolding server joined remainder least_wait delay greatest catch_up lateness ceil
figures = (refl, refl, refl, refl, refl, refl, refl, refl, refl, refl)

-- "the greatest, over u ≥ 0, of the bucket at u less the root curve at u": of P1 to P3; of P4 and P7 at the point that wins, of P5 at both points; P8
pub backlogs :
    (backlog (server 10 2) 20 5 ≡ 30)
    × (backlog (server 10 0) 5 5 ≡ 0)
    × (backlog (server 10 0) 6 5 ≡ 1)
    × (backlog (after_group_lem (server 10 1) 10 2 0) 8 3 ≡ 14)
    × (backlog (after_group_lem (server 10 0) 10 6 0) 12 4 ≡ 16)
    × (backlog (after_group_lem (server 10 0) 10 6 4) 12 4 ≡ 32)
    × (backlog (after_group_lem (server 10 0) 10 6 1) 12 4 ≡ 20)
    × (backlog row8 6 2 ≡ 18)
unfolding server joined remainder least_wait greatest catch_up ceil backlog bucket
backlogs = (refl, refl, refl, refl, refl, refl, refl, refl)

abbrev slots : List ℕ
slots = 0 ∷ 1 ∷ 2 ∷ 3 ∷ 4 ∷ 5 ∷ []

-- "A token bucket (σ, ρ) allows 0 bytes over 0 slots and σ + ρ·t over t ≥ 1 slots."; "A server (R, T) guarantees β(t) = R·max(0, t − T)."; "0 for t ≤ D,
-- otherwise the least of b + r·(t − D)", with offset 2 and two stages; "0 for t ≤ θ, else max(0, curve(t) − σ − ρ·(t − θ))", where the group takes more
-- than there is at first, and where it takes less than there is at θ
pub each_slot :
    (map (bucket 5 3) slots ≡ 0 ∷ 8 ∷ 11 ∷ 14 ∷ 17 ∷ 20 ∷ [])
    × (map (serve 10 2) slots ≡ 0 ∷ 0 ∷ 0 ∷ 10 ∷ 20 ∷ 30 ∷ [])
    × (map (value_at (record { offset = 2; stages = record { burst = 7; rate = 1 } ∷ record { burst = 4; rate = 3 } ∷ [] })) slots ≡ 0 ∷ 0 ∷ 0 ∷ 7 ∷ 9 ∷ 10 ∷ [])
    × (map (left (serve 10 0) 25 2 1) slots ≡ 0 ∷ 0 ∷ 0 ∷ 1 ∷ 9 ∷ 17 ∷ [])
    × (map (left (serve 10 0) 5 2 3) slots ≡ 0 ∷ 0 ∷ 0 ∷ 0 ∷ 33 ∷ 41 ∷ [])
unfolding bucket serve value_at least_line zero_up_to left
each_slot = (refl, refl, refl, refl, refl)

-- "the bucket at u less the root curve at u, never below 0": on P1's row the most is at the latency, on P3's in the first slot, behind which the curve
-- is the more
pub each_excess : (map (excess (serve 10 2) 20 5) slots ≡ 0 ∷ 25 ∷ 30 ∷ 25 ∷ 20 ∷ 15 ∷ []) × (map (excess (serve 10 0) 6 5) slots ≡ 0 ∷ 1 ∷ 0 ∷ 0 ∷ 0 ∷ 0 ∷ [])
unfolding bucket serve
each_excess = (refl, refl)

-- P5's curve after its group, and a join, slot by slot: the closed forms and the functions of slots give the same numbers
pub slot_by_slot :
    (map (value_at (after_group_lem (server 10 0) 10 6 0)) slots ≡ 0 ∷ 0 ∷ 4 ∷ 8 ∷ 12 ∷ 16 ∷ [])
    × (map (left (serve 10 0) 10 6 1) slots ≡ 0 ∷ 0 ∷ 4 ∷ 8 ∷ 12 ∷ 16 ∷ [])
    × (map (value_at inner) slots ≡ 0 ∷ 0 ∷ 0 ∷ 0 ∷ 10 ∷ 20 ∷ [])
    × (map (conv (serve 10 1) (left (serve 10 1) 4 2 2)) slots ≡ 0 ∷ 0 ∷ 0 ∷ 0 ∷ 10 ∷ 20 ∷ [])
unfolding server joined remainder least_wait greatest catch_up ceil value_at least_line zero_up_to left serve conv lowest
slot_by_slot = (refl, refl, refl, refl)

-- two curves that agree at every slot and have different least waits: no stage may be dropped
abbrev two : Shape
two = record { offset = 0; stages = record { burst = 0; rate = 10 } ∷ record { burst = 9; rate = 1 } ∷ [] }

abbrev one : Shape
one = record { offset = 0; stages = record { burst = 9; rate = 1 } ∷ [] }

pub same_values : (t : ℕ) → value_at two t ≡ value_at one t
unfolding least_line
same_values zero = omega (arith, value_before two 0 (omega arith), value_before one 0 (omega arith))
same_values (suc t) = omega (arith, value_after two (suc t) (omega arith), value_after one (suc t) (omega arith))

pub other_waits : (least_wait two 9 ≡ 1) × (least_wait one 9 ≡ 0)
unfolding least_wait greatest catch_up ceil
other_waits = (refl, refl)

-- the hypotheses of the laws can be met

pub join_met : (t : ℕ) → value_at (joined two one) t ≡ conv (value_at two) (value_at one) t
join_met = join_is_conv two one (omega arith) (omega arith)

pub remainder_met : (t : ℕ) → value_at (remainder (server 10 0) 10 6 3) t ≡ left (value_at (server 10 0)) 10 6 3 t
unfolding server least_wait greatest catch_up ceil
remainder_met = remainder_is_left (server 10 0) 10 6 3 (omega arith) (omega arith, tt) (omega arith, tt)

pub delay_met : Least (Covers (value_at two) 12 1) (delay two 12 1)
delay_met = delay_is_least two 12 1 (omega arith) (omega arith) (omega arith, (omega arith, tt)) (omega arith, (omega arith, tt))

pub backlog_met : Greatest (excess (value_at two) 12 1) (backlog two 12 1)
backlog_met = backlog_is_greatest two 12 1 (omega arith) (omega arith, (omega arith, tt))
