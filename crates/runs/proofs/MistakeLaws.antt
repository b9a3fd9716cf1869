-- The running greatest value before zeroing claims a delay that a run breaks; and the order of slots is a weaker premise than the order of bytes,
-- under which the bound does not hold.
-- Assumes nothing.
use Rattle.std.specs.Prelude.{ℕ, zero, suc, ◌+◌, ◌-◌, ◌*◌, ◌≤◌, ◌<◌, max, ◌≡◌, refl, Bool, true, false, cond, ◌⊎◌, [], ◌∷◌, ltb, length, None}
use Rattle.std.proofs.Common.{inl, inr, arith}
use Rattle.numbers.specs.Seven.{number_at}
use Rattle.fields.specs.Rule.{rule_at, seen_after, field_at}
use Rattle.fields.specs.Step.{step_on}
use Rattle.sheet.specs.Sheet.{sheet_of, these}
use Rattle.sheet.specs.Valid.{server_count, mode, grid}
use Rattle.curves.specs.Slots.{bucket, serve, left, zero_up_to, Covers, Least}
use Rattle.ground.proofs.OrderLaws.{le_or_lt}
use Rattle.curves.proofs.SlotsLaws.{zero_before, zero_after}
use Rattle.curves.specs.Curve.{neutral, joined, ceil, greatest, catch_up, least_wait, remainder, lateness, delay, server as serverShape}
use Rattle.tandem.specs.Sums.{total, any}
use Rattle.tandem.specs.Tandem.{Tandem, crosses, on, bursts, rates}
use Rattle.row.specs.Groups.{put, used, from, from_on, groups}
use Rattle.tandem.specs.Crowded.{crowded, lowest_crowded}
use Rattle.row.specs.Checks.{overlaps, not_nested, too_many}
use Rattle.tandem.specs.OfSheet.{listed, tandem_of}
use Rattle.row.specs.OfSheet.{grid_of, check_of}
use Rattle.tree.specs.Stretch.{group_wait, after_group, curve}
use Rattle.tree.specs.Tree.{stretch_from, top, tree}
use Rattle.tree.specs.Grid.{steps_of, points_of, better, found_of}
use Rattle.tree.specs.Bound.{bound, waits, answer_at, searched}
use Rattle.runs.specs.Lines.{keep, by}
use Rattle.runs.specs.Run.{Run, Keeps, joined_by, left_by}
use Rattle.runs.specs.Demand.{OnTime, bound_of}
use Rattle.runs.specs.RunTests.{each, each_of, begins, same, has, on_path, in_order, relayed, keeps_buckets, guarantees, keeps_all}
use Rattle.runs.proofs.RunTestLaws.{on_path_lem, in_order_lem, relay_kept, buckets_kept, guarantees_kept, keeps_all_lem, has_is, has_not}
use Rattle.curves.proofs.SlotsLaws.{bucket_after}
use Rattle.runs.proofs.DemandLaws.{demand_three}
use Rattle.runs.specs.Mistakes.{highest, running_left, burst_sheet, burst_run, SameBytes, KeepsSlots, turn_sheet, turn_enters, turn_slots, between}
use Rattle.runs.specs.Mistakes.{straight_run, turn_run, turn_taken}

-- the running greatest value

highest_ge : (n u : ℕ) (f : ℕ → ℕ) → u ≤ n → f u ≤ highest n f
unfolding highest
highest_ge zero u f h = let e : u ≡ 0 = omega arith in rw e (omega arith)
highest_ge (suc n) u f h = go (le_or_lt u n) (highest_ge n u f)
  where
    go : (u ≤ n) ⊎ (n < u) → (u ≤ n → f u ≤ highest n f) → f u ≤ max (highest n f) (f (suc n))
    go (inl k) r = omega (arith, r k)
    go (inr k) r = let e : u ≡ suc n = omega arith in rw e (omega arith)

-- one slot after the wait it has 40 bytes, where the rule has 4
pub running_above : (running_left (serve 10 0) 40 6 4 5 ≡ 40) × (left (serve 10 0) 40 6 4 5 ≡ 4)
unfolding running_left highest left zero_up_to serve bucket
running_above = (refl, refl)

-- by it the watched flow's delay is 4: its bucket at every s is at most that value at s + 4
pub running_covers : Covers (running_left (serve 10 0) 40 6 4) 12 1 4
unfolding running_left serve bucket
running_covers zero = omega arith
running_covers (suc s) =
    let f : ℕ → ℕ = λ u. serve 10 0 u - bucket 40 6 (u - 4) in
    let a = highest_ge (suc s + 4) 4 f (omega arith) in
    let b = highest_ge (suc s + 4) (suc s + 4) f (omega arith) in
    let z = zero_after 4 (suc s + 4) (highest (suc s + 4) f) (omega arith) in
    omega (arith, a, b, z, bucket_after 40 6 (suc s + 4 - 4) (omega arith))

-- and no smaller number is: up to the wait it has nothing
pub running_delay : Least (Covers (running_left (serve 10 0) 40 6 4) 12 1) 4
unfolding running_left bucket
running_delay = record { holds = running_covers; least = λ d k. go d (le_or_lt 4 d) (k 1) }
  where
    go : (d : ℕ) → (4 ≤ d) ⊎ (d < 4) → 12 + 1 * 1 ≤ running_left (serve 10 0) 40 6 4 (1 + d) → 4 ≤ d
    go d (inl l) k = l
    go d (inr l) k = absurd (omega (arith, k, zero_before 4 (1 + d) (highest (1 + d) (λ u. serve 10 0 u - bucket 40 6 (u - 4))) (omega arith)))

pub burst_read : sheet_of burst_sheet ≡ these burst_sheet
unfolding sheet_of step_on rule_at seen_after field_at number_at
burst_read = refl

pub burst_passed : check_of burst_sheet ≡ None
unfolding check_of tandem_of listed grid_of not_nested overlaps lowest_crowded crowded too_many rates total crosses groups from_on from used any on
burst_passed = refl

-- by the rule it is 7, with the same wait: the one group's wait at the point of the grid that gives the bound is 4
pub burst_bound : (bound_of burst_sheet ≡ 7)
    × ((searched (tandem_of burst_sheet) (mode burst_sheet) (grid_of (server_count burst_sheet) (grid burst_sheet))).best.waits ≡ 4 ∷ [])
unfolding bound_of searched found_of answer_at waits bound steps_of points_of better tandem_of listed grid_of groups from_on from used any on
    tree stretch_from top curve joined neutral serverShape after_group group_wait least_wait catch_up remainder bursts rates total delay lateness greatest ceil
burst_bound = (refl, refl)

-- the run keeps every premise
pub burst_keeps : Keeps (tandem_of burst_sheet) burst_run 6
unfolding tandem_of listed keeps_all on_path in_order relayed keeps_buckets guarantees each each_of begins same any crosses by keep bucket serve
burst_keeps = keeps_all_lem (tandem_of burst_sheet) burst_run 6 refl

-- and its last byte, a watched one, entered in slot 1 and is not out by slot 5: a delay of 4 is broken
pub burst_late : OnTime (tandem_of burst_sheet) burst_run 6 4 → ⊥
unfolding has by listed
burst_late h = has_not 58 (left_by burst_run 1 5) refl (h 1 (omega arith) 58 refl (has_is 58 (joined_by burst_run 1 1) refl))

-- the order of slots

-- it is a weaker premise
pub bytes_slots : (row : Tandem) {B : Type 0} (run : Run B) (H : ℕ) → Keeps row run H → KeepsSlots row run H
bytes_slots row run H k = record {
  paths = k.paths;
  order = record { turned = run.join; same = λ j t a b c d p. refl; order = k.order };
  relay = k.relay;
  buckets = k.buckets;
  serves = k.serves;
}

pub turn_read : sheet_of turn_sheet ≡ these turn_sheet
unfolding sheet_of step_on rule_at seen_after field_at number_at
turn_read = refl

pub turn_passed : check_of turn_sheet ≡ None
unfolding check_of tandem_of listed grid_of not_nested overlaps lowest_crowded crowded too_many rates total crosses groups from_on from used any on
turn_passed = refl

pub turn_bound : bound_of turn_sheet ≡ 4
unfolding bound_of searched found_of answer_at waits bound steps_of points_of better tandem_of listed grid_of groups from_on from used any on
    tree stretch_from top curve joined neutral serverShape after_group group_wait least_wait catch_up remainder bursts rates total delay lateness greatest ceil
turn_bound = refl

-- in the order of bytes the bound is kept, and reached: byte 8, a watched one, entered in slot 1 and is not out by slot 4

pub straight_keeps : Keeps (tandem_of turn_sheet) straight_run 6
unfolding tandem_of listed keeps_all on_path in_order relayed keeps_buckets guarantees each each_of begins same any crosses by keep bucket serve
straight_keeps = keeps_all_lem (tandem_of turn_sheet) straight_run 6 refl

pub straight_reached : OnTime (tandem_of turn_sheet) straight_run 6 3 → ⊥
unfolding tandem_of listed has by
straight_reached h = has_not 8 (left_by straight_run 2 4) refl (h 1 (omega arith) 8 refl (has_is 8 (joined_by straight_run 1 1) refl))

-- in the order of slots it is not

turn_fifth : (a b c : Bool) → length {A = ℕ} (put b 9 (put c 10 (put a 8 []))) ≡ length {A = ℕ} (put a 8 (put b 9 (put c 10 [])))
turn_fifth true true true = refl
turn_fifth true true false = refl
turn_fifth true false true = refl
turn_fifth true false false = refl
turn_fifth false true true = refl
turn_fifth false true false = refl
turn_fifth false false true = refl
turn_fifth false false false = refl

turn_between : (t : ℕ) → SameBytes (turn_slots (9 ∷ 10 ∷ 8 ∷ []) [] t) (between t)
unfolding keep
turn_between zero p = refl
turn_between (suc zero) p = refl
turn_between (suc (suc zero)) p = refl
turn_between (suc (suc (suc zero))) p = refl
turn_between (suc (suc (suc (suc zero)))) p = refl
turn_between (suc (suc (suc (suc (suc zero))))) p = turn_fifth (p 8) (p 9) (p 10)
turn_between (suc (suc (suc (suc (suc (suc zero)))))) p = refl
turn_between (suc (suc (suc (suc (suc (suc (suc t))))))) p = refl

turn_same : (j t : ℕ) → SameBytes (turn_taken j t) (turn_run.join j t)
turn_same j t = go (ltb j 2)
  where
    go : (b : Bool) → SameBytes (cond b turn_enters (turn_slots (9 ∷ 10 ∷ 8 ∷ []) []) t) (cond b turn_enters between t)
    go true p = refl
    go false p = turn_between t p

-- the run keeps the order of slots, and every other premise
pub turn_keeps : KeepsSlots (tandem_of turn_sheet) turn_run 6
unfolding tandem_of listed on_path in_order relayed keeps_buckets guarantees each each_of begins same any crosses by keep bucket serve
turn_keeps = record {
  paths = on_path_lem (tandem_of turn_sheet) turn_run 6 refl;
  order = record {
    turned = turn_taken;
    same = λ j t a b c d. turn_same j t;
    order = in_order_lem (tandem_of turn_sheet) (record { of = turn_run.of; join = turn_taken; leave = turn_run.leave }) 6 refl;
  };
  relay = relay_kept (tandem_of turn_sheet) turn_run 6 refl;
  buckets = buckets_kept (tandem_of turn_sheet) turn_run 6 refl;
  serves = guarantees_kept (tandem_of turn_sheet) turn_run 6 refl;
}

-- byte 8, a watched one, entered in slot 1 and is not out by slot 5: the bound is broken
pub turn_late : OnTime (tandem_of turn_sheet) turn_run 6 (bound_of turn_sheet) → ⊥
unfolding tandem_of listed has by
turn_late h = has_not 8 (left_by turn_run 2 5) refl ((rw turn_bound at h) 1 (omega arith) 8 refl (has_is 8 (joined_by turn_run 1 1) refl))

-- so it does not keep the order of bytes: demand 3 says nothing of it
pub turn_not_kept : Keeps (tandem_of turn_sheet) turn_run 6 → ⊥
turn_not_kept k = turn_late (demand_three turn_sheet turn_sheet turn_read turn_passed turn_run 6 k)
