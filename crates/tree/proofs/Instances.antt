-- The hypotheses of the laws can be met: P8's row, with a group inside a group, is accepted and within the limits.
-- Assumes nothing.
use Rattle.std.specs.Prelude.{◌≡◌, refl, true, false, ◌⊎◌, [], ◌∷◌, ℕ, zero, suc, ◌+◌, ◌-◌, ◌≤◌, ◌<◌, ◌^◌, get_or}
use Rattle.std.proofs.Common.{sym, ◌∙◌, true≢false, inl, inr, arith, lt-ltb, le-leb}
use Rattle.curves.specs.Slots.{bucket, Covers, Least, excess, Greatest}
use Rattle.curves.specs.Curve.{neutral, joined, ceil, greatest, catch_up, least_wait, remainder, backlog, server as serverShape}
use Rattle.ground.proofs.OrderLaws.{le_or_lt}
use Rattle.tandem.specs.Sums.{total, any}
use Rattle.tandem.specs.declared.Server.{Server}
use Rattle.tandem.specs.declared.Flow.{Flow}
use Rattle.tandem.specs.Tandem.{Tandem, server, flow, crosses, on, bursts, rates, no_server}
use Rattle.row.specs.Groups.{used, from, from_on, groups, reads}
use Rattle.row.specs.Checks.{overlaps, not_nested}
use Rattle.tandem.specs.Sound.{Lies, Limits}
use Rattle.row.specs.Accepted.{Accepted}
use Rattle.tree.specs.Plan.{plan}
use Rattle.tree.specs.Stretch.{group_wait, after_group, curve}
use Rattle.tree.specs.Tree.{stretch_from, top, tree}
use Rattle.tree.specs.Bound.{bound, backlog_bound, extra_of, answer_at}
use Rattle.tree.specs.Fine.{AllFine}
use Rattle.tree.specs.Amounts.{sum_of}
use Rattle.tree.specs.Meaning.{meaning}
use Rattle.tandem.proofs.SumLaws.{none_of}
use Rattle.tree.proofs.SizeLaws.{plan_fine}
use Rattle.tree.proofs.PruneLaws.{latencies_of, delay_ge_sum}
use Rattle.tree.proofs.MeaningLaws.{bound_is_least, backlog_is_greatest}

-- rows written by hand: a server, and a flow

abbrev pub srv : ℕ → ℕ → Server
srv R T = record { rate = R; latency = T }

abbrev pub flowed : ℕ → ℕ → ℕ → ℕ → Flow
flowed i l σ ρ = record { first = i; last = l; burst = σ; rate = ρ }

-- "P8 | three servers 10, 1; cross 4, 2 on (1,1), (2,3), (3,3); watched 6, 2"
abbrev pub row8 : Tandem
row8 = record { servers = srv 10 1 ∷ srv 10 1 ∷ srv 10 1 ∷ []; flows = flowed 1 3 6 2 ∷ flowed 1 1 4 2 ∷ flowed 2 3 4 2 ∷ flowed 3 3 4 2 ∷ [] }

nested8 : (f h : ℕ) → f < 4 → h < 4 → (flow row8 f).first < (flow row8 h).first → (flow row8 h).first ≤ (flow row8 f).last → (flow row8 h).last ≤ (flow row8 f).last
unfolding not_nested overlaps any
nested8 f h a b x y = go (le_or_lt (flow row8 h).last (flow row8 f).last)
  where
    apart : overlaps row8 f h ≡ false
    apart = none_of 4 (overlaps row8 f) (none_of 4 (λ f. any 4 (overlaps row8 f)) refl f a) h b

    go : ((flow row8 h).last ≤ (flow row8 f).last) ⊎ ((flow row8 f).last < (flow row8 h).last) → (flow row8 h).last ≤ (flow row8 f).last
    go (inl k) = k
    go (inr k) =
        let d : overlaps row8 f h ≡ true =
        rw (
          lt-ltb (flow row8 f).first (flow row8 h).first x,
          le-leb (flow row8 h).first (flow row8 f).last y,
          lt-ltb (flow row8 f).last (flow row8 h).last k,
        ) in
        absurd (true≢false (sym d ∙ apart))

lies8 : (f : ℕ) → f < 4 → Lies row8 f
lies8 zero h = (omega arith, omega arith, inl (omega arith))
lies8 (suc zero) h = (omega arith, omega arith, inl (omega arith))
lies8 (suc (suc zero)) h = (omega arith, omega arith, inl (omega arith))
lies8 (suc (suc (suc zero))) h = (omega arith, omega arith, inl (omega arith))
lies8 (suc (suc (suc (suc f)))) h = absurd (omega arith)

moves8 : (f : ℕ) → f < 4 → 0 < (flow row8 f).rate
moves8 zero h = omega arith
moves8 (suc zero) h = omega arith
moves8 (suc (suc zero)) h = omega arith
moves8 (suc (suc (suc zero))) h = omega arith
moves8 (suc (suc (suc (suc f)))) h = absurd (omega arith)

room8 : (j : ℕ) → 0 < j → j ≤ 3 → rates row8 (λ f. crosses row8 f j) ≤ (server row8 j).rate
unfolding rates crosses total
room8 zero a b = absurd (omega arith)
room8 (suc zero) a b = omega arith
room8 (suc (suc zero)) a b = omega arith
room8 (suc (suc (suc zero))) a b = omega arith
room8 (suc (suc (suc (suc j)))) a b = absurd (omega arith)

pub accepted8 : Accepted row8
accepted8 = record {
  sound = record { long = omega arith; some = omega arith; enters = refl; leaves = refl; paths = lies8; moves = moves8; room = room8 };
  nested = nested8;
}

-- of each server, and of what stands for a server that is not there
rate8 : (m : ℕ) → (get_or row8.servers m no_server).rate ≤ 1000000
rate8 zero = omega arith
rate8 (suc zero) = omega arith
rate8 (suc (suc zero)) = omega arith
rate8 (suc (suc (suc m))) = omega arith

latency8 : (m : ℕ) → (get_or row8.servers m no_server).latency ≤ 10216
latency8 zero = omega arith
latency8 (suc zero) = omega arith
latency8 (suc (suc zero)) = omega arith
latency8 (suc (suc (suc m))) = omega arith

pub limits8 : Limits row8
unfolding total
limits8 = record {
  few_servers = omega arith;
  few_flows = omega arith;
  small_rates = λ j. rate8 (j - 1);
  small_latencies = λ j. latency8 (j - 1);
  small_bursts = omega arith;
}

-- at the point 1, 0, 2 of its three groups: the nodes are in range, the delay is at least 6, and it is the least that the tree's meaning allows
pub plan_met : AllFine (plan row8.servers (reads row8) (0 ∷ 1 ∷ 0 ∷ 2 ∷ [])) (reads row8)
plan_met = plan_fine row8 accepted8 limits8 (1 ∷ 0 ∷ 2 ∷ []) low
  where
    low : (k : ℕ) → get_or (1 ∷ 0 ∷ 2 ∷ []) k 0 < 2 ^ 30
    low zero = omega arith
    low (suc zero) = omega arith
    low (suc (suc zero)) = omega arith
    low (suc (suc (suc k))) = omega arith

pub delay_met : sum_of (latencies_of row8.servers) + sum_of (1 ∷ 0 ∷ 2 ∷ []) ≤ (answer_at row8 (1 ∷ 0 ∷ 2 ∷ [])).delay
unfolding groups from_on from used any on
delay_met = delay_ge_sum row8 accepted8 (1 ∷ 0 ∷ 2 ∷ []) refl

pub bound_met : Least (Covers (meaning row8 (extra_of (1 ∷ 0 ∷ 2 ∷ [])) (tree row8)) 6 2) (bound row8 (extra_of (1 ∷ 0 ∷ 2 ∷ [])) (tree row8))
bound_met = bound_is_least row8 accepted8 (extra_of (1 ∷ 0 ∷ 2 ∷ []))

-- at the point 0, 0, 0, on which its bound stands: the root's offset is 6, so 6 + 2 · 6 bytes are inside at most
backlog8 : backlog_bound row8 (extra_of (0 ∷ 0 ∷ 0 ∷ [])) (tree row8) ≡ 18
unfolding backlog_bound backlog bucket tree stretch_from top curve joined neutral serverShape after_group group_wait least_wait catch_up remainder greatest ceil
    bursts rates total groups from_on from used any on
backlog8 = refl

pub backlog_met : Greatest (excess (meaning row8 (extra_of (0 ∷ 0 ∷ 0 ∷ [])) (tree row8)) 6 2) 18
backlog_met = rw backlog8 at (backlog_is_greatest row8 accepted8 (extra_of (0 ∷ 0 ∷ 0 ∷ [])))
