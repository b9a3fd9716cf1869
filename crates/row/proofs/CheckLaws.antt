-- Refusals 6 and 8 are what their sentences say; and a sound row that passes 6 is accepted.
-- Assumes nothing.
use Rattle.std.specs.Prelude.{◌≡◌, true, false, ◌&&◌, ◌⊎◌, ℕ, ◌^◌, ◌≤◌, ◌<◌, leb, ltb, eqb, length}
use Rattle.std.proofs.Common.{sym, ◌∙◌, true≢false, inl, inr, lt-ltb, ltb-true, le-leb, leb-true, eq-eqb, eqb-true}
use Rattle.tandem.specs.Sums.{any}
use Rattle.tandem.specs.Tandem.{Tandem, flow}
use Rattle.row.specs.Groups.{groups}
use Rattle.tandem.specs.Sound.{Sound}
use Rattle.row.specs.Accepted.{Accepted}
use Rattle.row.specs.Sentences.{Crossed}
use Rattle.row.specs.Checks.{overlaps, not_nested, too_many}
use Rattle.ground.proofs.OrderLaws.{le_or_lt}
use Rattle.tandem.proofs.TestLaws.{both_true, true_both}
use Rattle.tandem.proofs.SumLaws.{any_at, any_found}

-- 6
pub not_nested_crossed : (row : Tandem) → not_nested row ≡ true → Crossed row
unfolding not_nested overlaps
not_nested_crossed row e =
    let n = length row.flows in
    let x = any_found n (λ f. any n (overlaps row f)) e in
    let y = any_found n (overlaps row x.0) x.2 in
    let a = flow row x.0 in
    let b = flow row y.0 in
    let p = both_true (ltb a.first b.first) (leb b.first a.last && ltb a.last b.last) y.2 in
    let q = both_true (leb b.first a.last) (ltb a.last b.last) p.1 in
    record {
      f = x.0;
      h = y.0;
      f_flows = x.1;
      h_flows = y.1;
      begins_behind = ltb-true a.first b.first p.0;
      begins_inside = leb-true b.first a.last q.0;
      ends_behind = ltb-true a.last b.last q.1;
    }

pub crossed_not_nested : (row : Tandem) → Crossed row → not_nested row ≡ true
unfolding not_nested overlaps
crossed_not_nested row c =
    any_at (length row.flows) c.f (λ f. any (length row.flows) (overlaps row f)) c.f_flows
    (any_at (length row.flows) c.h (overlaps row c.f) c.h_flows
    (rw (lt-ltb _ _ c.begins_behind, le-leb _ _ c.begins_inside, lt-ltb _ _ c.ends_behind)))

-- 8
pub too_many_points : (row : Tandem) (mode g : ℕ) → too_many row mode g ≡ true → (mode ≡ 0) × (65536 < g ^ length (groups row))
unfolding too_many
too_many_points row mode g h =
    let p = both_true (eqb mode 0) (ltb 65536 (g ^ length (groups row))) h in
    (eqb-true mode 0 p.0, ltb-true 65536 (g ^ length (groups row)) p.1)

pub points_too_many : (row : Tandem) (mode g : ℕ) → mode ≡ 0 → 65536 < g ^ length (groups row) → too_many row mode g ≡ true
unfolding too_many
points_too_many row mode g h k = true_both (eqb mode 0) (ltb 65536 (g ^ length (groups row))) (eq-eqb mode 0 h) (lt-ltb 65536 (g ^ length (groups row)) k)

pub few_points : (row : Tandem) (mode g : ℕ) → too_many row mode g ≡ false → mode ≡ 0 → g ^ length (groups row) ≤ 65536
few_points row mode g e m = go (le_or_lt (g ^ length (groups row)) 65536)
  where
    go : (g ^ length (groups row) ≤ 65536) ⊎ (65536 < g ^ length (groups row)) → g ^ length (groups row) ≤ 65536
    go (inl k) = k
    go (inr k) = absurd (true≢false (sym (points_too_many row mode g m k) ∙ e))

-- a sound row that passes 6 is accepted
pub accepted_row : (row : Tandem) → Sound row → not_nested row ≡ false → Accepted row
accepted_row row s n = record { sound = s; nested = λ f h a b x y. go f h a b x y (le_or_lt (flow row h).last (flow row f).last) }
  where
    go : (f h : ℕ) → f < length row.flows → h < length row.flows → (flow row f).first < (flow row h).first → (flow row h).first ≤ (flow row f).last
        → ((flow row h).last ≤ (flow row f).last) ⊎ ((flow row f).last < (flow row h).last) → (flow row h).last ≤ (flow row f).last
    go f h a b x y (inl k) = k
    go f h a b x y (inr k) =
        absurd (true≢false (sym
        (crossed_not_nested row (record { f = f; h = h; f_flows = a; h_flows = b; begins_behind = x; begins_inside = y; ends_behind = k })) ∙ n))
