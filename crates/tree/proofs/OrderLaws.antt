-- What an analysis reads of an accepted row, the watched flow and the groups behind it: each path lies in the row, they stand in order,
-- and no two of them cross.
-- Assumes nothing.
use Rattle.std.specs.Prelude.{◌≡◌, true, ◌⊎◌, ℕ, ◌≤◌, ◌<◌}
use Rattle.std.proofs.Math.Logic.{inl, inr}
use mathlib.Core.List.{List, [], ◌∷◌, map}
use Rattle.std.proofs.Common.{arith}
use Rattle.tandem.specs.declared.Flow.{Flow}
use Rattle.tandem.specs.Tandem.{Tandem, Path, size, flow, on}
use Rattle.tandem.proofs.TandemLaws.{on_is}
use Rattle.ground.proofs.OrderLaws.{le_or_lt}
use Rattle.tandem.proofs.TestLaws.{or_left, or_right}
use Rattle.row.specs.Groups.{groups, grouped, reads}
use Rattle.row.specs.Accepted.{Accepted}
use Rattle.ground.specs.Each.{Each}
use Rattle.ground.proofs.EachLaws.{each_mapped}
use Rattle.row.specs.Order.{later, Order}
use Rattle.row.proofs.OrderLaws.{order_groups}
use Rattle.tree.specs.Ordered.{Placed, After, Ordered}

module _ (row : Tandem) (ok : Accepted row) where
  group_placed : (gs : List Path) → Order row gs → Each (λ g. Placed (size row) (grouped row g)) gs
  unfolding Order grouped
  group_placed [] o = tt
  group_placed (g ∷ gs) o =
      let w = on_is row g o.0.0 o.0.1 in
      let v = ok.sound.paths o.0.0 w.1 in
      (record { enters = omega (arith, w.2, v.0); onward = o.0.2; leaves = omega (arith, w.3, v.1) }, group_placed gs o.2)

  -- every path lies in the row
  pub reads_placed : Each (Placed (size row)) (reads row)
  unfolding reads
  reads_placed = (
    record {
      enters = omega (arith, ok.sound.enters);
      onward = omega (arith, ok.sound.enters, ok.sound.leaves, ok.sound.long);
      leaves =
          omega (arith, ok.sound.leaves);
    },
    each_mapped (Placed (size row)) (grouped row) (groups row) (group_placed (groups row) (order_groups row ok)),
  )

  -- flow v comes behind the group g in the order
  Behind : Path → ℕ → Type 0
  Behind g v = (g.first < (flow row v).first) ⊎ ((g.first ≡ (flow row v).first) × ((flow row v).last < g.last))

  -- of two groups, by a flow on each
  group_after : (g h : Path) (w v : ℕ) → on row g w ≡ true → on row h v ≡ true → Behind g v → After (grouped row g) (grouped row h)
  unfolding grouped Behind
  group_after g h w v a b (inl x) =
      let q = on_is row h v b in
      record { onward = omega (arith, q.2); nested = go (le_or_lt h.first g.last) }
    where
      go : (h.first ≤ g.last) ⊎ (g.last < h.first) → (g.last < h.first) ⊎ (h.last ≤ g.last)
      go (inl k) =
          let p = on_is row g w a in
          let q = on_is row h v b in
          let n = ok.nested w v p.1 q.1 (omega (arith, p.2)) (omega (arith, q.2, p.3)) in
          inr (omega (arith, q.3, p.3))
      go (inr k) = inl k
  group_after g h w v a b (inr x) =
      let q = on_is row h v b in
      record { onward = omega (arith, x.0, q.2); nested = inr (omega (arith, x.1, q.3)) }

  -- a group and those that come behind it
  group_first : (g : Path) (w : ℕ) → on row g w ≡ true → (hs : List Path) → Order row hs → ((v : ℕ) → later row hs v ≡ true → Behind g v)
      → Each (λ h. After (grouped row g) (grouped row h)) hs
  unfolding Order later
  group_first g w a [] o l = tt
  group_first g w a (h ∷ hs) o l =
      let v = o.0.0 in
      let b = o.0.1 in (
        group_after g h w v a b (l v (or_left (on row h v) (later row hs v) b)),
        group_first g w a hs o.2 (λ f k. l f (or_right (on row h f) (later row hs f) k)),
      )

  groups_ordered : (gs : List Path) → Order row gs → Ordered (map (grouped row) gs)
  unfolding Order Behind
  groups_ordered [] o = tt
  groups_ordered (g ∷ gs) o =
      (each_mapped (After (grouped row g)) (grouped row) gs (group_first g o.0.0 o.0.1 gs o.2 o.1), groups_ordered gs o.2)

  -- what lies in the row lies inside the watched flow's path
  watched_first : (gs : List Flow) → Each (Placed (size row)) gs → Each (After (flow row 0)) gs
  watched_first [] e = tt
  watched_first (g ∷ gs) e =
      let p = e.0 in
      (record { onward = omega (arith, ok.sound.enters, p.enters); nested = inr (omega (arith, ok.sound.leaves, p.leaves)) }, watched_first gs e.1)

  -- they stand in order, and none cross
  pub reads_ordered : Ordered (reads row)
  unfolding reads
  reads_ordered = (watched_first (map (grouped row) (groups row)) reads_placed.1, groups_ordered (groups row) (order_groups row ok))
