-- A turn of the walk along the path of node k: what a group leaves is joined, or one server.
-- Assumes nothing.
use mathlib.Core.Path.{◌≡◌, sym, ap, ◌∙◌, subst}
use Prim.Native.Nat.{ℕ, suc, ◌+◌, ◌-◌, ◌≤◌, ◌<◌, ◌^◌}
use native.Mathlib.Omega.{arith}
use Rattle.std.specs.Prelude.{List, get_or, set, Option, Some, None}
use Rattle.std.proofs.Common.{get_or-take, length-set}
use Rattle.tandem.specs.Tandem.{no_server}
use Rattle.curves.specs.declared.Curve.{Curve}
use Rattle.curves.specs.Curve.{server, joined}
use Rattle.curves.specs.Held.{shape_of, Holds}
use Rattle.curves.specs.Contract.{Join}
use Rattle.curves.proofs.HeldLaws.{holds_joined, holds_server, holds_long}
use Rattle.tandem.specs.declared.Server.{Server}
use Rattle.row.specs.declared.Row.{Row}
use Rattle.tree.specs.Plan.{over, server_curve}
use Rattle.point.specs.Point.{servers_of}
use Rattle.point.specs.Nodes.{no_curve, flow_at, marked_top, top_in, path_curve, Marked, Marks, Walkable}
use Rattle.point.proofs.Walks.{Walking, walk_room, walk_room_over, walk_turn, walk_turn_over}

module _ (row : Row) (k : ℕ) (tops : List (Option ℕ)) (lefts : List Curve) (w : Walkable row k tops lefts) (c : Curve) (j : ℕ)
    (v : Walking (servers_of row) (top_in row tops lefts) (path_curve row k tops lefts) (flow_at row k).last c j) (h : j ≤ (flow_at row k).last)
  where
    -- a group is marked at server j
    module _ (t : ℕ) (is : get_or tops j None ≡ Some t) where
      abbrev left : Curve
      left = get_or lefts t no_curve

      top_is : top_in row tops lefts j ≡ over (shape_of left) (flow_at row t).last
      top_is = ap (marked_top row lefts) is

      pub marked : Marked row lefts (suc k) j t
      marked = subst (Marks row lefts (suc k) j) is (w.marks j)

      pub join_room : (c.count + left.count ≤ 16) × (c.offset + left.offset < 2 ^ 63)
      join_room = walk_room_over _ _ _ _ _ _ h v left _ _ top_is marked.holds w.fits w.near

      pub joins : (r : Curve) → Join c left r
          → Walking (servers_of row) (top_in row tops lefts) (path_curve row k tops lefts) (flow_at row k).last r ((flow_at row t).last + 1)
      joins r e =
          walk_turn_over _ _ _ _ _ _ h v _ _ r top_is marked.onward (holds_joined v.holds marked.holds e.holds)
          (holds_long c left marked.holds (omega (arith, v.full, join_room.0)) e.is ∙ v.full)

    -- no group begins at server j
    module _ (is : get_or tops j None ≡ None) where
      abbrev served : Server
      served = get_or row.servers (j - 1) no_server

      served_is : get_or (servers_of row) (j - 1) no_server ≡ served
      served_is = get_or-take row.size row.servers (j - 1) no_server (omega (arith, w.placed.leaves, v.low))

      pub server_room : (c.count < 16) × (c.offset + served.latency < 2 ^ 63)
      server_room =
          subst (λ (s : Server). (c.count < 16) × (c.offset + s.latency < 2 ^ 63)) served_is (walk_room _ _ _ _ _ _ h v (ap (marked_top row lefts) is) w.fits w.near)

      pub serves : Walking (servers_of row) (top_in row tops lefts) (path_curve row k tops lefts) (flow_at row k).last
          (record { offset = c.offset + served.latency; count = c.count + 1; stages = set c.stages c.count (record { burst = 0; rate = served.rate }) }) (j + 1)
      serves = walk_turn _ _ _ _ _ _ h v _ (ap (marked_top row lefts) is) held (length-set c.stages c.count _ ∙ v.full)
        where
          held : Holds (record { offset = c.offset + served.latency; count = c.count + 1; stages = set c.stages c.count (record { burst = 0; rate = served.rate }) })
              (joined v.shape (server_curve (servers_of row) j))
          held =
              subst (λ (s : Server). Holds (record { offset = c.offset + served.latency; count = c.count + 1; stages = set c.stages c.count (record { burst = 0; rate = served.rate }) }) (joined v.shape (server s.rate s.latency))) (sym served_is)
              (holds_server served.rate served.latency v.holds (omega (arith, server_room.0, v.full)))
