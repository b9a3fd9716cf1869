-- The nodes as `evaluate` holds them: behind node k, the wait of each group stands in its place, and at each server the outermost group that
-- begins there is marked, with what it leaves. So the curve that is joined along the path of node k is its node's.
-- Assumes nothing.
use mathlib.Core.Path.{◌≡◌, refl, sym, ap, ◌∙◌, subst}
use mathlib.Core.Bool.{Bool, true, false}
use mathlib.Core.List.{List, [], ◌∷◌, ◌++◌}
use Prim.Native.Nat.{ℕ, zero, suc, ◌+◌, ◌-◌, ◌<◌, ◌^◌}
use native.Mathlib.Omega.{arith}
use borrow.Author.Tests.{eqb-true, eqb-false}
use lib.Dec.{eqb}
use lib.ListN.{length, drop, get_or, set, replicate, length-set, length-map, replicate-append-replicate, drop_of_length-le}
use lib.Seq.{drop-cons, get_or-take, length-take-le, get_or-set_same, get_or-set_other}
use Rattle.std.specs.Prelude.{Option, Some, None}
use Rattle.std.proofs.Math.Path.{fun_ext}
use Rattle.tandem.specs.Tandem.{no_flow}
use Rattle.curves.specs.declared.Curve.{Curve}
use Rattle.curves.specs.Curve.{Shape, neutral, least_wait, remainder, delay}
use Rattle.curves.specs.Held.{shape_of, InRange, Leaving, Holds}
use Rattle.curves.proofs.HeldLaws.{holds_in_range, holds_leaving, holds_remainder, holds_wait, holds_delay}
use Rattle.tandem.specs.declared.Server.{Server}
use Rattle.tandem.specs.declared.Flow.{Flow}
use Rattle.row.specs.declared.Row.{Row}
use Rattle.tree.specs.Fine.{Fine, AllFine}
use Rattle.tree.specs.Ordered.{Placed}
use Rattle.tree.specs.Plan.{Node, Top, over, top_of, along, node_curve, node_of, plan}
use Rattle.tree.specs.Planned.{waits_of, answer_of}
use Rattle.tree.proofs.NodeLaws.{plan_from, curve_at, extra_at, fine_at, plan_length, plan_at}
use Rattle.point.specs.declared.Point.{Point}
use Rattle.point.specs.Point.{servers_of, flows_of, extras_of, point_of, answer_at, Shaped}
use Rattle.point.specs.Nodes.{no_curve, flow_at, marked_top, top_in, path_curve, Marks, Walkable}

-- the extras with the watched flow's, 0, before them
abbrev pub all_of : Row → List ℕ → List ℕ
all_of row extra = 0 ∷ extras_of row extra

-- the nodes behind node k are worked out
pub record Behind (row : Row) (extra : List ℕ) (k : ℕ) (ls : List Curve) (ws : List ℕ) (ts : List (Option ℕ)) : Type 0 where
  pub known : k < row.count
  pub full : length ls ≡ 32
  pub wide : length ts ≡ 17
  pub waits : ws ≡ replicate k 0 ++ (waits_of (plan_from (servers_of row) (flows_of row) (all_of row extra) (suc k)) ++ replicate (32 - (length (flows_of row) - 1)) 0)
  pub marks : (j : ℕ) → Marks row ls (suc k) j (get_or ts j None)
  pub tops : (j : ℕ) → top_in row ts ls j ≡ top_of (drop (suc k) (flows_of row)) (plan_from (servers_of row) (flows_of row) (all_of row extra) (suc k)) j

pub behind_root : (row : Row) (extra : List ℕ) (ls : List Curve) (ws : List ℕ) (ts : List (Option ℕ)) {k : ℕ} → Behind row extra k ls ws ts → k ≡ 0
    → Behind row extra 0 ls ws ts
behind_root row extra ls ws ts u z = subst (λ (n : ℕ). Behind row extra n ls ws ts) z u

none_at : (n j : ℕ) → get_or {A = Option ℕ} (replicate n None) j None ≡ None
none_at zero j = refl
none_at (suc n) zero = refl
none_at (suc n) (suc j) = none_at n j

set_zeros : (i w : ℕ) (l : List ℕ) → set (replicate (suc i) 0 ++ l) i w ≡ replicate i 0 ++ (w ∷ l)
set_zeros zero w l = refl
set_zeros (suc i) w l = ap (λ (m : List ℕ). 0 ∷ m) (set_zeros i w l)

set_last_zero : (k w : ℕ) (l : List ℕ) → 0 < k → set (replicate k 0 ++ l) (k - 1) w ≡ replicate (k - 1) 0 ++ (w ∷ l)
set_last_zero zero w l p = absurd (omega arith)
set_last_zero (suc i) w l p = let e : suc i - 1 ≡ i = omega arith in rw e (set_zeros i w l)

-- the watched flow's node is the last: what the code gives is the answer at the point
root_answer : (ss : List Server) (gs : List Flow) (es ws : List ℕ) → ws ≡ waits_of (plan_from ss gs (0 ∷ es) 1) ++ replicate (32 - (length gs - 1)) 0
    → 0 < length gs → (d : ℕ) → d ≡ delay (curve_at ss gs (0 ∷ es) 0) (get_or gs 0 no_flow).burst (get_or gs 0 no_flow).rate
    → ◌≡◌ {A = Point} (record { delay = d; waits = ws }) (point_of (answer_of ss gs es))
unfolding answer_of point_of plan node_of
root_answer ss [] es ws u p d e = absurd (omega arith)
root_answer ss (g ∷ gs) es ws u p d e =
    let l : length (waits_of (plan ss gs es)) ≡ suc (length gs) - 1 = omega (arith, length-map (plan ss gs es) (λ (n : Node). n.wait), plan_length ss gs es) in
    rw (e, u, l)

-- a row and a point whose nodes are in range
module _ (row : Row) (extra : List ℕ) (r : Shaped row × AllFine (plan (servers_of row) (flows_of row) (all_of row extra)) (flows_of row))
    (groups : length row.groups ≡ 32)
  where
    abbrev shaped : Shaped row
    shaped = r.0

    abbrev ss : List Server
    ss = servers_of row

    abbrev gs : List Flow
    gs = flows_of row

    abbrev xs : List ℕ
    xs = all_of row extra

    count_is : length gs ≡ row.count
    count_is = length-take-le row.count row.groups (omega (arith, groups, shaped.few))

    -- behind the last node there is none
    pub none_behind : (ls : List Curve) → length ls ≡ 32 → Behind row extra (row.count - 1) ls (replicate 32 0) (replicate 17 None)
    unfolding plan top_of
    none_behind ls h =
        let e : suc (row.count - 1) ≡ row.count = omega (arith, shaped.some) in
        let d : drop row.count gs ≡ [] = drop_of_length-le gs {i = row.count} (omega (arith, count_is)) in
        let s : 32 ≡ row.count - 1 + (32 - (length gs - 1)) = omega (arith, count_is, shaped.few) in
        record {
          known = omega (arith, shaped.some);
          full = h;
          wide = refl;
          waits = rw (e, d, replicate-append-replicate, ← s);
          marks = λ j. rw (none_at 17 j) tt;
          tops = λ j. rw (e, d, none_at 17 j);
        }

    module _ (k : ℕ) (ls : List Curve) (ws : List ℕ) (ts : List (Option ℕ)) (u : Behind row extra k ls ws ts) where
      abbrev g : Flow
      g = flow_at row k

      group_is : get_or gs k no_flow ≡ g
      group_is = get_or-take row.count row.groups k no_flow u.known

      placed : Placed row.size g
      placed = shaped.paths k u.known

      inside : k < length gs
      inside = omega (arith, count_is, u.known)

      -- the node of a group that stands at place k
      abbrev curve_of : Flow → Shape
      curve_of f = node_curve ss f (drop (suc k) gs) (plan_from ss gs xs (suc k))

      abbrev node_for : Flow → Node
      node_for f = node_of (curve_of f) f (get_or xs k 0)

      abbrev curve : Shape
      curve = curve_of g

      abbrev node : Node
      node = node_for g

      groups_from : drop k gs ≡ g ∷ drop (suc k) gs
      groups_from = drop-cons gs k no_flow inside ∙ ap (λ (f : Flow). f ∷ drop (suc k) gs) group_is

      nodes_from : plan_from ss gs xs k ≡ node ∷ plan_from ss gs xs (suc k)
      nodes_from = plan_at ss gs xs k inside ∙ ap (λ (f : Flow). node_for f ∷ plan_from ss gs xs (suc k)) group_is

      fine : Fine node g
      fine = subst (λ (f : Flow). Fine (node_for f) f) group_is (fine_at ss gs xs k inside r.1)

      -- what is joined along its path
      path_is : path_curve row k ts ls ≡ curve
      unfolding node_curve
      path_is = ap (λ (t : ℕ → Top). along ss t (length ss) neutral g.first g.last) (fun_ext u.tops)

      pub walkable : Walkable row k ts ls
      unfolding node_of
      walkable =
          record {
            short = shaped.short;
            few = shaped.few;
            known = u.known;
            placed = placed;
            marks = u.marks;
            fits = rw path_is fine.few;
            near = rw path_is fine.near;
          }

      module _ (c : Curve) (held : Holds c (path_curve row k ts ls)) where
        holds : Holds c curve
        holds = subst (Holds c) path_is held

        pub in_range : InRange c
        unfolding node_of
        in_range = holds_in_range holds fine.few (omega (arith, fine.near)) fine.live

        pub light : g.burst + g.rate < 2 ^ 40
        light = fine.light

        -- a group's wait, and what it leaves
        module _ (p : 0 < k) (least : ℕ) (e : least ≡ least_wait (shape_of c) g.burst) where
          abbrev wait : ℕ
          wait = least + get_or extra (k - 1) 0

          wait_is : wait ≡ least_wait curve g.burst + get_or xs k 0
          wait_is =
              rw (extra_at (row.count - 1) extra k p (omega (arith, u.known)))
              (ap (λ (n : ℕ). n + get_or extra (k - 1) 0) (holds_wait _ _ holds e))

          node_wait : wait ≡ node.wait
          unfolding node_of
          node_wait = wait_is

          pub wait_fits : wait < 2 ^ 36
          unfolding node_of
          wait_fits = omega (arith, wait_is, fine.soon)

          pub leaving : Leaving c g.burst g.rate wait
          unfolding node_of
          leaving = holds_leaving _ _ _ holds fine.few (omega (arith, wait_is)) (omega (arith, wait_fits)) fine.live fine.room

          -- the group is marked where its path begins, with what it leaves
          module _ (l : Curve) (h : Holds l (remainder (shape_of c) g.burst g.rate wait)) where
            left : Holds l node.left
            unfolding node_of
            left = rw wait_is at (holds_remainder _ _ _ holds h)

            self : Holds l (shape_of l)
            self = rw (← left.shape) at left

            -- the other marks stay
            mark_kept : (j : ℕ) (m : Option ℕ) → Marks row ls (suc k) j m → Marks row (set ls k l) k j m
            mark_kept j None m = tt
            mark_kept j (Some t) m =
                let o : get_or (set ls k l) t no_curve ≡ get_or ls t no_curve = get_or-set_other ls k t l no_curve (λ z. omega (arith, m.behind)) in
                record { behind = omega (arith, m.behind); known = m.known; holds = rw o m.holds; onward = m.onward; ends = m.ends }

            top_kept : (j : ℕ) (m : Option ℕ) → Marks row ls (suc k) j m → marked_top row (set ls k l) m ≡ marked_top row ls m
            top_kept j None m = refl
            top_kept j (Some t) m = rw (get_or-set_other ls k t l no_curve (λ z. omega (arith, m.behind)))

            mark_here : Marks row (set ls k l) k g.first (Some k)
            mark_here =
                let o : get_or (set ls k l) k no_curve ≡ l = get_or-set_same ls k l no_curve (omega (arith, u.full, u.known, shaped.few)) in
                record { behind = omega arith; known = u.known; holds = rw o self; onward = placed.onward; ends = placed.leaves }

            top_here : marked_top row (set ls k l) (Some k) ≡ over node.left g.last
            top_here = rw (get_or-set_same ls k l no_curve (omega (arith, u.full, u.known, shaped.few)), left.shape)

            begins : g.first < length ts
            begins = omega (arith, u.wide, placed.onward, placed.leaves, shaped.short)

            mark_at : (j : ℕ) (b : Bool) → eqb g.first j ≡ b → Marks row (set ls k l) k j (get_or (set ts g.first (Some k)) j None)
            mark_at j true b = rw (← eqb-true g.first j b, get_or-set_same ts g.first (Some k) None begins) mark_here
            mark_at j false b =
                rw (get_or-set_other ts g.first j (Some k) None (λ z. eqb-false g.first j b (sym z))) (mark_kept j (get_or ts j None) (u.marks j))

            top_at : (j : ℕ) (b : Bool) → eqb g.first j ≡ b
                → top_in row (set ts g.first (Some k)) (set ls k l) j ≡ top_of (g ∷ drop (suc k) gs) (node ∷ plan_from ss gs xs (suc k)) j
            unfolding top_of
            top_at j true b = rw (b, ← eqb-true g.first j b, get_or-set_same ts g.first (Some k) None begins) top_here
            top_at j false b =
                rw (b, get_or-set_other ts g.first j (Some k) None (λ z. eqb-false g.first j b (sym z)), top_kept j (get_or ts j None) (u.marks j)) (u.tops j)

            pub behind_next : Behind row extra (k - 1) (set ls k l) (set ws (k - 1) wait) (set ts g.first (Some k))
            behind_next =
                let e : suc (k - 1) ≡ k = omega arith in
                record {
                  known = omega (arith, u.known);
                  full = length-set ls k l ∙ u.full;
                  wide = length-set ts g.first (Some k) ∙ u.wide;
                  waits = rw (e, nodes_from, ← node_wait, u.waits) (set_last_zero k wait _ p);
                  marks = λ j. rw e (mark_at j (eqb g.first j) refl);
                  tops = λ j. rw (e, nodes_from, groups_from) (top_at j (eqb g.first j) refl);
                }

        -- the watched flow's node is the last: what the code gives is the answer at the point
        pub root_is : k ≡ 0 → (d : ℕ) → d ≡ delay (shape_of c) g.burst g.rate → ◌≡◌ {A = Point} (record { delay = d; waits = ws }) (point_of (answer_at row (extras_of row extra)))
        root_is z d e =
            let v : Behind row extra 0 ls ws ts = subst (λ (n : ℕ). Behind row extra n ls ws ts) z u in
            let h : d ≡ delay (curve_at ss gs xs 0) (get_or gs 0 no_flow).burst (get_or gs 0 no_flow).rate = subst (λ (n : ℕ). d ≡ delay (curve_at ss gs xs n) (get_or gs n no_flow).burst (get_or gs n no_flow).rate) z
            (subst (λ (f : Flow). d ≡ delay (curve_of f) f.burst f.rate) (sym group_is) (holds_delay _ _ _ holds e)) in
            root_answer ss gs (extras_of row extra) ws v.waits (omega (arith, count_is, shaped.some)) d h
