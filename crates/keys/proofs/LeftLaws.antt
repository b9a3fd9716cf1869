-- The row as one curve, with the groups taken out of it from the last to the first, is the root's curve: no two paths cross and each group comes
-- before those inside it, so under a path stand just the pieces of its node (TileLaws.antt), and a group's lag and extra are
-- added to the slots under its path and so to all slots.
-- Assumes nothing.
use Rattle.std.specs.Prelude.{◌≡◌, Bool, cond, ◌⊎◌, ℕ, zero, suc, ◌+◌, ◌-◌, ◌≤◌, ◌<◌, length, get_or, set}
use Rattle.std.proofs.Math.Path.{refl, sym, ap, subst}
use Rattle.std.proofs.Common.{◌∙◌, inl, inr, length-set, get_or-set_same, get_or-set_other}
use Rattle.std.proofs.Math.Bool.{true, false}
use mathlib.Core.List.{List, [], ◌∷◌, map}
use native.Mathlib.Omega.{arith}
use borrow.Author.Tests.{eqb-true, eqb-false}
use Rattle.std.proofs.Math.Dec.{eqb}
use Rattle.std.proofs.Math.ListN.{length-map, get_or-map}
use Rattle.std.proofs.Math.Seq.{slice}
use Rattle.curves.specs.declared.Stage.{Stage}
use Rattle.curves.specs.Curve.{Shape, after, greatest, catch_up, least_wait, remainder, delay, server}
use Rattle.curves.specs.Part.{changed}
use Rattle.curves.proofs.PartLaws.{changed_inside, changed_outside, changed_length}
use Rattle.curves.specs.Held.{blank}
use Rattle.tandem.specs.declared.Server.{Server}
use Rattle.tandem.specs.declared.Flow.{Flow}
use Rattle.tree.specs.Plan.{Node, Top, alone, over, top_of, server_curve, node_curve, node_of, head_of, tail_of, plan}
use Rattle.ground.specs.Each.{Each}
use Rattle.ground.proofs.EachLaws.{each_map}
use Rattle.tree.specs.Amounts.{sum_of}
use Rattle.tree.proofs.PruneLaws.{latencies_of}
use Rattle.tree.specs.Planned.{answer_of}
use Rattle.tree.specs.Ordered.{Placed, After, Ordered}
use Rattle.keys.specs.Cells.{cell_at, stages_from, sum_from, curve_from, Left, Pooled}
use Rattle.tree.proofs.NodeLaws.{plan_length}
use Rattle.keys.proofs.TileLaws.{Begins, begins, Tile, Tiled, curve_is, same_curve, left_curve, sum_append}
use Rattle.keys.specs.Left.{row_curve, lag_of, left_by, left_of}

-- stages as a list of bursts and a list of rates

abbrev bursts_of : List Stage → List ℕ
bursts_of l = map (λ (s : Stage). s.burst) l

abbrev pub rates_of : List Stage → List ℕ
rates_of l = map (λ (s : Stage). s.rate) l

cell_is : (l : List Stage) (j : ℕ) → cell_at (bursts_of l) (rates_of l) j ≡ get_or l j blank
cell_is [] j = refl
cell_is (s ∷ l) zero = refl
cell_is (s ∷ l) (suc j) = cell_is l j

stages_by : (bs rs : List ℕ) (l : List Stage) (i : ℕ) → ((j : ℕ) → j < length l → cell_at bs rs (i + j) ≡ get_or l j blank) → stages_from bs rs i (length l) ≡ l
stages_by bs rs [] i h = refl
stages_by bs rs (s ∷ l) i h =
    let z : i + 0 ≡ i = omega arith in
    let a : cell_at bs rs i ≡ s = ap (cell_at bs rs) (sym z) ∙ h 0 (omega arith) in
    ap (λ (u : Stage). u ∷ stages_from bs rs (suc i) (length l)) a
    ∙ ap (λ (m : List Stage). s ∷ m)
    (stages_by bs rs l (suc i) (λ j p. let y : suc i + j ≡ i + suc j = omega arith in ap (cell_at bs rs) y ∙ h (suc j) (omega arith)))

stages_are : (l : List Stage) → stages_from (bursts_of l) (rates_of l) 0 (length l) ≡ l
stages_are l = stages_by (bursts_of l) (rates_of l) l 0 (λ j p. let z : 0 + j ≡ j = omega arith in ap (cell_at (bursts_of l) (rates_of l)) z ∙ cell_is l j)

sum_by : (sh l : List ℕ) (i : ℕ) → ((j : ℕ) → j < length l → get_or sh (i + j) 0 ≡ get_or l j 0) → sum_from sh i (length l) ≡ sum_of l
unfolding sum_of
sum_by sh [] i h = refl
sum_by sh (x ∷ l) i h =
    let z : i + 0 ≡ i = omega arith in
    let a : get_or sh i 0 ≡ x = ap (λ (y : ℕ). get_or sh y 0) (sym z) ∙ h 0 (omega arith) in
    let r = sum_by sh l (suc i) (λ j p. let y : suc i + j ≡ i + suc j = omega arith in ap (λ (y : ℕ). get_or sh y 0) y ∙ h (suc j) (omega arith)) in
    omega (arith, a, r)

-- the first n stages from i on
take_stages : (bs rs : List ℕ) (i b n : ℕ) → b ≤ n → slice 0 b (stages_from bs rs i n) ≡ stages_from bs rs i b
take_stages bs rs i zero n h = refl
take_stages bs rs i (suc b) zero h = absurd (omega arith)
take_stages bs rs i (suc b) (suc n) h = ap (λ (l : List Stage). cell_at bs rs i ∷ l) (take_stages bs rs (suc i) b n (omega arith))

slice_stages : (bs rs : List ℕ) (i a b n : ℕ) → a ≤ b → b ≤ n → slice a b (stages_from bs rs i n) ≡ stages_from bs rs (i + a) (b - a)
slice_stages bs rs i zero b n p q =
    let e : i + 0 ≡ i = omega arith in
    let f : b - 0 ≡ b = omega arith in
    rw (e, f) (take_stages bs rs i b n q)
slice_stages bs rs i (suc a) zero n p q = absurd (omega arith)
slice_stages bs rs i (suc a) (suc b) zero p q = absurd (omega arith)
slice_stages bs rs i (suc a) (suc b) (suc n) p q =
    let e : i + suc a ≡ suc i + a = omega arith in
    let f : suc b - suc a ≡ b - a = omega arith in
    rw (e, f) (slice_stages bs rs (suc i) a b n (omega arith) (omega arith))

-- the curve c lies along the line in which the groups gs are taken out; sh are the servers' shares of its offset
record Lies (ss : List Server) (gs : List Flow) (ns : List Node) (c : Shape) (sh : List ℕ) : Type 0 where
  long : length c.stages ≡ length ss
  shares_long : length sh ≡ length ss
  slots : c.offset ≡ sum_from sh 0 (length ss)
  tiled : Tiled ss gs ns (bursts_of c.stages) (rates_of c.stages) sh

lies_none : (ss : List Server) → Lies ss [] [] (row_curve ss) (latencies_of ss)
unfolding row_curve top_of server
lies_none ss =
    record {
      long = length-map ss (λ (s : Server). record { burst = 0; rate = s.rate });
      shares_long = length-map ss (λ (s : Server). s.latency);
      slots = sym (ap (sum_from (latencies_of ss) 0) (sym (length-map ss (λ (s : Server). s.latency)))
          ∙ sum_by (latencies_of ss) (latencies_of ss) 0 (λ j p. let z : 0 + j ≡ j = omega arith in ap (λ (y : ℕ). get_or (latencies_of ss) y 0) z));
      tiled = λ i h b. plain i;
    }
  where
    stages : List Stage
    stages = map (λ (s : Server). record { burst = 0; rate = s.rate }) ss

    none : Server
    none = record { rate = 0; latency = 0 }

    plain : (i : ℕ) → curve_from (bursts_of stages) (rates_of stages) (latencies_of ss) i 1 ≡ server_curve ss (suc i)
    plain i =
        let e : suc i - 1 ≡ i = omega arith in
        let a : cell_at (bursts_of stages) (rates_of stages) i ≡ record { burst = 0; rate = (get_or ss i none).rate } =
        cell_is stages i ∙ get_or-map (λ (s : Server). record { burst = 0; rate = s.rate }) ss i none in
        let b : get_or (latencies_of ss) i 0 + 0 ≡ (get_or ss i none).latency = omega (arith, get_or-map (λ (s : Server). s.latency) ss i none) in
        rw (e, a, b)

remainder_by : (c d : Shape) (σ ρ w θ x : ℕ) → c ≡ d → w ≡ θ → x ≡ w - c.offset
    → ◌≡◌ {A = Shape} (record { offset = w; stages = map (after σ ρ x) d.stages }) (remainder c σ ρ θ)
unfolding remainder
remainder_by c d σ ρ w θ x e f y = rw (y, f, e)

sum_thirds : (sh : List ℕ) (a b n : ℕ) → a ≤ b → b ≤ n → sum_from sh 0 n ≡ sum_from sh 0 a + (sum_from sh a (b - a) + sum_from sh b (n - b))
sum_thirds sh a b n p q =
    let d : a + (b - a + (n - b)) ≡ n = omega arith in
    let z : 0 + a ≡ a = omega arith in
    let y : a + (b - a) ≡ b = omega arith in
    ap (sum_from sh 0) (sym d)
    ∙ sum_append sh 0 a (b - a + (n - b))
    ∙ ap (λ (i : ℕ). sum_from sh 0 a + sum_from sh i (b - a + (n - b))) z
    ∙ ap (λ (m : ℕ). sum_from sh 0 a + m) (sum_append sh a (b - a) (n - b) ∙ ap (λ (i : ℕ). sum_from sh a (b - a) + sum_from sh i (n - b)) y)

-- group g is taken out of the line, before which the groups gs behind it were
module _ (ss : List Server) (g : Flow) (gs : List Flow) (ns : List Node) (c : Shape) (sh : List ℕ) (e : ℕ)
    (many : length gs ≡ length ns) (o : Ordered (g ∷ gs)) (p : Each (Placed (length ss)) (g ∷ gs)) (lies : Lies ss gs ns c sh)
  where
    abbrev bs : List ℕ
    bs = bursts_of c.stages

    abbrev rs : List ℕ
    rs = rates_of c.stages

    abbrev a : ℕ
    a = g.first - 1

    abbrev b : ℕ
    b = g.last

    abbrev x : ℕ
    x = lag_of c g + e

    abbrev w : ℕ
    w = sum_from sh a (b - a) + x

    abbrev here : Shape
    here = node_curve ss g gs ns

    abbrev bs' : List ℕ
    bs' = bursts_of (left_by c g x).stages

    abbrev rs' : List ℕ
    rs' = rates_of (left_by c g x).stages

    -- its first server gets the whole wait
    abbrev sh' : List ℕ
    sh' = set (changed (λ y. 0) a b sh) a w

    here_is : here ≡ curve_from bs rs sh a (b - a)
    here_is = curve_is ss gs ns bs rs sh many o.1 p.1 lies.tiled g p.0 o.0

    lag_is : lag_of c g ≡ greatest (catch_up g.burst) (stages_from bs rs a (b - a))
    unfolding lag_of
    lag_is =
        let v = p.0 in
        let z : 0 + a ≡ a = omega arith in
        ap (λ (l : List Stage). greatest (catch_up g.burst) (slice a b l)) (sym (stages_are c.stages))
        ∙ ap (greatest (catch_up g.burst))
        (slice_stages bs rs 0 a b (length c.stages) (omega (arith, v.onward, v.enters)) (omega (arith, v.leaves, lies.long))
        ∙ ap (λ (y : ℕ). stages_from bs rs y (b - a)) z)

    wait_is : least_wait here g.burst + e ≡ w
    unfolding least_wait
    wait_is = rw here_is (omega (arith, lag_is))

    taken : Left bs rs bs' rs' a b g.burst g.rate x
    unfolding left_by
    taken =
        record {
          bursts_long = length-map l (λ (s : Stage). s.burst) ∙ same ∙ sym (length-map c.stages (λ (s : Stage). s.burst));
          rates_long = length-map l (λ (s : Stage). s.rate) ∙ same ∙ sym (length-map c.stages (λ (s : Stage). s.rate));
          inside = λ j q r. cell_is l j ∙ changed_inside f a b c.stages j blank q r (omega (arith, p.0.leaves, lies.long))
              ∙ ap f (sym (cell_is c.stages j));
          outside = λ j q. cell_is l j ∙ changed_outside f a b c.stages j blank q ∙ sym (cell_is c.stages j);
        }
      where
        f : Stage → Stage
        f = after g.burst g.rate x

        l : List Stage
        l = changed f a b c.stages

        same : length l ≡ length c.stages
        same = changed_length f a b c.stages

    pooled : Pooled sh sh' a b w
    pooled =
        let v = p.0 in
        let n = changed_length (λ y. 0) a b sh in
        record {
          long = length-set (changed (λ y. 0) a b sh) a w ∙ n;
          first = get_or-set_same (changed (λ y. 0) a b sh) a w 0 (omega (arith, n, lies.shares_long, v.leaves, v.onward, v.enters));
          rest = λ j q r. get_or-set_other (changed (λ y. 0) a b sh) a j w 0 (λ d. omega arith)
              ∙ changed_inside (λ y. 0) a b sh j 0 (omega arith) r (omega (arith, lies.shares_long, v.leaves));
          outside = λ j q. get_or-set_other (changed (λ y. 0) a b sh) a j w 0 (λ d. apart j d q) ∙ changed_outside (λ y. 0) a b sh j 0 q;
        }
      where
        apart : (j : ℕ) → j ≡ a → (j < a) ⊎ (b ≤ j) → ⊥
        apart j d (inl q) = omega arith
        apart j d (inr q) = omega (arith, p.0.onward, p.0.enters)

    -- under its path stands what it leaves
    left_here : curve_from bs' rs' sh' a (b - a) ≡ (node_of here g e).left
    unfolding node_of
    left_here =
        let v = p.0 in
        let d : x ≡ w - here.offset = omega (arith, ap (λ (s : Shape). s.offset) here_is) in
        left_curve bs rs sh bs' rs' sh' a b g.burst g.rate w x taken pooled (omega (arith, v.onward, v.enters))
        ∙ remainder_by here (curve_from bs rs sh a (b - a)) g.burst g.rate w (least_wait here g.burst + e) x here_is (sym wait_is) d

    out_one : (i j : ℕ) → i ≤ j → j < i + 1 → (g.first ≡ suc i → ⊥) → (i < g.first) ⊎ (g.last ≤ i) → (j < a) ⊎ (b ≤ j)
    out_one i j u v d (inl q) = inl (omega arith)
    out_one i j u v d (inr q) = inr (omega arith)

    -- elsewhere nothing has changed
    kept : (i : ℕ) (t : Top) → (g.first ≡ suc i → ⊥) → (i < g.first) ⊎ (g.last ≤ i) → Begins gs i t → Tile ss bs rs sh i t → Tile ss bs' rs' sh' i t
    kept i alone d q r u = same_curve bs rs sh bs' rs' sh' a b g.burst g.rate w x taken pooled i 1 (λ j m n. out_one i j m n d q) ∙ u
    kept i (over s n) d (inl q) r u =
        let m = r.from g.first (each_map (After g) (λ y. g.first ≤ y.first) gs (λ y z. z.onward) o.0) in
        absurd (d (omega arith))
    kept i (over s n) d (inr q) r u =
        same_curve bs rs sh bs' rs' sh' a b g.burst g.rate w x taken pooled i (n - i) (λ j m y. inr (omega arith)) ∙ u

    tiles : Tiled ss (g ∷ gs) (node_of here g e ∷ ns) bs' rs' sh'
    unfolding top_of
    tiles i m q = by (eqb g.first (suc i)) refl
      where
        by : (t : Bool) → eqb g.first (suc i) ≡ t → Tile ss bs' rs' sh' i (cond t (over (node_of here g e).left g.last) (top_of gs ns (suc i)))
        by true t =
            let y : g.first - 1 ≡ i = omega (arith, eqb-true g.first (suc i) t) in
            subst (λ (z : ℕ). curve_from bs' rs' sh' z (b - z) ≡ (node_of here g e).left) y left_here
        by false t =
            kept i (top_of gs ns (suc i)) (eqb-false g.first (suc i) t) q.0 (begins (length ss) gs ns i many o.1 p.1 q.1) (lies.tiled i m q.1)

    -- all slots: those before its path, under it and behind it
    slots_more : c.offset + x ≡ sum_from sh' 0 (length ss)
    slots_more =
        let v = p.0 in
        let k : a < b = omega (arith, v.onward, v.enters) in
        let f = same_curve bs rs sh bs' rs' sh' a b g.burst g.rate w x taken pooled 0 a (λ j m n. inl (omega arith)) in
        let h = left_curve bs rs sh bs' rs' sh' a b g.burst g.rate w x taken pooled k in
        let r = same_curve bs rs sh bs' rs' sh' a b g.burst g.rate w x taken pooled b (length ss - b) (λ j m n. inr m) in
        omega (
          arith,
          lies.slots,
          sum_thirds sh a b (length ss) (omega arith) v.leaves,
          sum_thirds sh' a b (length ss) (omega arith) v.leaves,
          ap (λ (s : Shape). s.offset) f,
          ap (λ (s : Shape). s.offset) h,
          ap (λ (s : Shape). s.offset) r,
        )

    lies_more : Lies ss (g ∷ gs) (node_of here g e ∷ ns) (left_by c g x) sh'
    unfolding left_by
    lies_more =
        record {
          long = changed_length (after g.burst g.rate x) a b c.stages ∙ lies.long;
          shares_long = pooled.long ∙ lies.shares_long;
          slots = slots_more;
          tiled = tiles;
        }

-- the groups gs, taken out from the last to the first
lies_all : (ss : List Server) (gs : List Flow) (es : List ℕ) → Ordered gs → Each (Placed (length ss)) gs
    → (sh : List ℕ) × Lies ss gs (plan ss gs es) (left_of (row_curve ss) gs es) sh
unfolding left_of plan
lies_all ss [] es o p = (latencies_of ss, lies_none ss)
lies_all ss (g ∷ gs) es o p =
    let r = lies_all ss gs (tail_of es) o.1 p.1 in
    let ns = plan ss gs (tail_of es) in
    let c = left_of (row_curve ss) gs (tail_of es) in
    let m : length gs ≡ length ns = sym (plan_length ss gs (tail_of es)) in
    (sh' ss g gs ns c r.0 (head_of es) m o p r.1, lies_more ss g gs ns c r.0 (head_of es) m o p r.1)

-- the main law: the root's curve is the row's, with all groups taken out of it; so the root's offset is the latencies, lags and extras of all
pub root_left : (ss : List Server) (w : Flow) (gs : List Flow) (es : List ℕ) → Ordered (w ∷ gs) → Each (Placed (length ss)) (w ∷ gs)
    → w.first ≡ 1 → w.last ≡ length ss → node_curve ss w gs (plan ss gs es) ≡ left_of (row_curve ss) gs es
root_left ss w gs es o p f l =
    let r = lies_all ss gs es o.1 p.1 in
    let c = left_of (row_curve ss) gs es in
    let m : length gs ≡ length (plan ss gs es) = sym (plan_length ss gs es) in
    let h = curve_is ss gs (plan ss gs es) (bursts_of c.stages) (rates_of c.stages) r.0 m o.1 p.1 r.1.tiled w p.0 o.0 in
    let a : w.first - 1 ≡ 0 = omega arith in
    let b : w.last - (w.first - 1) ≡ length c.stages = omega (arith, r.1.long) in
    let d : sum_from r.0 0 (length c.stages) ≡ c.offset = ap (sum_from r.0 0) r.1.long ∙ sym r.1.slots in
    h ∙ rw (b, a, stages_are c.stages, d)

-- and a point's delay is that of the watched flow's bucket over it
pub answer_left : (ss : List Server) (w : Flow) (gs : List Flow) (es : List ℕ) → Ordered (w ∷ gs) → Each (Placed (length ss)) (w ∷ gs)
    → w.first ≡ 1 → w.last ≡ length ss → (answer_of ss (w ∷ gs) es).delay ≡ delay (left_of (row_curve ss) gs es) w.burst w.rate
unfolding answer_of plan node_of
answer_left ss w gs es o p f l = ap (λ (c : Shape). delay c w.burst w.rate) (root_left ss w gs es o p f l)
