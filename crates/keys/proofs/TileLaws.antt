-- The line holds the nodes from k on: every server at which a piece begins holds it, be it the server alone or what a group leaves of its
-- path. Pieces lie side by side, because no two paths cross and each group comes before those inside it. So the curve of node k is
-- the stretch of the line under its path.
-- Assumes nothing.
use Rattle.std.specs.Prelude.{◌≡◌, refl, Bool, true, false, cond, ◌⊎◌, List, [], ◌∷◌, ◌++◌, map, eqb, length, get_or}
use Rattle.std.proofs.Common.{sym, ap, ◌∙◌, inr, arith, eqb-true}
use Rattle.std.proofs.Math.Path.{subst}
use Rattle.std.proofs.Math.Logic.{inl}
use Prim.Native.Nat.{ℕ, zero, suc, ◌+◌, ◌-◌, ◌≤◌, ◌<◌}
use Rattle.std.proofs.lemmas.Bool.{eqb-false}
use Rattle.curves.specs.declared.Stage.{Stage}
use Rattle.curves.specs.Curve.{Shape, neutral, joined, after}
use Rattle.ground.proofs.OrderLaws.{le_or_lt}
use Rattle.curves.proofs.JoinLaws.{joined_neutral, neutral_joined, joined_assoc}
use Rattle.tandem.specs.declared.Server.{Server}
use Rattle.tandem.specs.declared.Flow.{Flow}
use Rattle.tree.specs.Plan.{Node, Top, alone, over, top_of, server_curve, along, node_curve}
use Rattle.ground.specs.Each.{Each}
use Rattle.ground.proofs.EachLaws.{each_map}
use Rattle.tree.specs.Ordered.{Placed, After, Ordered}
use Rattle.tree.proofs.NodeLaws.{along_alone, along_over, along_end}
use Rattle.keys.specs.Cells.{cell_at, stages_from, sum_from, curve_from, Left, Pooled}

-- stretches of the line

stages_append : (bs rs : List ℕ) (i m n : ℕ) → stages_from bs rs i (m + n) ≡ stages_from bs rs i m ++ stages_from bs rs (i + m) n
stages_append bs rs i zero n =
    let e : i + 0 ≡ i = omega arith in
    let f : 0 + n ≡ n = omega arith in
    rw (e, f)
stages_append bs rs i (suc m) n =
    let e : i + suc m ≡ suc i + m = omega arith in
    let f : suc m + n ≡ suc (m + n) = omega arith in
    rw (e, f) (ap (λ (l : List Stage). cell_at bs rs i ∷ l) (stages_append bs rs (suc i) m n))

pub sum_append : (sh : List ℕ) (i m n : ℕ) → sum_from sh i (m + n) ≡ sum_from sh i m + sum_from sh (i + m) n
sum_append sh i zero n =
    let e : i + 0 ≡ i = omega arith in
    let f : 0 + n ≡ n = omega arith in
    rw (e, f) (omega arith)
sum_append sh i (suc m) n =
    let e : i + suc m ≡ suc i + m = omega arith in
    let f : suc m + n ≡ suc (m + n) = omega arith in
    rw (e, f) (omega (arith, sum_append sh (suc i) m n))

module _ (bs rs sh : List ℕ) where
  curve_append : (i m n : ℕ) → curve_from bs rs sh i (m + n) ≡ joined (curve_from bs rs sh i m) (curve_from bs rs sh (i + m) n)
  unfolding joined
  curve_append i m n = rw (stages_append bs rs i m n, sum_append sh i m n)

  curve_none : (i n : ℕ) → n ≡ 0 → curve_from bs rs sh i n ≡ neutral
  unfolding neutral
  curve_none i n e = rw e

  curve_split : (i l e : ℕ) → i ≤ l → l ≤ e → curve_from bs rs sh i (e - i) ≡ joined (curve_from bs rs sh i (l - i)) (curve_from bs rs sh l (e - l))
  curve_split i l e h k =
      let a : e - i ≡ l - i + (e - l) = omega arith in
      let b : i + (l - i) ≡ l = omega arith in
      rw a (curve_append i (l - i) (e - l) ∙ ap (λ (n : ℕ). joined (curve_from bs rs sh i (l - i)) (curve_from bs rs sh n (e - l))) b)

-- stretches that hold the same
same_stages : (bs rs bs' rs' : List ℕ) (i n : ℕ) → ((j : ℕ) → i ≤ j → j < i + n → cell_at bs' rs' j ≡ cell_at bs rs j)
    → stages_from bs' rs' i n ≡ stages_from bs rs i n
same_stages bs rs bs' rs' i zero h = refl
same_stages bs rs bs' rs' i (suc n) h =
    let a = h i (omega arith) (omega arith) in
    let b = same_stages bs rs bs' rs' (suc i) n (λ j p q. h j (omega arith) (omega arith)) in
    ap (λ (s : Stage). s ∷ stages_from bs' rs' (suc i) n) a ∙ ap (λ (l : List Stage). cell_at bs rs i ∷ l) b

same_sum : (sh sh' : List ℕ) (i n : ℕ) → ((j : ℕ) → i ≤ j → j < i + n → get_or sh' j 0 ≡ get_or sh j 0) → sum_from sh' i n ≡ sum_from sh i n
same_sum sh sh' i zero h = refl
same_sum sh sh' i (suc n) h =
    omega (arith, h i (omega arith) (omega arith), same_sum sh sh' (suc i) n (λ j p q. h j (omega arith) (omega arith)))

-- what a group leaves of a stretch
left_stages : (bs rs bs' rs' : List ℕ) (σ ρ x i n : ℕ) → ((j : ℕ) → i ≤ j → j < i + n → cell_at bs' rs' j ≡ after σ ρ x (cell_at bs rs j))
    → stages_from bs' rs' i n ≡ map (after σ ρ x) (stages_from bs rs i n)
left_stages bs rs bs' rs' σ ρ x i zero h = refl
left_stages bs rs bs' rs' σ ρ x i (suc n) h =
    let a = h i (omega arith) (omega arith) in
    let b = left_stages bs rs bs' rs' σ ρ x (suc i) n (λ j p q. h j (omega arith) (omega arith)) in
    ap (λ (s : Stage). s ∷ stages_from bs' rs' (suc i) n) a ∙ ap (λ (l : List Stage). after σ ρ x (cell_at bs rs i) ∷ l) b

zero_sum : (sh : List ℕ) (i n : ℕ) → ((j : ℕ) → i ≤ j → j < i + n → get_or sh j 0 ≡ 0) → sum_from sh i n ≡ 0
zero_sum sh i zero h = refl
zero_sum sh i (suc n) h = omega (arith, h i (omega arith) (omega arith), zero_sum sh (suc i) n (λ j p q. h j (omega arith) (omega arith)))

-- a group is taken out of a stretch: what stands there, and what stands elsewhere
module _ (bs rs sh bs' rs' sh' : List ℕ) (a b σ ρ w x : ℕ) (l : Left bs rs bs' rs' a b σ ρ x) (q : Pooled sh sh' a b w) where
  pub left_curve : a < b → curve_from bs' rs' sh' a (b - a) ≡ record { offset = w; stages = map (after σ ρ x) (stages_from bs rs a (b - a)) }
  left_curve h =
      let n : b - a ≡ suc (b - suc a) = omega arith in
      let t : sum_from sh' (suc a) (b - suc a) ≡ 0 = zero_sum sh' (suc a) (b - suc a) (λ j u v. q.rest j (omega arith) (omega arith)) in
      let o : sum_from sh' a (b - a) ≡ w = rw n (omega (arith, q.first, t)) in
      rw (o, left_stages bs rs bs' rs' σ ρ x a (b - a) (λ j u v. l.inside j u (omega arith)))

  pub same_curve : (i n : ℕ) → ((j : ℕ) → i ≤ j → j < i + n → (j < a) ⊎ (b ≤ j)) → curve_from bs' rs' sh' i n ≡ curve_from bs rs sh i n
  same_curve i n h =
      rw (
        same_sum sh sh' i n (λ j u v. q.outside j (h j u v)),
        same_stages bs rs bs' rs' i n (λ j u v. l.outside j (h j u v)),
      )

-- no path of gs runs over the border before server i, counted from 0
abbrev pub Border : List Flow → ℕ → Type 0
Border gs i = Each (λ h. (i < h.first) ⊎ (h.last ≤ i)) gs

-- a piece that begins at server i, and the server behind it
pub record Runs (gs : List Flow) (i l : ℕ) : Type 0 where
  pub onward : i < l
  pub border : Border gs l
  -- it ends inside every stretch that no path leaves
  pub closed : (e : ℕ) → Each (λ h. (e < h.first) ⊎ (h.last ≤ e)) gs → i < e → l ≤ e
  -- no path begins earlier than all
  pub from : (f : ℕ) → Each (λ h. f ≤ h.first) gs → f ≤ suc i

abbrev pub Begins : List Flow → ℕ → Top → Type 0
Begins gs i alone = Border gs (suc i)
Begins gs i (over d l) = Runs gs i l

begins_behind : (n : ℕ) (g : Flow) (gs : List Flow) (i : ℕ) (t : Top) → (g.first ≡ suc i → ⊥) → (i < g.first) ⊎ (g.last ≤ i) → Each (After g) gs
    → Begins gs i t → Begins (g ∷ gs) i t
begins_behind n g gs i alone e (inl b) o r = (inl (by_less g.first e b), r)
  where
    by_less : (f : ℕ) → (f ≡ suc i → ⊥) → i < f → suc i < f
    by_less f e b = omega arith
begins_behind n g gs i alone e (inr b) o r = (inr (omega arith), r)
begins_behind n g gs i (over d l) e (inl b) o r =
    let f = r.from g.first (each_map (After g) (λ h. g.first ≤ h.first) gs (λ h a. a.onward) o) in
    absurd (e (omega arith))
begins_behind n g gs i (over d l) e (inr b) o r =
    record {
      onward = r.onward;
      border = (inr (omega (arith, r.onward)), r.border);
      closed = λ e w p. r.closed e w.1 p;
      from = λ f w. r.from f w.1;
    }

-- what begins at a border ends at one
pub begins : (n : ℕ) (gs : List Flow) (ns : List Node) (i : ℕ) → length gs ≡ length ns → Ordered gs → Each (Placed n) gs → Border gs i
    → Begins gs i (top_of gs ns (suc i))
unfolding top_of
begins n [] ns i q o p b = tt
begins n (g ∷ gs) [] i q o p b = absurd (omega arith)
begins n (g ∷ gs) (m ∷ ns) i q o p b = by (eqb g.first (suc i)) refl (begins n gs ns i (omega arith) o.1 p.1 b.1)
  where
    by : (t : Bool) → eqb g.first (suc i) ≡ t → Begins gs i (top_of gs ns (suc i))
        → Begins (g ∷ gs) i (cond t (over m.left g.last) (top_of gs ns (suc i)))
    by true e r =
        let f : g.first ≡ suc i = eqb-true g.first (suc i) e in
        record {
          onward = omega (arith, p.0.onward);
          border = (inr (omega arith), each_map (After g) (λ h. (g.last < h.first) ⊎ (h.last ≤ g.last)) gs (λ h a. a.nested) o.0);
          closed = λ e w k. ends e w.0 k f;
          from = λ k w. omega (arith, w.0);
        }
      where
        ends : (e : ℕ) → (e < g.first) ⊎ (g.last ≤ e) → i < e → g.first ≡ suc i → g.last ≤ e
        ends e (inl a) k f = absurd (omega arith)
        ends e (inr a) k f = a
    by false e r = begins_behind n g gs i (top_of gs ns (suc i)) (eqb-false g.first (suc i) e) b.0 o.0 r

-- the line holds what begins at server i
abbrev pub Tile : List Server → List ℕ → List ℕ → List ℕ → ℕ → Top → Type 0
Tile ss bs rs sh i alone = curve_from bs rs sh i 1 ≡ server_curve ss (suc i)
Tile ss bs rs sh i (over d l) = curve_from bs rs sh i (l - i) ≡ d

-- every piece stands in the line
abbrev pub Tiled : List Server → List Flow → List Node → List ℕ → List ℕ → List ℕ → Type 0
Tiled ss gs ns bs rs sh = (i : ℕ) → i < length ss → Border gs i → Tile ss bs rs sh i (top_of gs ns (suc i))

module _ (ss : List Server) (gs : List Flow) (ns : List Node) (bs rs sh : List ℕ) (q : length gs ≡ length ns) (o : Ordered gs)
    (p : Each (Placed (length ss)) gs) (tiled : Tiled ss gs ns bs rs sh)
  where
    abbrev Closed : ℕ → Type 0
    Closed e = Each (λ h. (e < h.first) ⊎ (h.last ≤ e)) gs

    abbrev AlongTiles : ℕ → Type 0
    AlongTiles n = (c : Shape) (i e : ℕ) → Border gs i → Closed e → e ≤ i + n → e ≤ length ss → i ≤ e
        → along ss (top_of gs ns) n c (suc i) e ≡ joined c (curve_from bs rs sh i (e - i))

    along_ended : (n : ℕ) (c : Shape) (i e : ℕ) → e ≤ i → along ss (top_of gs ns) n c (suc i) e ≡ joined c (curve_from bs rs sh i (e - i))
    along_ended n c i e h =
        along_end ss (top_of gs ns) n c (suc i) e (omega arith)
        ∙ sym (joined_neutral c) ∙ ap (λ (d : Shape). joined c d) (sym (curve_none bs rs sh i (e - i) (omega arith)))

    along_piece : (n : ℕ) → AlongTiles n → (c : Shape) (i e : ℕ) → Closed e → e ≤ i + suc n → e ≤ length ss → i < e
        → (t : Top) → top_of gs ns (suc i) ≡ t → Begins gs i t → Tile ss bs rs sh i t
        → along ss (top_of gs ns) (suc n) c (suc i) e ≡ joined c (curve_from bs rs sh i (e - i))
    along_piece n r c i e w f h k alone s b t =
        let u : suc i - i ≡ 1 = omega arith in
        let v : curve_from bs rs sh i (suc i - i) ≡ server_curve ss (suc i) = rw u t in
        along_alone ss (top_of gs ns) n c (suc i) e (omega arith) s
        ∙ r (joined c (server_curve ss (suc i))) (suc i) e b w (omega arith) h (omega arith)
        ∙ joined_assoc c (server_curve ss (suc i)) (curve_from bs rs sh (suc i) (e - suc i))
        ∙ ap (λ (d : Shape). joined c (joined d (curve_from bs rs sh (suc i) (e - suc i)))) (sym v)
        ∙ ap (λ (d : Shape). joined c d) (sym (curve_split bs rs sh i (suc i) e (omega arith) (omega arith)))
    along_piece n r c i e w f h k (over d l) s b t =
        let m = b.closed e w k in
        along_over ss (top_of gs ns) n c d (suc i) l e (omega arith) s
        ∙ r (joined c d) l e b.border w (omega (arith, b.onward)) h m
        ∙ joined_assoc c d (curve_from bs rs sh l (e - l))
        ∙ ap (λ (x : Shape). joined c (joined x (curve_from bs rs sh l (e - l)))) (sym t)
        ∙ ap (λ (x : Shape). joined c x) (sym (curve_split bs rs sh i l e (omega (arith, b.onward)) m))

    along_tiles : (n : ℕ) → AlongTiles n
    along_tiles zero c i e b w f h k = along_ended zero c i e (omega arith)
    along_tiles (suc n) c i e b w f h k = by (along_tiles n) (le_or_lt e i)
      where
        by : AlongTiles n → (e ≤ i) ⊎ (i < e) → along ss (top_of gs ns) (suc n) c (suc i) e ≡ joined c (curve_from bs rs sh i (e - i))
        by r (inl a) = along_ended (suc n) c i e a
        by r (inr a) =
            along_piece n r c i e w f h a (top_of gs ns (suc i)) refl (begins (length ss) gs ns i q o p b) (tiled i (omega arith) b)

    -- the curve of a path before the groups gs is the stretch of the line under it
    pub curve_is : (g : Flow) → Placed (length ss) g → Each (After g) gs
        → node_curve ss g gs ns ≡ curve_from bs rs sh (g.first - 1) (g.last - (g.first - 1))
    unfolding node_curve
    curve_is g s a =
        let e : suc (g.first - 1) ≡ g.first = omega (arith, s.enters) in
        subst (λ (j : ℕ). along ss (top_of gs ns) (length ss) neutral j g.last ≡ curve_from bs rs sh (g.first - 1) (g.last - (g.first - 1))) e
        (along_tiles (length ss) neutral (g.first - 1) g.last
        (each_map (After g) (λ h. (g.first - 1 < h.first) ⊎ (h.last ≤ g.first - 1)) gs (λ h x. inl (omega (arith, x.onward, s.enters))) a)
        (each_map (After g) (λ h. (g.last < h.first) ⊎ (h.last ≤ g.last)) gs (λ h x. x.nested) a)
        (omega (arith, s.leaves)) s.leaves (omega (arith, s.onward))
        ∙ neutral_joined (curve_from bs rs sh (g.first - 1) (g.last - (g.first - 1))))
