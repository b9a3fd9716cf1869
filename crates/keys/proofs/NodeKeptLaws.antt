-- The nodes behind the last moved group are those of the point before, and so is every node in which no group has moved: a node's curve depends
-- only on the extras of the groups inside its path. In document 01's order a group stands before those inside it, so the nodes on the way from
-- a group to the root stand before it, where its step goes on.
-- Assumes nothing.
use Rattle.std.specs.Prelude.{◌≡◌, Bool, cond, ◌⊎◌, ltb, length, get_or, drop}
use Rattle.std.proofs.Math.Path.{refl, sym}
use Rattle.std.proofs.Common.{ap, ◌∙◌, subst, inl, inr, arith, length-drop, drop_of_length-le, get_or-drop}
use Rattle.std.proofs.Math.Bool.{true, false}
use mathlib.Core.List.{List, [], ◌∷◌, map}
use Prim.Native.Nat.{ℕ, zero, suc, ◌+◌, ◌-◌, ◌≤◌, ◌<◌}
use Rattle.std.proofs.Math.Dec.{eqb}
use Rattle.std.proofs.Math.Seq.{drop-nil}
use borrow.Author.Tests.{eqb-true, ltb-false}
use Rattle.tandem.specs.Tandem.{no_flow}
use Rattle.curves.specs.Curve.{Shape, neutral, joined}
use Rattle.tandem.specs.declared.Server.{Server}
use Rattle.tandem.specs.declared.Flow.{Flow}
use Rattle.ground.proofs.OrderLaws.{le_or_lt}
use Rattle.tandem.proofs.TestLaws.{decide}
use Rattle.tree.specs.Plan.{Node, Top, alone, over, top_of, server_curve, piece_on, along, node_curve, node_of, head_of, tail_of, plan}
use Rattle.ground.specs.Each.{Each}
use Rattle.ground.proofs.EachLaws.{each_at, each_map}
use Rattle.tree.specs.Ordered.{Placed, After, Ordered}
use Rattle.tree.specs.Stands.{Contains}
use Rattle.tree.proofs.NodeLaws.{plan_from, curve_at, node_at}
use Rattle.keys.specs.Numbers.{first_digits}
use Rattle.keys.proofs.NumberLaws.{first_digits_grow}
use Rattle.keys.specs.State.{climb, whole, left_at}
use Rattle.keys.specs.Left.{row_curve, left_of}
use Rattle.keys.proofs.StateLaws.{left_next}
use Rattle.keys.specs.Afresh.{Visit, visits, follow, Pairs, Moved, LastMoved, AllMoved, path_of, OnWay, OnlyTheWay, SameIn}
use Rattle.keys.proofs.AfreshLaws.{moved_last}

-- the nodes behind the first k groups

drop_plan : (ss : List Server) (gs : List Flow) (k : ℕ) (es : List ℕ) → drop k (plan ss gs es) ≡ plan_from ss gs es k
unfolding plan
drop_plan ss gs zero es = refl
drop_plan ss [] (suc k) es = refl
drop_plan ss (g ∷ gs) (suc k) [] = drop_plan ss gs k [] ∙ ap (plan ss (drop k gs)) (drop-nil {A = ℕ} k)
drop_plan ss (g ∷ gs) (suc k) (e ∷ es) = drop_plan ss gs k es

-- are those of the point before, where these groups have the extras they had
pub nodes_kept : (ss : List Server) (gs : List Flow) (k : ℕ) (es ds : List ℕ) → drop k es ≡ drop k ds → drop k (plan ss gs es) ≡ drop k (plan ss gs ds)
nodes_kept ss gs k es ds h = drop_plan ss gs k es ∙ ap (plan ss (drop k gs)) h ∙ sym (drop_plan ss gs k ds)

drop_map : (f : ℕ → ℕ) (k : ℕ) (l : List ℕ) → drop k (map f l) ≡ map f (drop k l)
drop_map f zero l = refl
drop_map f (suc k) [] = refl
drop_map f (suc k) (x ∷ l) = drop_map f k l

-- so the search keeps the nodes behind the last group that has moved
pub step_keeps : (ss : List Server) (gs : List Flow) (step : ℕ → ℕ) (n m : ℕ) (v w : Visit) → LastMoved n m v w
    → drop m (plan ss gs (map step w.point)) ≡ drop m (plan ss gs (map step v.point))
step_keeps ss gs step n m v w h =
    nodes_kept ss gs m (map step w.point) (map step v.point)
    (drop_map step m w.point ∙ ap (map step) h.kept ∙ sym (drop_map step m v.point))

-- and what the search hands on to the first k groups is what those behind them leave of the row
pub follow_left : (M : ℕ) (w : Flow) (ss : List Server) (gs : List Flow) (step : ℕ → ℕ) (g k : ℕ) (done : List ℕ) → k + length done ≡ length gs
    → (follow (climb M w gs step g) k (whole ss) done).curve ≡ left_at ss gs k (map step done)
unfolding left_of
follow_left M w ss gs step g k [] h = ap (λ (l : List Flow). left_of (row_curve ss) l []) (sym (drop_of_length-le gs {i = k} (omega arith)))
follow_left M w ss gs step g k (d ∷ done) h =
    rw (follow_left M w ss gs step g (suc k) done (omega arith)) (sym (left_next ss gs k (step d) (map step done) (omega arith)))

after_at : (gs : List Flow) → Ordered gs → (k i : ℕ) → k < i → i < length gs → After (get_or gs k no_flow) (get_or gs i no_flow)
after_at [] o k i h p = absurd (omega arith)
after_at (g ∷ gs) o k zero h p = absurd (omega arith)
after_at (g ∷ gs) o zero (suc i) h p = each_at (After g) gs no_flow o.0 i (omega arith)
after_at (g ∷ gs) o (suc k) (suc i) h p = after_at gs o.1 k i (omega arith) (omega arith)

-- a group whose path contains another's stands before it: so all nodes on the way from group k to the root are among those before k
pub way_before : (n : ℕ) (gs : List Flow) → Ordered gs → Each (Placed n) gs → (i k : ℕ) → i < length gs → k < length gs
    → Contains (path_of (get_or gs i no_flow)) (path_of (get_or gs k no_flow)) → (path_of (get_or gs i no_flow) ≡ path_of (get_or gs k no_flow) → ⊥) → i < k
way_before n gs o p i k a b c d = by (le_or_lt k i)
  where
    G : Flow
    G = get_or gs i no_flow

    H : Flow
    H = get_or gs k no_flow

    apart : (H.last < G.first) ⊎ (G.last ≤ H.last) → H.first ≤ G.first → ⊥
    apart (inl x) y = omega (arith, c.first, (each_at (Placed n) gs no_flow p k b).onward)
    apart (inr x) y =
        let f : G.first ≡ H.first = omega (arith, c.first) in
        let l : G.last ≡ H.last = omega (arith, c.last) in
        d (rw (f, l))

    by : (k ≤ i) ⊎ (i < k) → i < k
    by (inr x) = x
    by (inl x) = absurd (same (le_or_lt i k))
      where
        same : (i ≤ k) ⊎ (k < i) → ⊥
        same (inl y) = let e : i ≡ k = omega arith in d (ap (λ (j : ℕ). path_of (get_or gs j no_flow)) e)
        same (inr y) = let t = after_at gs o k i y a in apart t.nested t.onward

moved_before : (n m : ℕ) (v w : Visit) → LastMoved n m v w → (k : ℕ) → Moved v w k → k < m
moved_before n m v w h k f = by (le_or_lt m k)
  where
    by : (m ≤ k) ⊎ (k < m) → k < m
    by (inr x) = x
    by (inl x) =
        let j = k - m in
        let z : m + j ≡ k = omega arith in
        absurd (f (ap (λ (i : ℕ). get_or w.point i 0) (sym z)
        ∙ sym (get_or-drop m w.point j 0)
        ∙ ap (λ (l : List ℕ). get_or l j 0) h.kept
        ∙ get_or-drop m v.point j 0
        ∙ ap (λ (i : ℕ). get_or v.point i 0) z))

-- so from any point to a later one every way from a moved group to the root lies within the first m groups, where group m is the last that has moved
pub way_within : (n : ℕ) (gs : List Flow) → Ordered gs → Each (Placed n) gs → (m : ℕ) (v w : Visit) → LastMoved (length gs) m v w
    → (k : ℕ) → k < length gs → Moved v w k → (i : ℕ) → i < length gs → OnWay gs k i → i < m
way_within n gs o p m v w h k b f i a = by (moved_before (length gs) m v w h k f)
  where
    by : k < m → OnWay gs k i → i < m
    by q (inl e) = omega arith
    by q (inr e) = omega (arith, way_before n gs o p i k a b e.0 e.1)

-- a step works out afresh the node of a group just where that stands on the way from a moved group to the root
pub afresh_is_way : (n : ℕ) (gs : List Flow) → Ordered gs → Each (Placed n) gs → (v w : Visit) → AllMoved (length gs) v w → OnlyTheWay gs v w
afresh_is_way n gs o p v w h =
    record { only = λ i a l. (i, a, h.all i l, inl refl); all = λ i a s. way_within n gs o p w.afresh v w h.last s.0 s.1 s.2 i a s.3 }

pairs_map : {A : Type 0} (P Q : A → A → Type 0) → ((x y : A) → P x y → Q x y) → (l : List A) → Pairs P l → Pairs Q l
pairs_map P Q f [] h = tt
pairs_map P Q f (x ∷ []) h = (tt, tt)
pairs_map P Q f (x ∷ y ∷ l) h = (f x y h.0, pairs_map P Q f (y ∷ l) h.1)

-- THE LAW: so does every step of the walk over the points of a row in order, with the digits that the search takes and no point passed over
pub search_afresh : (n : ℕ) (gs : List Flow) → Ordered gs → Each (Placed n) gs → (step : ℕ → ℕ) (g : ℕ)
    → Pairs (OnlyTheWay gs) (visits (first_digits step g) (length gs))
search_afresh n gs o p step g =
    pairs_map (AllMoved (length gs)) (OnlyTheWay gs) (λ v w h. afresh_is_way n gs o p v w h) (visits (first_digits step g) (length gs))
    (moved_last (first_digits step g) (length gs) (first_digits_grow step g))

-- a node in which no group has moved

module _ (ss : List Server) where
  -- what begins at server j does not end before it
  abbrev Ahead : Top → ℕ → Type 0
  Ahead alone j = Unit {0}
  Ahead (over c l) j = j ≤ l

  along_agree : (n : ℕ) (t s : ℕ → Top) → ((i : ℕ) → Ahead (t i) i) → (c : Shape) (j e : ℕ) → ((i : ℕ) → j ≤ i → i ≤ e → t i ≡ s i)
      → along ss t n c j e ≡ along ss s n c j e
  unfolding along
  along_agree zero t s a c j e h = refl
  along_agree (suc n) t s a c j e h = go (decide (ltb e j)) (along_agree n t s a)
    where
      go : (ltb e j ≡ true) ⊎ (ltb e j ≡ false)
          → ((c : Shape) (j e : ℕ) → ((i : ℕ) → j ≤ i → i ≤ e → t i ≡ s i) → along ss t n c j e ≡ along ss s n c j e)
          → piece_on ss (ltb e j) (t j) c j (λ c' j'. along ss t n c' j' e) ≡ piece_on ss (ltb e j) (s j) c j (λ c' j'. along ss s n c' j' e)
      go (inl x) r = rw x
      go (inr x) r = rw (x, sym (h j (omega arith) (ltb-false e j x))) (piece (t j) (a j))
        where
          piece : (y : Top) → Ahead y j → piece_on ss false y c j (λ c' j'. along ss t n c' j' e) ≡ piece_on ss false y c j (λ c' j'. along ss s n c' j' e)
          piece alone b = r (joined c (server_curve ss j)) (suc j) e (λ i u v. h i (omega arith) v)
          piece (over d l) b = r (joined c d) (suc l) e (λ i u v. h i (omega arith) v)

  tops_ahead : (gs : List Flow) → Each (Placed (length ss)) gs → (ns : List Node) (j : ℕ) → Ahead (top_of gs ns j) j
  unfolding top_of
  tops_ahead [] p ns j = tt
  tops_ahead (g ∷ gs) p [] j = tt
  tops_ahead (g ∷ gs) p (n ∷ ns) j = go (eqb g.first j) refl (tops_ahead gs p.1 ns j)
    where
      go : (b : Bool) → eqb g.first j ≡ b → Ahead (top_of gs ns j) j → Ahead (cond b (over n.left g.last) (top_of gs ns j)) j
      go true x r = omega (arith, eqb-true g.first j x, p.0.onward)
      go false x r = r

  same_narrow : (es ds : List ℕ) (gs : List Flow) (i l a b : ℕ) → i ≤ a → b ≤ l → SameIn es ds gs i l → SameIn es ds gs a b
  same_narrow es ds [] i l a b x y h = tt
  same_narrow es ds (g ∷ gs) i l a b x y h = (λ u v. h.0 (omega arith) (omega arith), same_narrow (tail_of es) (tail_of ds) gs i l a b x y h.1)

  -- a group that begins at servers i to l ends by l
  abbrev Closed : List Flow → ℕ → ℕ → Type 0
  Closed gs i l = Each (λ g. i ≤ g.first → g.first ≤ l → g.last ≤ l) gs

  after_closed : (g : Flow) (gs : List Flow) → Each (After g) gs → Closed gs g.first g.last
  after_closed g gs a = each_map (After g) (λ h. g.first ≤ h.first → h.first ≤ g.last → h.last ≤ g.last) gs (λ h x u v. inside h x.nested v) a
    where
      inside : (h : Flow) → (g.last < h.first) ⊎ (h.last ≤ g.last) → h.first ≤ g.last → h.last ≤ g.last
      inside h (inl x) v = absurd (omega arith)
      inside h (inr x) v = x

  tops_agree : (gs : List Flow) → Ordered gs → Each (Placed (length ss)) gs → (es ds : List ℕ) (i l : ℕ) → SameIn es ds gs i l → Closed gs i l
      → (j : ℕ) → i ≤ j → j ≤ l → top_of gs (plan ss gs es) j ≡ top_of gs (plan ss gs ds) j
  unfolding top_of plan node_of node_curve
  tops_agree [] o p es ds i l s c j x y = refl
  tops_agree (g ∷ gs) o p es ds i l s c j x y = go (eqb g.first j) refl (tops_agree gs o.1 p.1 (tail_of es) (tail_of ds))
    where
      E : ℕ → Top
      E = top_of gs (plan ss gs (tail_of es))

      D : ℕ → Top
      D = top_of gs (plan ss gs (tail_of ds))

      go : (b : Bool) → eqb g.first j ≡ b
          → ((i l : ℕ) → SameIn (tail_of es) (tail_of ds) gs i l → Closed gs i l → (j : ℕ) → i ≤ j → j ≤ l → E j ≡ D j)
          → cond b (over (node_of (along ss E (length ss) neutral g.first g.last) g (head_of es)).left g.last) (E j)
          ≡ cond b (over (node_of (along ss D (length ss) neutral g.first g.last) g (head_of ds)).left g.last) (D j)
      go true z r =
          let q = eqb-true g.first j z in
          let n = c.0 (omega arith) (omega arith) in
          let u = r g.first g.last (same_narrow (tail_of es) (tail_of ds) gs i l g.first g.last (omega arith) n s.1) (after_closed g gs o.0) in
          let v = along_agree (length ss) E D (tops_ahead gs p.1 (plan ss gs (tail_of es))) neutral g.first g.last u in
          rw (s.0 (omega arith) (omega arith), v)
      go false z r = r i l s.1 c.1 j x y

  -- the curve of a flow's path over the groups behind it depends only on the extras of those inside the path
  pub node_kept : (g : Flow) (gs : List Flow) → Each (After g) gs → Ordered gs → Each (Placed (length ss)) gs → (es ds : List ℕ)
      → SameIn es ds gs g.first g.last → node_curve ss g gs (plan ss gs es) ≡ node_curve ss g gs (plan ss gs ds)
  unfolding node_curve
  node_kept g gs a o p es ds s =
      along_agree (length ss) (top_of gs (plan ss gs es)) (top_of gs (plan ss gs ds)) (tops_ahead gs p (plan ss gs es)) neutral g.first g.last
      (tops_agree gs o p es ds g.first g.last s (after_closed g gs a))

-- by the places of the groups

parts_behind : (n : ℕ) (gs : List Flow) (k : ℕ) → k < length gs → Ordered gs → Each (Placed n) gs
    → Each (After (get_or gs k no_flow)) (drop (suc k) gs) × Ordered (drop (suc k) gs) × Each (Placed n) (drop (suc k) gs)
parts_behind n [] k h o p = absurd (omega arith)
parts_behind n (g ∷ gs) zero h o p = (o.0, o.1, p.1)
parts_behind n (g ∷ gs) (suc k) h o p = parts_behind n gs k (omega arith) o.1 p.1

head_at : (es : List ℕ) → head_of es ≡ get_or es 0 0
head_at [] = refl
head_at (e ∷ es) = refl

tail_at : (es : List ℕ) (j : ℕ) → get_or (tail_of es) j 0 ≡ get_or es (suc j) 0
tail_at [] j = refl
tail_at (e ∷ es) j = refl

same_by : (gs : List Flow) (es ds : List ℕ) (i l : ℕ)
    → ((j : ℕ) → j < length gs → i ≤ (get_or gs j no_flow).first → (get_or gs j no_flow).first ≤ l → get_or es j 0 ≡ get_or ds j 0) → SameIn es ds gs i l
same_by [] es ds i l h = tt
same_by (g ∷ gs) es ds i l h = (
  (λ u v. head_at es ∙ h 0 (omega arith) u v ∙ sym (head_at ds)),
  same_by gs (tail_of es) (tail_of ds) i l (λ j p u v. tail_at es j ∙ h (suc j) (omega arith) u v ∙ sym (tail_at ds j)),
)

-- two points at which every group inside the path of group k has one extra
module _ (ss : List Server) (gs : List Flow) (o : Ordered gs) (p : Each (Placed (length ss)) gs) (k : ℕ) (there : k < length gs) (es ds : List ℕ)
    (same : (j : ℕ) → k < j → j < length gs → Contains (path_of (get_or gs k no_flow)) (path_of (get_or gs j no_flow)) → get_or es j 0 ≡ get_or ds j 0)
  where
    abbrev G : Flow
    G = get_or gs k no_flow

    same_inside : (i : ℕ) → k < i → i < length gs → (get_or gs i no_flow).first ≤ G.last → get_or es i 0 ≡ get_or ds i 0
    same_inside i h q v = let a = after_at gs o k i h q in same i h q (record { first = a.onward; last = ends a.nested })
      where
        ends : (G.last < (get_or gs i no_flow).first) ⊎ ((get_or gs i no_flow).last ≤ G.last) → (get_or gs i no_flow).last ≤ G.last
        ends (inl x) = absurd (omega arith)
        ends (inr x) = x

    same_behind : SameIn (drop (suc k) es) (drop (suc k) ds) (drop (suc k) gs) G.first G.last
    same_behind =
        same_by (drop (suc k) gs) (drop (suc k) es) (drop (suc k) ds) G.first G.last (λ j q u v.
        let i = suc k + j in
        let f = get_or-drop (suc k) gs j no_flow in
        get_or-drop (suc k) es j 0
        ∙ same_inside i (omega arith) (omega (arith, length-drop (suc k) gs)) (subst (λ (g : Flow). g.first ≤ G.last) f v)
        ∙ sym (get_or-drop (suc k) ds j 0))

    -- its node has one curve at both
    pub curve_kept : curve_at ss gs es k ≡ curve_at ss gs ds k
    curve_kept =
        let r = parts_behind (length ss) gs k there o p in
        node_kept ss G (drop (suc k) gs) r.0 r.1 r.2 (drop (suc k) es) (drop (suc k) ds) same_behind

    -- and where the group itself has not moved either, it is one node
    pub unmoved_kept : get_or es k 0 ≡ get_or ds k 0 → node_at ss gs es k ≡ node_at ss gs ds k
    unmoved_kept e = ap (λ (c : Shape). node_of c G (get_or es k 0)) curve_kept ∙ ap (node_of (curve_at ss gs ds k) G) e
