-- The nodes as a program works them out are those of document 01's tree: the root's curve is the tree's, and the waits are the groups'.
-- Assumes nothing.
use Rattle.std.specs.Prelude.{◌≡◌, Bool, cond, ltb, eqb, length}
use Rattle.std.proofs.Math.Path.{refl, ap}
use Rattle.std.proofs.Common.{◌∙◌, arith}
use Rattle.std.proofs.Math.Bool.{true, false}
use mathlib.Core.List.{List, [], ◌∷◌, map}
use Prim.Native.Nat.{ℕ, zero, suc, ◌+◌}
use Rattle.curves.specs.Curve.{Shape, neutral}
use Rattle.curves.specs.Curve.{server as serverShape}
use Rattle.curves.proofs.JoinLaws.{joined_length}
use Rattle.curves.proofs.RemainderLaws.{remainder_length}
use Rattle.tandem.specs.declared.Flow.{Flow}
use Rattle.tandem.specs.Tandem.{Tandem, Path, size, server, flow, on, bursts, rates}
use Rattle.row.specs.Groups.{path, groups, grouped, reads}
use Rattle.tree.specs.Plan.{Top, alone, over, top_of, piece_on, along, node_curve, node_of, head_of, tail_of, plan}
use Rattle.tree.specs.Stretch.{Stretch, none, then_server, then_group, span, group_wait, after_group, curve}
use Rattle.tree.specs.Tree.{Piece, single, whole, pick, one_more, stretch_from, inside, top, tree}
use Rattle.tree.specs.Bound.{bound, waits, extra_of, answer_at}
use Rattle.tree.specs.Planned.{waits_of, answer_of, nodes_of, tree_nodes}

-- the list es has the extras from group k on
abbrev pub Extras : (ℕ → ℕ) → ℕ → List ℕ → Type 0
Extras extra k es = (m : ℕ) → extra_of es m ≡ extra (k + m)

extras_head : (extra : ℕ → ℕ) (k : ℕ) (es : List ℕ) → Extras extra k es → head_of es ≡ extra k
extras_head extra k [] h = h 0 ∙ ap extra (omega arith)
extras_head extra k (e ∷ es) h = h 0 ∙ ap extra (omega arith)

extras_tail : (extra : ℕ → ℕ) (k : ℕ) (es : List ℕ) → Extras extra k es → Extras extra (suc k) (tail_of es)
extras_tail extra k [] h m = h (suc m) ∙ ap extra (omega arith)
extras_tail extra k (e ∷ es) h m = h (suc m) ∙ ap extra (omega arith)

pub extras_all : (es : List ℕ) → Extras (extra_of es) 0 es
extras_all es m = ap (extra_of es) (omega arith)

module _ (row : Tandem) (extra : ℕ → ℕ) where
  -- what a piece of the tree is for the program
  unfoldable shown : Piece → Top
  shown single = alone
  shown (whole k g q) = over (after_group row g (curve row extra q) (extra k)) g.last

  along_same : (n : ℕ) (t : ℕ → Piece) (s : ℕ → Top) → ((j : ℕ) → s j ≡ shown (t j)) → (p : Stretch) (j e : ℕ)
      → along row.servers s n (curve row extra p) j e ≡ curve row extra (stretch_from n t p j e)
  unfolding stretch_from along shown curve
  along_same zero t s h p j e = refl
  along_same (suc n) t s h p j e = rw (h j) (step (ltb e j) (t j) (along_same n t s h))
    where
      step : (b : Bool) (x : Piece)
          → ((p : Stretch) (j e : ℕ) → along row.servers s n (curve row extra p) j e ≡ curve row extra (stretch_from n t p j e))
          → piece_on row.servers b (shown x) (curve row extra p) j (λ c' j'. along row.servers s n c' j' e)
          ≡ curve row extra (one_more b x p j (λ p' j'. stretch_from n t p' j' e))
      step true x r = refl
      step false single r = r (then_server p j) (suc j) e
      step false (whole k g q) r = r (then_group p k g q) (suc g.last) e

  top_same : (gs : List Path) (k j : ℕ) → top_of (map (grouped row) gs) (nodes_of row extra k gs) j ≡ shown (top row k gs j)
  unfolding top_of nodes_of node_of top shown grouped after_group group_wait
  top_same [] k j = refl
  top_same (g ∷ gs) k j = step (eqb g.first j) (top_same gs (suc k) j)
    where
      q : Stretch
      q = inside row (top row (suc k) gs) g

      step : (b : Bool) → top_of (map (grouped row) gs) (nodes_of row extra (suc k) gs) j ≡ shown (top row (suc k) gs j)
          → cond b (over (after_group row g (curve row extra q) (extra k)) g.last) (top_of (map (grouped row) gs) (nodes_of row extra (suc k) gs) j)
          ≡ shown (pick b (whole k g q) (top row (suc k) gs j))
      step true r = refl
      step false r = r

  -- the curve of a flow's path, worked out from the nodes of the groups gs
  node_curve_same : (f : Flow) (gs : List Path) (k : ℕ)
      → node_curve row.servers f (map (grouped row) gs) (nodes_of row extra k gs) ≡ curve row extra (inside row (top row k gs) (path f.first f.last))
  unfolding node_curve curve
  node_curve_same f gs k = along_same (size row) (top row k gs) (top_of (map (grouped row) gs) (nodes_of row extra k gs)) (top_same gs k) none
      f.first f.last

  -- the nodes that the program works out of groups are the tree's
  plan_same : (gs : List Path) (k : ℕ) (es : List ℕ) → Extras extra k es → plan row.servers (map (grouped row) gs) es ≡ nodes_of row extra k gs
  unfolding plan nodes_of grouped
  plan_same [] k es h = refl
  plan_same (g ∷ gs) k es h =
      rw (plan_same gs (suc k) (tail_of es) (extras_tail extra k es h), extras_head extra k es h)
      (ap (λ (c : Shape). node_of c (grouped row g) (extra k) ∷ nodes_of row extra (suc k) gs) (node_curve_same (grouped row g) gs (suc k)))

  waits_same : (gs : List Path) (k : ℕ) → waits_of (nodes_of row extra k gs) ≡ waits row extra k gs
  unfolding nodes_of waits node_of grouped group_wait
  waits_same [] k = refl
  waits_same (g ∷ gs) k = ap (λ (l : List ℕ). group_wait row g (curve row extra (inside row (top row (suc k) gs) g)) (extra k) ∷ l) (waits_same gs (suc k))

  -- a stage for each server
  pub stage_count : (p : Stretch) → length (curve row extra p).stages ≡ span p
  unfolding curve span neutral serverShape after_group
  stage_count none = refl
  stage_count (then_server p j) =
      omega (arith, joined_length (curve row extra p) (serverShape (server row j).rate (server row j).latency), stage_count p)
  stage_count (then_group p k g q) =
      let c = after_group row g (curve row extra q) (extra k) in
      let r = remainder_length (curve row extra q) (bursts row (on row g)) (rates row (on row g)) (group_wait row g (curve row extra q) (extra k)) in
      omega (arith, joined_length (curve row extra p) c, r, stage_count p, stage_count q)

-- the main law: the program's nodes are the tree's, the root first
pub plan_is_tree : (row : Tandem) (es : List ℕ) → plan row.servers (reads row) (0 ∷ es) ≡ tree_nodes row es
unfolding plan reads tree_nodes tree
plan_is_tree row es =
    rw (plan_same row (extra_of es) (groups row) 0 es (extras_all es))
    (ap (λ (c : Shape). node_of c (flow row 0) 0 ∷ nodes_of row (extra_of es) 0 (groups row)) (node_curve_same row (extra_of es) (flow row 0) (groups row) 0))

-- and so they answer what the tree answers: the root's curve gives the delay, and the nodes behind it have the groups' waits
pub plan_answers : (row : Tandem) (es : List ℕ) → answer_of row.servers (reads row) es ≡ answer_at row es
unfolding answer_of reads tree_nodes answer_at bound node_of
plan_answers row es =
    rw (plan_is_tree row es)
    (ap (λ (l : List ℕ). record { delay = bound row (extra_of es) (tree row); waits = l }) (waits_same row (extra_of es) (groups row) 0))
