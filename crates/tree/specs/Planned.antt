-- What the nodes that a program works out (Plan.antt) answer at a point, and the nodes that the tree (Tree.antt) has there.
-- Assumes nothing.
use Rattle.std.specs.Prelude.{ℕ, suc, List, [], ◌∷◌, map, get_or}
use Rattle.curves.specs.Curve.{delay}
use Rattle.tandem.specs.declared.Server.{Server}
use Rattle.tandem.specs.declared.Flow.{Flow}
use Rattle.tandem.specs.Tandem.{Tandem, Path, flow, no_flow}
use Rattle.row.specs.Groups.{groups, grouped}
use Rattle.tree.specs.Plan.{Node, node_of, plan}
use Rattle.tree.specs.Grid.{Answer}
use Rattle.tree.specs.Stretch.{curve}
use Rattle.tree.specs.Tree.{inside, top, tree}
use Rattle.tree.specs.Bound.{extra_of}

-- the waits of nodes, in their order
abbrev pub waits_of : List Node → List ℕ
waits_of ns = map (λ (n : Node). n.wait) ns

-- of nodes whose first is the root: the delay of the watched flow's bucket over the root's curve, and the waits of the others
abbrev pub answer_in : Flow → List Node → Answer
answer_in w [] = record { delay = 0; waits = [] }
answer_in w (n ∷ ns) = record { delay = delay n.curve w.burst w.rate; waits = waits_of ns }

-- the answer at the point es, of the watched flow and the groups behind it: the extras of the groups in order; the watched flow has none
unfoldable pub answer_of : List Server → List Flow → List ℕ → Answer
answer_of ss gs es = answer_in (get_or gs 0 no_flow) (plan ss gs (0 ∷ es))

-- the nodes of the groups gs, numbered from k on: each has the curve of its stretch in the tree
unfoldable pub nodes_of : Tandem → (ℕ → ℕ) → ℕ → List Path → List Node
nodes_of row extra k [] = []
nodes_of row extra k (g ∷ gs) = node_of (curve row extra (inside row (top row (suc k) gs) g)) (grouped row g) (extra k) ∷ nodes_of row extra (suc k) gs

-- all nodes of the tree at a point, the root first
unfoldable pub tree_nodes : Tandem → List ℕ → List Node
tree_nodes row es = node_of (curve row (extra_of es) (tree row)) (flow row 0) 0 ∷ nodes_of row (extra_of es) 0 (groups row)
