-- The nodes of the nesting tree as a program works them out: from the last group to the first, each from those behind it. The first of
-- the list is the watched flow, whose node is the root. PlanLaws.antt proves that these are document 01's tree.
-- Assumes nothing.
use Rattle.std.specs.Prelude.{ℕ, zero, suc, ◌+◌, ◌-◌, Bool, true, false, cond, List, [], ◌∷◌, ltb, eqb, length, get_or}
use Rattle.tandem.specs.Tandem.{no_server}
use Rattle.curves.specs.Curve.{Shape, server, neutral, joined, least_wait, remainder}
use Rattle.tandem.specs.declared.Server.{Server}
use Rattle.tandem.specs.declared.Flow.{Flow}

-- a node: the curve of its path, its group's wait, and what the group leaves of the curve
pub record Node : Type 0 where
  pub curve : Shape
  pub wait : ℕ
  pub left : Shape

-- what begins at a server: the server alone, or a group, with the curve that it leaves and its last server
pub data Top : Type 0 where
  alone : Top
  over : Shape → ℕ → Top

-- of the groups gs with their nodes, the first that begins at server j: the outermost
unfoldable pub top_of : List Flow → List Node → ℕ → Top
top_of [] ns j = alone
top_of (g ∷ gs) [] j = alone
top_of (g ∷ gs) (n ∷ ns) j = cond (eqb g.first j) (over n.left g.last) (top_of gs ns j)

-- the curve of server j, counted from 1
abbrev pub server_curve : List Server → ℕ → Shape
server_curve ss j = server (get_or ss (j - 1) no_server).rate (get_or ss (j - 1) no_server).latency

-- one piece more behind c, unless the end is passed; `next` goes on from a curve and the server after it
abbrev pub piece_on : List Server → Bool → Top → Shape → ℕ → (Shape → ℕ → Shape) → Shape
piece_on ss true t c j next = c
piece_on ss false alone c j next = next (joined c (server_curve ss j)) (suc j)
piece_on ss false (over d l) c j next = next (joined c d) (suc l)

-- the curve from server j to server e, joined to c piece by piece: the servers that no group crosses, and what each group leaves
unfoldable pub along : List Server → (ℕ → Top) → ℕ → Shape → ℕ → ℕ → Shape
along ss top zero c j e = c
along ss top (suc n) c j e = piece_on ss (ltb e j) (top j) c j (λ c' j'. along ss top n c' j' e)

-- the node of a group: "Each group's wait is its h, worked out after all groups inside it, plus an extra e."
unfoldable pub node_curve : List Server → Flow → List Flow → List Node → Shape
node_curve ss g gs ns = along ss (top_of gs ns) (length ss) neutral g.first g.last

unfoldable pub node_of : Shape → Flow → ℕ → Node
node_of c g e = record { curve = c; wait = least_wait c g.burst + e; left = remainder c g.burst g.rate (least_wait c g.burst + e) }

-- all nodes, with the extras of their groups; an extra that is missing is 0
abbrev pub head_of : List ℕ → ℕ
head_of [] = 0
head_of (e ∷ es) = e

abbrev pub tail_of : List ℕ → List ℕ
tail_of [] = []
tail_of (e ∷ es) = es

unfoldable pub plan : List Server → List Flow → List ℕ → List Node
plan ss [] es = []
plan ss (g ∷ gs) es = node_of (node_curve ss g gs (plan ss gs (tail_of es))) g (head_of es) ∷ plan ss gs (tail_of es)
