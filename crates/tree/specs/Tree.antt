-- The nesting tree of a row (document 01, "Groups, tree and grid"): "the root is the watched flow. A group's parent is the smallest group
-- whose path contains its own, else the root." The groups' order, first server and then longer path first, is the tree in preorder: what
-- is inside a group follows it directly. So at each server of a path stands the first group behind it in the order that begins there,
-- which is the longest, and the path goes on behind that group's last server; where none begins stands the server itself. ParentLaws.antt
-- proves that these are document 01's parents.
-- Assumes nothing.
use Rattle.std.specs.Prelude.{ℕ, zero, suc, Bool, true, false, List, [], ◌∷◌, ltb, eqb}
use Rattle.tandem.specs.Tandem.{Tandem, Path, size, flow}
use Rattle.row.specs.Groups.{path, groups}
use Rattle.tree.specs.Stretch.{Stretch, none, then_server, then_group}

-- what begins at a server: the server alone, or group k with path g, whose own stretch is the third
pub data Piece : Type 0 where
  single : Piece
  whole : ℕ → Path → Stretch → Piece

abbrev pub pick : Bool → Piece → Piece → Piece
pick true a b = a
pick false a b = b

-- one piece more, unless the end is passed; `next` goes on from a stretch and the server after it
abbrev pub one_more : Bool → Piece → Stretch → ℕ → (Stretch → ℕ → Stretch) → Stretch
one_more true x p j next = p
one_more false single p j next = next (then_server p j) (suc j)
one_more false (whole k g q) p j next = next (then_group p k g q) (suc g.last)

-- from server j to server e, piece by piece, behind p; n bounds the pieces
unfoldable pub stretch_from : ℕ → (ℕ → Piece) → Stretch → ℕ → ℕ → Stretch
stretch_from zero t p j e = p
stretch_from (suc n) t p j e = one_more (ltb e j) (t j) p j (λ p' j'. stretch_from n t p' j' e)

-- the stretch of a path, where t says what begins at each server
abbrev pub inside : Tandem → (ℕ → Piece) → Path → Stretch
inside row t g = stretch_from (size row) t none g.first g.last

-- of the groups gs, numbered from k on, the first that begins at server j; inside it stand those behind it
unfoldable pub top : Tandem → ℕ → List Path → ℕ → Piece
top row k [] j = single
top row k (g ∷ gs) j = pick (eqb g.first j) (whole k g (inside row (top row (suc k) gs) g)) (top row (suc k) gs j)

-- "the root is the watched flow"; groups are numbered from 0
unfoldable pub tree : Tandem → Stretch
tree row = inside row (top row 0 (groups row)) (path (flow row 0).first (flow row 0).last)
