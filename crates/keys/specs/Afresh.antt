-- What a step of the search works out afresh (document 02, wish 4: "Work out afresh only the nodes on the way from the moved groups to the
-- root"). The walk is that of `keys_under` (Choose.antt): the groups are chosen from the last to the first, so each node toward the root is
-- worked out of what those behind it leave, and a step of a group goes on from there.
-- Assumes nothing.
use Rattle.std.specs.Prelude.{◌≡◌, ◌⊎◌, List, [], ◌∷◌, ◌++◌, ℕ, zero, suc, ◌*◌, ◌-◌, ◌≤◌, ◌<◌, max, length, get_or, drop}
use Rattle.tandem.specs.Tandem.{Path, no_flow}
use Rattle.row.specs.Groups.{path}
use Rattle.tandem.specs.declared.Flow.{Flow}
use Rattle.tree.specs.Plan.{head_of, tail_of}
use Rattle.tree.specs.Stands.{Contains}
use Rattle.keys.specs.Choose.{Climb}

-- a point that the search meets, as the digits of its groups, the first group's first; the nodes that are worked out afresh for it are those
-- of the groups `afresh`, `afresh` − 1, .., 1, counted from 1, and the root
pub record Visit : Type 0 where
  pub point : List ℕ
  pub afresh : ℕ

abbrev pub visit : List ℕ → ℕ → Visit
visit point afresh = record { point = point; afresh = afresh }

-- the branches of the digits in turn: the first goes on with m, each later one begins with n
abbrev pub in_turn : (ℕ → ℕ → List Visit) → ℕ → ℕ → List ℕ → List Visit
in_turn go m n [] = []
in_turn go m n (d ∷ ds) = go d m ++ in_turn go n n ds

-- the visits below a state, k groups from it, behind which the groups have the digits `done`; a step of group m has led to it. The first digit
-- belongs to that way down, each later one is a step of group k itself. None is left out here; passing over leaves visits out.
abbrev pub visits_from : List ℕ → ℕ → List ℕ → ℕ → List Visit
visits_from ds zero done m = visit done m ∷ []
visits_from ds (suc k) done m = in_turn (λ d i. visits_from ds k (d ∷ done) i) m (suc k) ds

-- all visits of n groups: for the first point every node is worked out
abbrev pub visits : List ℕ → ℕ → List Visit
visits ds n = visits_from ds n [] n

-- the state after the groups behind the first k have got the digits `done`, the last group first
abbrev pub follow : {S : Type 0} → Climb S → ℕ → S → List ℕ → S
follow c k s [] = s
follow c k s (d ∷ done) = c.next k (follow c (suc k) s done) d

-- how many nodes beside the root the search of n groups works out: one for each branch, and those below it
abbrev pub branches : List ℕ → ℕ → ℕ
branches ds zero = 0
branches ds (suc k) = length ds * suc (branches ds k)

-- P of the first of a list, if there is one
abbrev pub Front : {A : Type 0} → (A → Type 0) → List A → Type 0
Front P [] = Unit {0}
Front P (x ∷ l) = P x

-- P of each two that stand side by side
abbrev pub Pairs : {A : Type 0} → (A → A → Type 0) → List A → Type 0
Pairs P [] = Unit {0}
Pairs P (x ∷ l) = Front (P x) l × Pairs P l

-- from v to w the group at place i, counted from 0, has moved
abbrev pub Moved : Visit → Visit → ℕ → Type 0
Moved v w i = get_or w.point i 0 ≡ get_or v.point i 0 → ⊥

-- from v to w group m of n, counted from 1, is the last that has moved: it has a later digit, and the groups behind it have the digits they had
pub record LastMoved (n m : ℕ) (v w : Visit) : Type 0 where
  pub group : (1 ≤ m) × (m ≤ n)
  pub later : get_or v.point (m - 1) 0 < get_or w.point (m - 1) 0
  pub kept : drop m w.point ≡ drop m v.point

-- from v to w the groups up to w.afresh have moved, all of these and no others
pub record AllMoved (n : ℕ) (v w : Visit) : Type 0 where
  pub last : LastMoved n w.afresh v w
  pub all : (i : ℕ) → i < w.afresh → Moved v w i

-- the greatest `afresh` of a list of visits
abbrev pub most_of : List Visit → ℕ
most_of [] = 0
most_of (v ∷ l) = max v.afresh (most_of l)

-- the path of a flow
abbrev pub path_of : Flow → Path
path_of g = path g.first g.last

-- the group at place i stands on the way from the group at place k to the root: it is that group, or its path is another that contains that group's
abbrev pub OnWay : List Flow → ℕ → ℕ → Type 0
OnWay gs k i =
    (i ≡ k) ⊎ (Contains (path_of (get_or gs i no_flow)) (path_of (get_or gs k no_flow)) × (path_of (get_or gs i no_flow) ≡ path_of (get_or gs k no_flow) → ⊥))

-- it stands on the way from some group that has moved from v to w
abbrev pub OnSomeWay : List Flow → Visit → Visit → ℕ → Type 0
OnSomeWay gs v w i = (k : ℕ) × (k < length gs) × Moved v w k × OnWay gs k i

-- "Work out afresh only the nodes on the way from the moved groups to the root": for w after v just these are worked out
pub record OnlyTheWay (gs : List Flow) (v w : Visit) : Type 0 where
  pub only : (i : ℕ) → i < length gs → i < w.afresh → OnSomeWay gs v w i
  pub all : (i : ℕ) → i < length gs → OnSomeWay gs v w i → i < w.afresh

-- the groups gs that begin at servers i to l have one extra in es and in ds: none of them has moved
abbrev pub SameIn : List ℕ → List ℕ → List Flow → ℕ → ℕ → Type 0
SameIn es ds [] i l = Unit {0}
SameIn es ds (g ∷ gs) i l = (i ≤ g.first → g.first ≤ l → head_of es ≡ head_of ds) × SameIn (tail_of es) (tail_of ds) gs i l
