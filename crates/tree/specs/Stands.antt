-- Which groups and servers stand in a stretch, and what document 01 says of them: parents, and the pieces of a node.
-- Assumes nothing.
use Rattle.std.specs.Prelude.{ℕ, ◌+◌, ◌≤◌, ◌<◌, ◌≡◌, Bool, true, false, ◌||◌, ◌⊎◌, eqb, length}
use Rattle.tandem.specs.Sums.{weigh}
use Rattle.tandem.specs.Tandem.{Tandem, Path, size, flow, on}
use Rattle.row.specs.Groups.{path}
use Rattle.tree.specs.Stretch.{Stretch, none, then_server, then_group, span}

-- group k, with path g and stretch q, stands in the stretch, at any depth
unfoldable pub In : ℕ → Path → Stretch → Stretch → Type 0
In k g q none = ⊥
In k g q (then_server p j) = In k g q p
In k g q (then_group p k' g' q') = (In k g q p ⊎ In k g q q') ⊎ ((k ≡ k') × (g ≡ g') × (q ≡ q'))

-- group k stands in it directly: it is one of its pieces
unfoldable pub Child : ℕ → Path → Stretch → Stretch → Type 0
Child k g q none = ⊥
Child k g q (then_server p j) = Child k g q p
Child k g q (then_group p k' g' q') = Child k g q p ⊎ ((k ≡ k') × (g ≡ g') × (q ≡ q'))

-- server j stands in it directly
unfoldable pub Alone : ℕ → Stretch → Type 0
Alone j none = ⊥
Alone j (then_server p j') = Alone j p ⊎ (j ≡ j')
Alone j (then_group p k g q) = Alone j p

-- some group with number k stands in it
unfoldable pub numbered : Stretch → ℕ → Bool
numbered none k = false
numbered (then_server p j) k = numbered p k
numbered (then_group p k' g q) k = (numbered p k || numbered q k) || eqb k' k

-- how often a group with number k stands in it
unfoldable pub times : Stretch → ℕ → ℕ
times none k = 0
times (then_server p j) k = times p k
times (then_group p k' g q) k = times p k + (weigh (eqb k' k) 1 + times q k)

-- path h contains path g
pub record Contains (h g : Path) : Type 0 where
  pub first : h.first ≤ g.first
  pub last : g.last ≤ h.last

-- "A group's parent is the smallest group whose path contains its own": path h is another that contains g, and every cross flow whose path
-- contains g is on g itself or contains h
pub record Parent (row : Tandem) (h g : Path) : Type 0 where
  pub around : Contains h g
  pub other : h ≡ g → ⊥
  pub smallest : (f : ℕ) → 0 < f → f < length row.flows → Contains (path (flow row f).first (flow row f).last) g
      → (on row g f ≡ true) ⊎ Contains (path (flow row f).first (flow row f).last) h

-- "else the root": every cross flow whose path contains g is on g itself
pub record Outermost (row : Tandem) (g : Path) : Type 0 where
  pub around : (1 ≤ g.first) × (g.last ≤ size row)
  pub lone : (f : ℕ) → 0 < f → f < length row.flows → Contains (path (flow row f).first (flow row f).last) g → on row g f ≡ true

-- the pieces of a node with first server i and stretch p: each of its servers stands alone where no child crosses it, and else in one child
pub record Pieces (i : ℕ) (p : Stretch) : Type 0 where
  pub covered : (j : ℕ) → i ≤ j → j < i + span p → Alone j p ⊎ ((k : ℕ) × (g : Path) × (q : Stretch) × Child k g q p × (g.first ≤ j) × (j ≤ g.last))
  pub apart : (j k : ℕ) (g : Path) (q : Stretch) → Alone j p → Child k g q p → (j < g.first) ⊎ (g.last < j)
