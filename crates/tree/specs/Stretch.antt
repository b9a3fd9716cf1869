-- A stretch of a row: servers and the paths of groups in series, each path a stretch of its own; and its curve (document 01, "Groups,
-- tree and grid"). The nesting tree is such a stretch: see Tree.antt.
-- Assumes nothing.
use Rattle.std.specs.Prelude.{ℕ, suc, ◌+◌}
use Rattle.curves.specs.Curve.{Shape, neutral, joined, least_wait, remainder}
use Rattle.curves.specs.Curve.{server as serverShape}
use Rattle.tandem.specs.Tandem.{Tandem, Path, server, on, bursts, rates}

-- nothing; a stretch and then server j; a stretch and then group k with its path, which is a stretch of its own
pub data Stretch : Type 0 where
  none : Stretch
  then_server : Stretch → ℕ → Stretch
  then_group : Stretch → ℕ → Path → Stretch → Stretch

-- how many servers it has
unfoldable pub span : Stretch → ℕ
span none = 0
span (then_server p j) = suc (span p)
span (then_group p k g q) = span p + span q

-- the wait of the group with path g whose node's curve is c: "Each group's wait is its h, worked out after all groups inside it, plus an extra e."
unfoldable pub group_wait : Tandem → Path → Shape → ℕ → ℕ
group_wait row g c e = least_wait c (bursts row (on row g)) + e

-- a node's curve "after that child's group has been taken out"
unfoldable pub after_group : Tandem → Path → Shape → ℕ → Shape
after_group row g c e = remainder c (bursts row (on row g)) (rates row (on row g)) (group_wait row g c e)

-- "A node's curve joins the servers of its path that no child crosses, and each child's curve after that child's group has been taken
-- out." Group k's extra is `extra k`.
unfoldable pub curve : Tandem → (ℕ → ℕ) → Stretch → Shape
curve row extra none = neutral
curve row extra (then_server p j) = joined (curve row extra p) (serverShape (server row j).rate (server row j).latency)
curve row extra (then_group p k g q) = joined (curve row extra p) (after_group row g (curve row extra q) (extra k))
