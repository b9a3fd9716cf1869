-- When a stretch is the row's: its servers stand in order, and each of its groups takes out just the flows of its path.
-- Assumes nothing.
use Rattle.std.specs.Prelude.{ℕ, suc, ◌+◌, ◌≤◌, ◌<◌, ◌≡◌, Bool, true, false, ◌||◌}
use Rattle.tandem.specs.Tandem.{Tandem, size, crosses, on}
use Rattle.tree.specs.Stretch.{Stretch, none, then_server, then_group, span}

-- the stretch is the row's from server i on, and P are the flows that cross the whole of it and are in no group inside it. A server
-- stands alone only where no other flow crosses it; a group's path is all of its stretch, and some flow has it.
unfoldable pub Fits : Tandem → (ℕ → Bool) → ℕ → Stretch → Type 0
Fits row P i none = Unit {0}
Fits row P i (then_server p j) = Fits row P i p × (j ≡ i + span p) × (j ≤ size row) × ((f : ℕ) → crosses row f j ≡ P f)
Fits row P i (then_group p k g q) =
    Fits row P i p × (0 < span q) × Fits row (λ f. P f || on row g f) (i + span p) q
    × ((f : ℕ) → P f ≡ true → on row g f ≡ false) × (g.first ≡ i + span p)
    × (suc g.last ≡ i + span p + span q) × ((w : ℕ) × (on row g w ≡ true))
