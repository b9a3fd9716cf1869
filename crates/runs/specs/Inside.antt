-- How much of the watched flow is inside the row (document 02, Wish 1).
-- Assumes nothing.
use Rattle.std.specs.Prelude.{ℕ, ◌-◌, ◌≤◌, length}
use Rattle.tandem.specs.Tandem.{Tandem, size}
use Rattle.runs.specs.Lines.{keep}
use Rattle.runs.specs.Run.{Run, joined_by, left_by, of_flow}

-- the watched bytes inside the row at the end of slot t: those that have joined server 1 by then, less those that have left the last server by then.
-- These are the first of those (`inside_are` of InsideLaws.antt), so the others are inside.
abbrev pub inside_at : Tandem → {B : Type 0} → Run B → ℕ → ℕ
inside_at row run t = length (keep (of_flow run 0) (joined_by run 1 t)) - length (keep (of_flow run 0) (left_by run (size row) t))

-- "how much of the watched flow can be inside the row at the end of any slot": at most x bytes, in every slot of the record
abbrev pub Inside : Tandem → {B : Type 0} → Run B → ℕ → ℕ → Type 0
Inside row run H x = (t : ℕ) → t ≤ H → inside_at row run t ≤ x
