-- No server before server j + 1 is crowded, so the lowest that is stands behind them.
-- Assumes nothing.
use Rattle.std.proofs.Common.{◌≡◌, ◌+◌, ◌-◌}
use Rattle.tandem.specs.Tandem.{size}
use Rattle.tandem.specs.Crowded.{lowest_crowded}
use Rattle.tandem.specs.OfSheet.{tandem_of}
use Rattle.tandem.proofs.Sheet.lowest_crowded.Given as goal

abbrev pub invariant-loop-j : goal.invariant-loop-j
invariant-loop-j l =
    let row = tandem_of l.self.numbers.now in lowest_crowded row (l.j + 1) (l.n - l.j) ≡ lowest_crowded row 1 (size row)
