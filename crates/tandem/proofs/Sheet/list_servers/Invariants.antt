-- The first j servers are listed.
-- Assumes nothing.
use Rattle.std.proofs.Common.{◌≡◌, ℕ, ◌<◌, get_or}
use Rattle.tandem.specs.Tandem.{no_server}
use Rattle.tandem.specs.OfSheet.{server_of}
use Rattle.tandem.proofs.Sheet.list_servers.Given as goal

abbrev pub invariant-loop-j : goal.invariant-loop-j
invariant-loop-j l = (k : ℕ) → k < l.j → get_or l.server-items k no_server ≡ server_of l.self.numbers.now k
