-- The row of the servers and flows that `Nested` carries.
-- Assumes nothing.
use Rattle.tandem.specs.Tandem.{Tandem}
use Rattle.tandem.specs.Lent.{row_in}
use Rattle.row.specs.declared.Nested.{Nested}

abbrev pub held : Nested → Tandem
held parts = row_in parts.servers.now parts.flows.now
