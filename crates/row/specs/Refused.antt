-- The refusal of a row that is unfit (document 01, "Refusals by number"): the details of 6, 7 and 8 are "0", "lowest such server", "number of groups".
-- Assumes nothing.
use Rattle.fields.specs.declared.Refusal.{Refusal}
use Rattle.fields.specs.declared.Why.TheVariants as why
use Rattle.fields.specs.Refusal.{refused}
use Rattle.row.specs.declared.Unfit.{Unfit}
use Rattle.row.specs.declared.Unfit.TheVariants.{Crossing, Crowded, Points}

abbrev pub refusal_for : Unfit → Refusal
refusal_for Crossing = refused why.Crossing 0
refusal_for (Crowded j) = refused why.Crowded j
refusal_for (Points n) = refused why.Points n
