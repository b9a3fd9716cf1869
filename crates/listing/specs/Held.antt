-- The same text from what the code holds of a verdict: its record `Analysed` has the watched flow before the groups and fills its lists up.
-- Assumes nothing.
use Rattle.std.specs.Prelude.{ℕ, zero, suc, List, [], ◌∷◌, ◌++◌, Result, Ok, Err, length, drop}
use Rattle.text.specs.declared.Refused.{Refused}
use Rattle.text.specs.Lines.{refusal_line}
use Rattle.fields.specs.declared.Refusal.{Refusal}
use Rattle.fields.specs.Refusal.{refusal}
use Rattle.tandem.specs.declared.Flow.{Flow}
use Rattle.tree.specs.Plan.{head_of, tail_of}
use Rattle.analysis.specs.declared.Analysed.{Analysed}
use Rattle.listing.specs.Text.{group_line, figure_lines}

-- the lines of the first n of these groups and waits
unfoldable pub lines_of : ℕ → List Flow → List ℕ → List ℕ
lines_of zero groups waits = []
lines_of (suc n) [] waits = []
lines_of (suc n) (g ∷ groups) waits = group_line g.first g.last (head_of waits) ++ lines_of n groups (tail_of waits)

-- the lines of a record's groups: the watched flow, which stands first, has none
abbrev pub groups_held : Analysed → List ℕ
groups_held a = lines_of a.count (drop 1 a.groups) a.waits

abbrev pub listing_held : Analysed → List ℕ
listing_held a = figure_lines a.bound a.start a.grid (groups_held a)

-- by what the analysis says
abbrev pub text_held : Result Analysed Refusal → List ℕ
text_held (Ok a) = listing_held a
text_held (Err r) = refusal_line (refusal r.why) r.at

abbrev pub printed_where : Result Analysed Refusal → ℕ → Result ℕ Refused
printed_where (Ok a) n = Ok n
printed_where (Err r) n = Err (record { length = n })

abbrev pub printed_held : Result Analysed Refusal → Result ℕ Refused
printed_held a = printed_where a (length (text_held a))
