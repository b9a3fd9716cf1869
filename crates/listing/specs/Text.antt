-- The report's text (document 01, "Figures to hold it to"): "bound and start in slots; the grid used; then each group's first and last server
-- and its wait in slots", or "A refusal prints one line: number, detail". Words are in ASCII codes, and each line ends with one line end.
-- Assumes nothing.
use Rattle.std.specs.Prelude.{ℕ, List, [], ◌∷◌, ◌++◌, Result, Ok, Err, length}
use Rattle.text.specs.declared.Refused.{Refused}
use Rattle.text.specs.Lines.{field, line, refusal_line}
use Rattle.fields.specs.Refusal.{refusal}
use Rattle.tandem.specs.Tandem.{Path}
use Rattle.tree.specs.Plan.{head_of, tail_of}
use Rattle.analysis.specs.Verdict.{Verdict, refused, bounded}

-- "bound "
abbrev pub bound_word : List ℕ
bound_word = 98 ∷ 111 ∷ 117 ∷ 110 ∷ 100 ∷ 32 ∷ []

-- "start "
abbrev pub start_word : List ℕ
start_word = 115 ∷ 116 ∷ 97 ∷ 114 ∷ 116 ∷ 32 ∷ []

-- "grid "
abbrev pub grid_word : List ℕ
grid_word = 103 ∷ 114 ∷ 105 ∷ 100 ∷ 32 ∷ []

-- "group "
abbrev pub group_word : List ℕ
group_word = 103 ∷ 114 ∷ 111 ∷ 117 ∷ 112 ∷ 32 ∷ []

-- " "
abbrev pub blank : List ℕ
blank = 32 ∷ []

-- " wait "
abbrev pub wait_word : List ℕ
wait_word = 32 ∷ 119 ∷ 97 ∷ 105 ∷ 116 ∷ 32 ∷ []

-- `group FIRST LAST wait W`
unfoldable pub group_line : ℕ → ℕ → ℕ → List ℕ
group_line first last wait = field group_word first ++ (field blank last ++ line wait_word wait)

-- the lines of the groups in their order, each with its own wait
unfoldable pub group_lines : List Path → List ℕ → List ℕ
group_lines [] waits = []
group_lines (g ∷ gs) waits = group_line g.first g.last (head_of waits) ++ group_lines gs (tail_of waits)

-- `bound B`, `start S`, `grid G`, and then other lines
unfoldable pub figure_lines : ℕ → ℕ → ℕ → List ℕ → List ℕ
figure_lines bound start grid others = line bound_word bound ++ (line start_word start ++ (line grid_word grid ++ others))

-- the report of a verdict
unfoldable pub report_of : Verdict → List ℕ
report_of (refused w d) = refusal_line (refusal w) d
report_of (bounded l) = figure_lines l.bound l.start l.grid (group_lines l.paths l.waits)

-- what there is to print of it: the listing is an answer
unfoldable pub printed_of : Verdict → Result ℕ Refused
printed_of (refused w d) = Err (record { length = length (report_of (refused w d)) })
printed_of (bounded l) = Ok (length (report_of (bounded l)))

-- every report has room on a page of so many bytes
abbrev pub page_most : ℕ
page_most = 2560
