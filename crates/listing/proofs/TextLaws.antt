-- How long the report's lines are: a number takes at most twenty digits.
-- Assumes nothing.
use Rattle.std.specs.Prelude.{ℕ, ◌+◌, ◌*◌, ◌≤◌, ◌≡◌, List, [], ◌∷◌, length}
use Rattle.std.proofs.Common.{arith, length-append}
use Rattle.text.specs.Lines.{field, line}
use Rattle.text.proofs.LinesLaws.{field_short, line_short}
use Rattle.tandem.specs.Tandem.{Path}
use Rattle.tree.specs.Plan.{head_of, tail_of}
use Rattle.listing.specs.Text.{bound_word, start_word, grid_word, group_word, blank, wait_word, group_line, group_lines, figure_lines}

pub group_length : (first last wait : ℕ) → length (group_line first last wait) ≡ length (field group_word first)
    + (length (field blank last) + length (line wait_word wait))
unfolding group_line
group_length first last wait = rw (length-append, length-append)

pub figures_length : (bound start grid : ℕ) (others : List ℕ)
    → length (figure_lines bound start grid others) ≡ length (line bound_word bound)
    + (length (line start_word start) + (length (line grid_word grid) + length others))
unfolding figure_lines
figures_length bound start grid others = rw (length-append, length-append, length-append)

pub group_short : (first last wait : ℕ) → length (group_line first last wait) ≤ 74
group_short first last wait = omega (arith, group_length first last wait, field_short group_word first, field_short blank last, line_short wait_word wait)

pub groups_short : (gs : List Path) (waits : List ℕ) → length (group_lines gs waits) ≤ 74 * length gs
unfolding group_lines
groups_short [] waits = omega arith
groups_short (g ∷ gs) waits =
    omega (
      arith,
      length-append (group_line g.first g.last (head_of waits)) (group_lines gs (tail_of waits)),
      group_short g.first g.last (head_of waits),
      groups_short gs (tail_of waits),
    )

pub figures_short : (bound start grid : ℕ) (others : List ℕ) → length (figure_lines bound start grid others) ≤ 80 + length others
figures_short bound start grid others =
    omega (arith, figures_length bound start grid others, line_short bound_word bound, line_short start_word start, line_short grid_word grid)
