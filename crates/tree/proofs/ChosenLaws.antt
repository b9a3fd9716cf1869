-- The search of an accepted row chooses its answer as demand 2 says; and what demand 2 says leaves one start, one answer and one point, whose bound
-- is what the functions of slots make it.
-- Assumes nothing.
use Rattle.std.specs.Prelude.{ℕ, zero, suc, ◌≤◌, ◌≡◌, refl, List, length}
use Rattle.std.proofs.Common.{sym, ap, ◌∙◌, subst, arith}
use Rattle.curves.specs.Slots.{Covers, Least}
use Rattle.curves.proofs.SlotsLaws.{least_unique}
use Rattle.tandem.specs.Tandem.{Tandem, flow}
use Rattle.row.specs.Groups.{groups}
use Rattle.row.specs.Accepted.{Accepted}
use Rattle.tree.specs.Grid.{steps_of, points_of, Answer, found_of}
use Rattle.tree.specs.Searched.{First}
use Rattle.tree.specs.Tree.{tree}
use Rattle.tree.specs.Bound.{extra_of, answer_at, searched}
use Rattle.tree.specs.Meaning.{meaning}
use Rattle.tree.specs.Chosen.{Chosen, no_extras}
use Rattle.tree.proofs.MeaningLaws.{bound_is_least}
use Rattle.tree.proofs.GridLaws.{quick_is}
use Rattle.tree.proofs.FirstLaws.{first_point, first_unique}
use Rattle.tree.proofs.SearchLaws.{searched_first}

-- what stands at a point has the least delay that covers the watched flow's bucket
least_there : (row : Tandem) → Accepted row → (point : List ℕ) (best : Answer) → best ≡ answer_at row point
    → Least (Covers (meaning row (extra_of point) (tree row)) (flow row 0).burst (flow row 0).rate) best.delay
unfolding answer_at
least_there row ok point best e =
    subst (λ (d : ℕ). Least (Covers (meaning row (extra_of point) (tree row)) (flow row 0).burst (flow row 0).rate) d) (sym (ap (λ (a : Answer). a.delay) e))
    (bound_is_least row ok (extra_of point))

pub searched_chosen : (row : Tandem) → Accepted row → (mode g : ℕ) → mode ≤ 1 → 1 ≤ g
    → Chosen row mode g (searched row mode g).start (searched row mode g).best
unfolding searched found_of
searched_chosen row ok zero g m h =
    let f = searched_first row g h in
    record {
      point = f.point;
      there = f.there;
      begins = refl;
      searches = λ z. (f, refl);
      quick = λ z. absurd (omega arith);
      least = least_there row ok f.point _ f.there;
    }
searched_chosen row ok (suc mode) g m h =
    let q = quick_is (answer_at row) (length (groups row)) (suc mode) g (omega arith) in
    record {
      point = no_extras row;
      there = q;
      begins = refl;
      searches = λ z. absurd (omega arith);
      quick = λ z. refl;
      least = least_there row ok (no_extras row) _ q;
    }

-- demand 2 leaves one start, one bound and one list of waits
pub chosen_unique : (row : Tandem) (mode g start start' : ℕ) (best best' : Answer) → mode ≤ 1
    → Chosen row mode g start best → Chosen row mode g start' best' → (start ≡ start') × (best ≡ best')
chosen_unique row mode g start start' best best' m c d = (same, by mode refl m)
  where
    same : start ≡ start'
    same = c.begins ∙ sym d.begins

    Firsts : ℕ → Answer → Type 0
    Firsts s a = First (answer_at row) (points_of (steps_of s g) (length (groups row))) a

    by : (k : ℕ) → mode ≡ k → k ≤ 1 → best ≡ best'
    by zero z m =
        first_unique (answer_at row) (points_of (steps_of start g) (length (groups row))) best best' (c.searches z).0
        (subst (λ (s : ℕ). Firsts s best') (sym same) (d.searches z).0)
    by (suc zero) z m = c.there ∙ ap (answer_at row) (c.quick z ∙ sym (d.quick z)) ∙ sym d.there
    by (suc (suc k)) z m = absurd (omega arith)

-- and one point: what is said of the point is said of the first with the least delay
pub chosen_point : (row : Tandem) (mode g s t : ℕ) (a b : Answer) → mode ≤ 1 → (f : Chosen row mode g s a) (h : Chosen row mode g t b) → f.point ≡ h.point
chosen_point row zero g s t a b m f h =
    let e : s ≡ t = f.begins ∙ sym h.begins in
    let j = f.searches refl in
    let k = h.searches refl in
    let same =
    subst
    (λ (t : ℕ). (k : First (answer_at row) (points_of (steps_of t g) (length (groups row))) b) → j.0.point ≡ k.point) e
    (λ k. first_point (answer_at row) (points_of (steps_of s g) (length (groups row))) a b j.0 k) in
    sym j.1 ∙ same k.0 ∙ k.1
chosen_point row (suc mode) g s t a b m f h = let one : suc mode ≡ 1 = omega arith in f.quick one ∙ sym (h.quick one)

-- and the bound is the least number that covers the watched flow's bucket over what the nesting tree guarantees at the chosen point
pub chosen_least : (row : Tandem) (mode g start : ℕ) (best : Answer) → (c : Chosen row mode g start best)
    → (d : ℕ) → Least (Covers (meaning row (extra_of c.point) (tree row)) (flow row 0).burst (flow row 0).rate) d → best.delay ≡ d
chosen_least row mode g start best c d l =
    least_unique (Covers (meaning row (extra_of c.point) (tree row)) (flow row 0).burst (flow row 0).rate) best.delay d c.least l
