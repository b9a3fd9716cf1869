-- There is only one first point with the least delay, and one answer.
-- Assumes nothing.
use Rattle.std.specs.Prelude.{◌≡◌, ◌<◌, ◌≤◌, ℕ, length}
use Rattle.std.proofs.Common.{sym, ap, ◌∙◌, subst, arith}
use mathlib.Core.List.{List, ◌∷◌, ◌++◌}
use Rattle.tree.specs.Grid.{Answer}
use Rattle.ground.specs.Each.{Each}
use Rattle.ground.proofs.EachLaws.{each_in}
use Rattle.tree.specs.Searched.{First}
use Rattle.tree.proofs.GridLaws.{same_place, first_least, first_stands}

module _ (at : List ℕ → Answer) (points : List (List ℕ)) where
  -- so there is only one such point, and one answer
  pub first_point : (a b : Answer) (f : First at points a) (h : First at points b) → f.point ≡ h.point
  first_point a b f h =
      let x = ap (λ (r : Answer). r.delay) f.there in
      let y = ap (λ (r : Answer). r.delay) h.there in
      let u = each_in (λ p. a.delay ≤ (at p).delay) h.before h.point h.behind
      (subst (Each (λ p. a.delay ≤ (at p).delay)) h.split (first_least at points a f)) in
      let v = each_in (λ p. b.delay ≤ (at p).delay) f.before f.point f.behind
      (subst (Each (λ p. b.delay ≤ (at p).delay)) f.split (first_least at points b h)) in
      let n = first_stands at points a f h.before h.point h.behind h.split (omega (arith, x, y, u, v)) in
      let m = first_stands at points b h f.before f.point f.behind f.split (omega (arith, x, y, u, v)) in
      same_place f.before f.point f.behind h.before h.point h.behind (sym f.split ∙ h.split) (omega (arith, n, m))

  pub first_unique : (a b : Answer) → First at points a → First at points b → a ≡ b
  first_unique a b f h = f.there ∙ ap at (first_point a b f h) ∙ sym h.there
