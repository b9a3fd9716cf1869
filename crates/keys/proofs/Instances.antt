-- The hypotheses of the laws can be met: steps of P8's groups, of which the third is inside the second, with two digits each.
-- Assumes nothing.
use Rattle.std.specs.Prelude.{◌≡◌, refl, List, [], ◌∷◌, ℕ, zero, suc, ◌<◌, get_or}
use Rattle.std.proofs.Common.{ap, inl, inr, arith}
use Rattle.tandem.specs.Tandem.{Path, no_flow}
use Rattle.tandem.specs.declared.Server.{Server}
use Rattle.tandem.specs.declared.Flow.{Flow}
use Rattle.tree.proofs.Instances.{srv, flowed}
use Rattle.ground.specs.Each.{Each}
use Rattle.tree.specs.Ordered.{Placed, Ordered}
use Rattle.tree.specs.Stands.{Contains}
use Rattle.tree.proofs.NodeLaws.{curve_at}
use Rattle.keys.specs.Numbers.{Growing}
use Rattle.keys.specs.Afresh.{visit, LastMoved, AllMoved, path_of, OnWay, OnSomeWay, OnlyTheWay}
use Rattle.keys.proofs.AfreshLaws.{moved_last, moved_since}
use Rattle.keys.proofs.NodeKeptLaws.{search_afresh, curve_kept}

abbrev servers8 : List Server
servers8 = srv 10 1 ∷ srv 10 1 ∷ srv 10 1 ∷ []

abbrev groups8 : List Flow
groups8 = flowed 1 1 4 2 ∷ flowed 2 3 4 2 ∷ flowed 3 3 4 2 ∷ []

ordered8 : Ordered groups8
ordered8 = (
  (record { onward = omega arith; nested = inl (omega arith) }, (record { onward = omega arith; nested = inl (omega arith) }, tt)),
  ((record { onward = omega arith; nested = inr (omega arith) }, tt), (tt, tt)),
)

placed8 : Each (Placed 3) groups8
placed8 = (
  record { enters = omega arith; onward = omega arith; leaves = omega arith },
  (
    record { enters = omega arith; onward = omega arith; leaves = omega arith },
    (record { enters = omega arith; onward = omega arith; leaves = omega arith }, tt),
  ),
)

grow8 : Growing (0 ∷ 1 ∷ [])
grow8 = ((omega arith, tt), (tt, tt))

-- the second step is one of the second group, and moves the first too
pub moved8 : AllMoved 3 (visit (1 ∷ 0 ∷ 0 ∷ []) 1) (visit (0 ∷ 1 ∷ 0 ∷ []) 2)
moved8 = (moved_last (0 ∷ 1 ∷ []) 3 grow8).1.0

-- 0 and 1 are the digits that the search takes where their steps differ: just the nodes on the way are worked out
pub way_of8 : OnlyTheWay groups8 (visit (1 ∷ 0 ∷ 0 ∷ []) 1) (visit (0 ∷ 1 ∷ 0 ∷ []) 2)
way_of8 = (search_afresh 3 groups8 ordered8 placed8 (λ d. d) 2).1.0

-- the third group stands on no way from these to the root, and its node is not worked out again
pub unmoved8 : OnSomeWay groups8 (visit (1 ∷ 0 ∷ 0 ∷ []) 1) (visit (0 ∷ 1 ∷ 0 ∷ []) 2) 2 → ⊥
unmoved8 s = let l = way_of8.all 2 (omega arith) s in omega (arith, l)

-- the second stands on the way from the third
pub way8 : OnWay groups8 2 1
way8 = inr (record { first = omega arith; last = omega arith }, λ e. let z = ap (λ (p : Path). p.first) e in omega (arith, z))

-- with the second and the third visit passed over, from the first to the fourth the second group is the last that has moved
pub since8 : LastMoved 3 2 (visit (0 ∷ 0 ∷ 0 ∷ []) 3) (visit (1 ∷ 1 ∷ 0 ∷ []) 1)
since8 =
    moved_since (0 ∷ 1 ∷ []) 3 grow8 [] (visit (0 ∷ 0 ∷ 0 ∷ []) 3) (visit (1 ∷ 0 ∷ 0 ∷ []) 1 ∷ visit (0 ∷ 1 ∷ 0 ∷ []) 2 ∷ []) (visit (1 ∷ 1 ∷ 0 ∷ []) 1)
    (visit (0 ∷ 0 ∷ 1 ∷ []) 3 ∷ visit (1 ∷ 0 ∷ 1 ∷ []) 1 ∷ visit (0 ∷ 1 ∷ 1 ∷ []) 2 ∷ visit (1 ∷ 1 ∷ 1 ∷ []) 1 ∷ []) refl

-- the first group's curve is the same whatever the others' extras are
pub kept8 : (e f : ℕ) → curve_at servers8 groups8 (0 ∷ e ∷ f ∷ []) 0 ≡ curve_at servers8 groups8 (0 ∷ 0 ∷ 0 ∷ []) 0
kept8 e f = curve_kept servers8 groups8 ordered8 placed8 0 (omega arith) (0 ∷ e ∷ f ∷ []) (0 ∷ 0 ∷ 0 ∷ []) same
  where
    same : (j : ℕ) → 0 < j → j < 3 → Contains (path_of (flowed 1 1 4 2)) (path_of (get_or groups8 j no_flow)) → get_or (0 ∷ e ∷ f ∷ []) j 0 ≡ get_or (0 ∷ 0 ∷ 0 ∷ []) j 0
    same zero h k c = absurd (omega arith)
    same (suc zero) h k c = absurd (omega (arith, c.last))
    same (suc (suc zero)) h k c = absurd (omega (arith, c.last))
    same (suc (suc (suc j))) h k c = absurd (omega arith)

-- where a point is passed over, a node may be worked out again that stands on no way from a moved group: with (1, 0, 0) passed over, (0, 1, 0) comes
-- behind (0, 0, 0), and group 1 is taken out again
pub again8 : OnlyTheWay groups8 (visit (0 ∷ 0 ∷ 0 ∷ []) 3) (visit (0 ∷ 1 ∷ 0 ∷ []) 2) → ⊥
again8 o = by (o.only 0 (omega arith) (omega arith))
  where
    by : OnSomeWay groups8 (visit (0 ∷ 0 ∷ 0 ∷ []) 3) (visit (0 ∷ 1 ∷ 0 ∷ []) 2) 0 → ⊥
    by (zero, h, m, w) = m refl
    by (suc zero, h, m, inl e) = omega (arith, e)
    by (suc zero, h, m, inr c) = omega (arith, c.0.last)
    by (suc (suc zero), h, m, w) = m refl
    by (suc (suc (suc k)), h, m, w) = omega (arith, h)
