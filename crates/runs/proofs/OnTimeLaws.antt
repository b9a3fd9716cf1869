-- DEMAND 3: on an accepted row, in every run that keeps the premises, each byte of the watched flow is out of the last server within the bound. It
-- holds at every point of the grid, so it holds for the best.
-- Assumes nothing.
use Rattle.std.specs.Prelude.{◌≡◌, refl, Bool, true, false, cond, eqb, ltb, replicate}
use Rattle.std.proofs.Common.{sym, ◌∙◌, arith}
use Rattle.std.proofs.Math.Path.{ap, subst}
use mathlib.Core.List.{List, [], ◌∷◌}
use Prim.Native.Nat.{ℕ, suc, ◌+◌, ◌-◌, ◌≤◌, ◌<◌}
use Rattle.std.proofs.Math.ListN.{length}
use Rattle.sheet.specs.Valid.{mode}
use Rattle.curves.specs.Curve.{Rates}
use Rattle.curves.proofs.StageLaws.{rates_weaken}
use Rattle.tandem.specs.Sums.{weigh}
use Rattle.tandem.specs.Tandem.{Tandem, size, flow, watched, rates}
use Rattle.row.specs.Groups.{groups}
use Rattle.tandem.specs.Sound.{Sound}
use Rattle.row.specs.Accepted.{Accepted}
use Rattle.tree.specs.Stretch.{Stretch, span, curve}
use Rattle.tree.specs.Fits.{Fits}
use Rattle.tree.specs.Tree.{tree}
use Rattle.tree.specs.Grid.{Answer, better, best_of, found_of, steps_of, points_of}
use Rattle.tree.specs.Bound.{bound, extra_of, answer_at, searched}
use Rattle.tandem.proofs.SumLaws.{total_at}
use Rattle.tree.proofs.StretchLaws.{curve_rates}
use Rattle.tree.proofs.NestedLaws.{tree_fits}
use Rattle.runs.specs.Lines.{keep, by, Prefix}
use Rattle.runs.specs.Run.{Run, Keeps, of_flow}
use Rattle.runs.specs.Demand.{OnTime, Within}
use Rattle.runs.specs.Served.{past, come, gone, Good}
use Rattle.runs.proofs.LinesLaws.{prefix_keep, prefix_both, by_prefix, keep_length_mono}
use Rattle.runs.proofs.RunLaws.{bucketed_after}
use Rattle.runs.proofs.LeftoverLaws.{deadline}
use Rattle.runs.proofs.GoodLaws.{good}
use Rattle.runs.proofs.WithinLaws.{within_out}

pub watched_rate_lem : (row : Tandem) → 0 < length row.flows → (flow row 0).rate ≤ rates row watched
unfolding rates watched
watched_rate_lem row h =
    let k : weigh (eqb 0 0) (flow row 0).rate ≤ rates row watched = total_at (length row.flows) 0 (λ f. weigh (eqb 0 f) (flow row f).rate) h in
    k

module _ (row : Tandem) (sound : Sound row) {B : Type 0} (run : Run B) (H : ℕ) (keeps : Keeps row run H) (extra : ℕ → ℕ) (p : Stretch)
    (fits : Fits row watched 1 p) (full : span p ≡ size row) where
  moves : 0 < (flow row 0).rate
  moves = sound.moves 0 sound.some

  pub claim : Good run H watched 1 (span p) (curve row extra p)
  claim = good row run H keeps extra sound.room watched 1 p (omega arith) (omega (arith, moves, watched_rate_lem row sound.some)) fits

  pub room_for : Rates (rates row watched) (curve row extra p).stages
  room_for = curve_rates row extra sound.room watched 1 p (omega arith) fits

  -- the watched bytes that came by t are the first of those that are gone by t + bound
  front : (t : ℕ) → t + bound row extra p ≤ H → Prefix (come run watched 1 t) (gone run watched 1 (span p) (t + bound row extra p))
  unfolding bound come watched
  front t h =
      prefix_both (prefix_keep (λ b. watched (run.of b)) (by_prefix (run.join 1) t (t + bound row extra p) (omega arith)))
      (claim.lines (t + bound row extra p) h)
      (deadline H (curve row extra p) (flow row 0).burst (flow row 0).rate (λ a. length (come run watched 1 a)) (λ a. length (gone run watched 1 (span p) a))
      (keep_length_mono (λ b. watched (run.of b)) (run.join 1))
      (bucketed_after H (of_flow run 0) (run.join 1) (flow row 0).burst (flow row 0).rate (rw sound.enters at (keeps.buckets 0 sound.some)))
      (rates_weaken 1 (rates row watched) (curve row extra p).stages (omega (arith, moves, watched_rate_lem row sound.some)) room_for)
      (rates_weaken (flow row 0).rate (rates row watched) (curve row extra p).stages (watched_rate_lem row sound.some) room_for)
      claim.serves t h)

  pub past_all : past run 1 (span p) ≡ run.leave (size row)
  unfolding past
  past_all =
      let e : size row ≡ suc (size row - 1) = omega (arith, sound.long) in
      ap (past run 1) (full ∙ e) ∙ ap run.leave (omega (arith, sound.long))

  -- a stretch that fits the row and spans it
  pub stretch_in_order : Within run H 1 (size row) (bound row extra p)
  unfolding come gone watched
  stretch_in_order t h =
      subst (λ (g : ℕ → List B). Prefix (keep (of_flow run 0) (by (run.join 1) t)) (keep (of_flow run 0) (by g (t + bound row extra p)))) past_all (front t h)

-- at every point of the grid, and for any extras at all: byte for byte, in order
pub on_time_in_order : (row : Tandem) → Accepted row → (extra : ℕ → ℕ) → {B : Type 0} (run : Run B) (H : ℕ) → Keeps row run H
    → Within run H 1 (size row) (bound row extra (tree row))
on_time_in_order row ok extra run H keeps = stretch_in_order row ok.sound run H keeps extra (tree row) (tree_fits row ok).0 (tree_fits row ok).1

-- and so each byte is out
pub on_time : (row : Tandem) → Accepted row → (extra : ℕ → ℕ) → {B : Type 0} (run : Run B) (H : ℕ) → Keeps row run H
    → OnTime row run H (bound row extra (tree row))
on_time row ok extra run H keeps = within_out run H 1 (size row) (bound row extra (tree row)) (on_time_in_order row ok extra run H keeps)

-- the best answer stands at some point

best_at : (at : List ℕ → Answer) (a : Answer) (es : List ℕ) → a ≡ at es → (ps : List (List ℕ)) → (fs : List ℕ) × (best_of at a ps ≡ at fs)
unfolding better
best_at at a es h [] = (es, h)
best_at at a es h (p ∷ ps) = go (ltb (at p).delay a.delay) (λ b fs e. best_at at b fs e ps)
  where
    go : (b : Bool) → ((a : Answer) (es : List ℕ) → a ≡ at es → (fs : List ℕ) × (best_of at a ps ≡ at fs))
        → (fs : List ℕ) × (best_of at (cond b (at p) a) ps ≡ at fs)
    go true r = r (at p) p refl
    go false r = r a es h

pub searched_at : (row : Tandem) (mode g : ℕ) → (es : List ℕ) × ((searched row mode g).best ≡ answer_at row es)
unfolding searched found_of
searched_at row mode g = go (eqb mode 0)
  where
    n : ℕ
    n = length (groups row)

    first : Answer
    first = answer_at row (replicate n 0)

    go : (b : Bool) → (es : List ℕ) × (cond b (best_of (answer_at row) first (points_of (steps_of first.delay g) n)) first ≡ answer_at row es)
    go true = best_at (answer_at row) first (replicate n 0) refl (points_of (steps_of first.delay g) n)
    go false = (replicate n 0, refl)

-- in both modes and on every grid
pub searched_in_order : (row : Tandem) → Accepted row → (mode g : ℕ) → {B : Type 0} (run : Run B) (H : ℕ) → Keeps row run H
    → Within run H 1 (size row) (searched row mode g).best.delay
unfolding answer_at
searched_in_order row ok mode g run H keeps =
    let x = searched_at row mode g in
    let e : bound row (extra_of x.0) (tree row) ≡ (searched row mode g).best.delay = ap (λ (a : Answer). a.delay) (sym x.1) in
    subst (λ (d : ℕ). Within run H 1 (size row) d) e (on_time_in_order row ok (extra_of x.0) run H keeps)

pub on_time_searched : (row : Tandem) → Accepted row → (mode g : ℕ) → {B : Type 0} (run : Run B) (H : ℕ) → Keeps row run H
    → OnTime row run H (searched row mode g).best.delay
on_time_searched row ok mode g run H keeps =
    within_out run H 1 (size row) (searched row mode g).best.delay (searched_in_order row ok mode g run H keeps)
