-- The search from the last group to the first, with both tests, finds what document 01's search gives. And where no step lies between 0 and v, and
-- start is at most the latencies and v, no point is better than the first: a point with an extra has at least v slots more than the latencies.
-- Assumes nothing.
use Rattle.std.specs.Prelude.{◌≡◌, refl, ◌⊎◌, ℕ, zero, suc, ◌+◌, ◌-◌, ◌*◌, ◌/◌, ◌%◌, ◌^◌, ◌≤◌, ◌<◌}
use Rattle.std.proofs.Math.Path.{ap}
use Rattle.std.proofs.Common.{◌∙◌, inl, inr, arith, length-append}
use mathlib.Core.List.{List, [], ◌∷◌, ◌++◌}
use Rattle.std.proofs.Math.ListN.{length, replicate}
use Rattle.curves.specs.Curve.{Shape, delay}
use Rattle.curves.proofs.DelayLaws.{delay_after_offset}
use Rattle.tandem.specs.declared.Server.{Server}
use Rattle.tandem.specs.declared.Flow.{Flow}
use Rattle.tandem.specs.OfSheet.{listed}
use Rattle.tree.specs.Grid.{Answer, points_from, points_of, steps_of, found_of}
use Rattle.ground.specs.Each.{Each}
use Rattle.ground.proofs.EachLaws.{each_append, each_map}
use Rattle.tree.proofs.GridLaws.{each_listed, best_stays, each_flat}
use Rattle.tree.specs.Amounts.{sum_of}
use Rattle.tree.proofs.PruneLaws.{latencies_of}
use Rattle.tree.specs.Planned.{answer_of}
use Rattle.tree.specs.Ordered.{Placed, Ordered}
use Rattle.keys.specs.Numbers.{point_at, Stand}
use Rattle.keys.proofs.NumberLaws.{found_chosen}
use Rattle.keys.specs.Keys.{least_of}
use Rattle.keys.specs.Left.{row_curve, lag_of, left_of}
use Rattle.keys.proofs.ServerLaws.{left_offset}
use Rattle.keys.proofs.LeftLaws.{answer_left}
use Rattle.keys.specs.State.{whole}
use Rattle.keys.proofs.StateLaws.{keys_over, keys_over_all}

-- the slots are at least those before and the extras
slots_past_extras : (c : Shape) (gs : List Flow) (es : List ℕ) → length es ≡ length gs → c.offset + sum_of es ≤ (left_of c gs es).offset
unfolding left_of sum_of
slots_past_extras c [] [] h = omega arith
slots_past_extras c [] (e ∷ es) h = absurd (omega arith)
slots_past_extras c (g ∷ gs) [] h = absurd (omega arith)
slots_past_extras c (g ∷ gs) (e ∷ es) h =
    let m = left_of c gs es in
    omega (arith, slots_past_extras c gs es (omega arith), left_offset m g (lag_of m g + e))

-- each point of a grid

points_each : (P : ℕ → Type 0) (l : List ℕ) → Each P l → (n : ℕ) (fixed : List ℕ) → Each P fixed
    → Each (λ es. (length es ≡ length fixed + n) × Each P es) (points_from l fixed n)
points_each P l h zero fixed k = ((omega arith, k), tt)
points_each P l h (suc n) fixed k =
    each_flat P (λ es. (length es ≡ length fixed + suc n) × Each P es) (λ (e : ℕ). points_from l (fixed ++ (e ∷ [])) n) l
    (λ e p. each_map (λ es. (length es ≡ length (fixed ++ (e ∷ [])) + n) × Each P es) (λ es. (length es ≡ length fixed + suc n) × Each P es)
    (points_from l (fixed ++ (e ∷ [])) n) (λ es q. (omega (arith, q.0, length-append fixed (e ∷ [])), q.1))
    (points_each P l h n (fixed ++ (e ∷ [])) (each_append P fixed (e ∷ []) k (p, tt))))
    h

-- extras that are 0 or at least v
zeros_or : (v : ℕ) (p : List ℕ) → Each (λ e. (e ≡ 0) ⊎ (v ≤ e)) p → (p ≡ replicate (length p) 0) ⊎ (v ≤ sum_of p)
unfolding sum_of
zeros_or v [] h = inl refl
zeros_or v (e ∷ p) h = go h.0 (zeros_or v p h.1)
  where
    go : (e ≡ 0) ⊎ (v ≤ e) → (p ≡ replicate (length p) 0) ⊎ (v ≤ sum_of p) → (e ∷ p ≡ replicate (length (e ∷ p)) 0) ⊎ (v ≤ e + sum_of p)
    go (inr x) y = inr (omega arith)
    go (inl x) (inr y) = inr (omega arith)
    go (inl x) (inl y) = inl (ap (λ (z : ℕ). z ∷ p) x ∙ ap (λ (l : List ℕ). 0 ∷ l) y)

module _ (ss : List Server) (w : Flow) (gs : List Flow) (g : ℕ) (some : 1 ≤ g) (o : Ordered (w ∷ gs)) (p : Each (Placed (length ss)) (w ∷ gs))
    (first : w.first ≡ 1) (last : w.last ≡ length ss)
  where
    abbrev at : List ℕ → Answer
    at es = answer_of ss (w ∷ gs) es

    abbrev n : ℕ
    n = length gs

    abbrev start : ℕ
    start = (at (replicate n 0)).delay

    abbrev step : ℕ → ℕ
    step d = d * start / (g - 1)

    -- the least key below the whole row gives document 01's answer: its remainder is the number of the answer's point, its quotient the delay
    pub found_by_least : (M : ℕ) (ds : List ℕ) (key : ℕ) → g ^ n ≤ M → Stand step g ds → key ≡ least_of (start * M) (keys_over M w gs step g ds n (whole ss))
        → ((found_of at n 0 g).best ≡ at (point_at step g n (key % M))) × ((found_of at n 0 g).best.delay ≡ key / M) × (key % M < g ^ n)
    found_by_least M ds key all stand e =
        found_chosen M at n g ds key some all stand (e ∙ ap (least_of (start * M)) (keys_over_all M w gs step g ds ss o p first last))

    delay_past_extras : (es : List ℕ) → length es ≡ n → sum_of (latencies_of ss) + sum_of es ≤ (at es).delay
    unfolding row_curve
    delay_past_extras es h =
        let c = left_of (row_curve ss) gs es in
        omega (arith, slots_past_extras (row_curve ss) gs es h, answer_left ss w gs es o p first last, delay_after_offset c w.burst w.rate)

    -- where no step lies between 0 and v, and start is at most the latencies and v, the first point is the answer
    pub found_first : (v : ℕ) → ((d : ℕ) → d < g → (step d ≡ 0) ⊎ (v ≤ step d)) → start ≤ sum_of (latencies_of ss) + v
        → (found_of at n 0 g).best ≡ at (replicate n 0)
    unfolding found_of points_of steps_of
    found_first v z h =
        best_stays at (at (replicate n 0)) (points_from (listed g step) [] n)
        (each_map (λ es. (length es ≡ 0 + n) × Each (λ e. (e ≡ 0) ⊎ (v ≤ e)) es) (λ es. start ≤ (at es).delay) (points_from (listed g step) [] n)
        (λ es q. one es (omega (arith, q.0)) (zeros_or v es q.1))
        (points_each (λ e. (e ≡ 0) ⊎ (v ≤ e)) (listed g step) (each_listed (λ e. (e ≡ 0) ⊎ (v ≤ e)) g step z) n [] tt))
      where
        one : (es : List ℕ) → length es ≡ n → (es ≡ replicate (length es) 0) ⊎ (v ≤ sum_of es) → start ≤ (at es).delay
        one es l (inl e) =
            let d : es ≡ replicate n 0 = e ∙ ap (λ (m : ℕ). replicate m 0) l in
            rw d (omega arith)
        one es l (inr e) = omega (arith, delay_past_extras es l, h)
