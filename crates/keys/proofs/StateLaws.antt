-- The tests are sound: what they pass over has no smaller key than the best so far. (a) No delay is below the slots so far, and steps rise.
-- (b) Were a key below the best, its delay would lie in the slots that are left, and each server would have given what is wanted of it.
-- And the states that the search meets are those of the points of the grid.
-- Assumes nothing.
use Rattle.std.specs.Prelude.{◌≡◌, Bool, true, false, ◌&&◌, not, ◌⊎◌, leb, take}
use Rattle.std.proofs.Math.Path.{refl, ap, subst}
use Rattle.std.proofs.Common.{sym, ◌∙◌, true≢false, inl, inr, mul-le-mul_left, mul-le-mul_right, le-div_iff_mul-le, div-mul-le_self, arith, leb-false, length-drop, length-append, take-suc, drop-cons, get_or-take, get_or-drop}
use Rattle.std.proofs.lemmas.Bool.{false≢true}
use mathlib.Core.List.{List, [], ◌∷◌, ◌++◌}
use Prim.Native.Nat.{ℕ, zero, suc, ◌+◌, ◌-◌, ◌*◌, ◌/◌, ◌≤◌, ◌<◌}
use Rattle.std.proofs.Math.Nat.{div-zero}
use Rattle.std.proofs.Math.ListN.{length, get_or, drop, replicate, length-take, length-replicate, drop_of_length-le}
use Rattle.std.proofs.Math.Seq.{slice}
use Rattle.tandem.specs.Tandem.{no_flow}
use Rattle.curves.specs.declared.Stage.{Stage}
use Rattle.curves.specs.Curve.{Shape, line, after, delay, Rates}
use Rattle.curves.specs.Part.{changed}
use Rattle.curves.proofs.PartLaws.{changed_outside}
use Rattle.tandem.specs.Sums.{weigh}
use Rattle.tandem.specs.declared.Server.{Server}
use Rattle.tandem.specs.declared.Flow.{Flow}
use Rattle.ground.proofs.OrderLaws.{le_or_lt}
use Rattle.tree.specs.Plan.{head_of, tail_of}
use Rattle.tree.specs.Grid.{flat}
use Rattle.ground.specs.Each.{Each}
use Rattle.ground.proofs.EachLaws.{each_append, each_map}
use Rattle.tree.specs.Planned.{answer_of}
use Rattle.tree.specs.Ordered.{Placed, Ordered}
use Rattle.keys.specs.Numbers.{keys_below}
use Rattle.keys.specs.Choose.{keys_under}
use Rattle.keys.specs.Left.{row_curve, lag_of, left_by, left_of, stage_at, passes}
use Rattle.keys.proofs.ServerLaws.{left_offset, left_by_length, slots_le_delay, server_bound, passes_cases}
use Rattle.keys.proofs.LeftLaws.{rates_of, answer_left}
use Rattle.keys.specs.State.{State, state, chosen, climb, left_at, want_of, gives, rest_of, gives_beside, gives_under, Moving}
use Rattle.keys.proofs.UseLaws.{want_next}

-- the groups behind are taken out first
pub left_append : (c : Shape) (fs gs : List Flow) (es done : List ℕ) → length es ≡ length fs → left_of c (fs ++ gs) (es ++ done)
    ≡ left_of (left_of c gs done) fs es
unfolding left_of
left_append c [] gs [] done h = refl
left_append c [] gs (e ∷ es) done h = absurd (omega arith)
left_append c (f ∷ fs) gs [] done h = absurd (omega arith)
left_append c (f ∷ fs) gs (e ∷ es) done h = rw (left_append c fs gs es done (omega arith))

-- a step of a group takes that group alone out of what those behind it leave
pub left_next : (ss : List Server) (gs : List Flow) (k e : ℕ) (done : List ℕ) → k < length gs
    → left_at ss gs k (e ∷ done) ≡ left_by (left_at ss gs (suc k) done) (get_or gs k no_flow) (lag_of (left_at ss gs (suc k) done) (get_or gs k no_flow) + e)
unfolding left_of
left_next ss gs k e done h = rw (drop-cons gs k no_flow h)

-- rates are the same with all extras

rates_after : (σ ρ x a b : ℕ) (l : List Stage) → rates_of (changed (after σ ρ x) a b l) ≡ changed (λ r. r - ρ) a b (rates_of l)
rates_after σ ρ x a b [] = refl
rates_after σ ρ x zero zero (s ∷ l) = refl
rates_after σ ρ x zero (suc b) (s ∷ l) = ap (λ (m : List ℕ). (s.rate - ρ) ∷ m) (rates_after σ ρ x zero b l)
rates_after σ ρ x (suc a) zero (s ∷ l) = refl
rates_after σ ρ x (suc a) (suc b) (s ∷ l) = ap (λ (m : List ℕ). s.rate ∷ m) (rates_after σ ρ x a b l)

left_rates : (c : Shape) (gs : List Flow) (es fs : List ℕ) → rates_of (left_of c gs es).stages ≡ rates_of (left_of c gs fs).stages
unfolding left_of left_by
left_rates c [] es fs = refl
left_rates c (g ∷ gs) es fs =
    let m = left_of c gs (tail_of es) in
    let n = left_of c gs (tail_of fs) in
    rates_after g.burst g.rate (lag_of m g + head_of es) (g.first - 1) g.last m.stages
    ∙ ap (changed (λ r. r - g.rate) (g.first - 1) g.last) (left_rates c gs (tail_of es) (tail_of fs))
    ∙ sym (rates_after g.burst g.rate (lag_of n g + head_of fs) (g.first - 1) g.last n.stages)

rates_each : (l : List Stage) → Rates 1 l → Each (λ r. 1 ≤ r) (rates_of l)
rates_each [] h = tt
rates_each (s ∷ l) h = (h.0, rates_each l h.1)

each_rates : (l : List Stage) → Each (λ r. 1 ≤ r) (rates_of l) → Rates 1 l
each_rates [] h = tt
each_rates (s ∷ l) h = (h.0, each_rates l h.1)

pub rates_left : (c : Shape) (gs : List Flow) (es fs : List ℕ) → Rates 1 (left_of c gs es).stages → Rates 1 (left_of c gs fs).stages
rates_left c gs es fs h =
    each_rates (left_of c gs fs).stages (subst (Each (λ r. 1 ≤ r)) (left_rates c gs es fs) (rates_each (left_of c gs es).stages h))

-- steps rise

div_rises : (m x y : ℕ) → x ≤ y → x / m ≤ y / m
div_rises zero x y h = omega (arith, div-zero x)
div_rises (suc m) x y h =
    let z : 0 < suc m = omega arith in
    (le-div_iff_mul-le {k = suc m} {x = x / suc m} {y = y} z).1 (omega (arith, div-mul-le_self x (suc m)))

pub step_rises : (start g d e : ℕ) → d ≤ e → d * start / (g - 1) ≤ e * start / (g - 1)
step_rises start g d e h = div_rises (g - 1) (d * start) (e * start) (mul-le-mul_right start h)

-- a server that lacks
lacks : (wants : ℕ → ℕ) (rest j : ℕ) (l : List Stage) → gives wants rest j l ≡ false
    → (i : ℕ) × (i < length l) × (line rest (get_or l i (record { burst = 0; rate = 0 })) < wants (j + i))
unfolding gives
lacks wants rest j [] h = absurd (true≢false h)
lacks wants rest j (s ∷ l) h = by (leb (wants j) (line rest s)) refl h (lacks wants rest (suc j) l)
  where
    by : (t : Bool) → leb (wants j) (line rest s) ≡ t → (t && gives wants rest (suc j) l) ≡ false
        → (gives wants rest (suc j) l ≡ false → (i : ℕ) × (i < length l) × (line rest (get_or l i (record { burst = 0; rate = 0 })) < wants (suc j + i)))
        → (i : ℕ) × (i < length (s ∷ l)) × (line rest (get_or (s ∷ l) i (record { burst = 0; rate = 0 })) < wants (j + i))
    by true e h r =
        let x = r h in
        let y : suc j + x.0 ≡ j + suc x.0 = omega arith in
        (suc x.0, omega (arith, x.1), subst (λ (n : ℕ). line rest (get_or l x.0 (record { burst = 0; rate = 0 })) < wants n) y x.2)
    by false e h r =
        let y : j ≡ j + 0 = omega arith in
        (0, omega arith, subst (λ (n : ℕ). line rest s < wants n) y (leb-false (wants j) (line rest s) e))

-- a part of the servers
lacks_in : (wants : ℕ → ℕ) (rest a b : ℕ) (l : List Stage) → gives wants rest a (slice a b l) ≡ false
    → (j : ℕ) × (a ≤ j) × (j < b) × (j < length l) × (line rest (get_or l j (record { burst = 0; rate = 0 })) < wants j)
lacks_in wants rest a b l e =
    let z : Stage = record { burst = 0; rate = 0 } in
    let y = lacks wants rest a (slice a b l) e in
    let n = length-drop a (take b l) in
    let m = length-take b l in
    let i : a + y.0 < b = omega (arith, y.1, n, m) in
    let s : get_or (slice a b l) y.0 z ≡ get_or l (a + y.0) z = get_or-drop a (take b l) y.0 z ∙ get_or-take b l (a + y.0) z i in
    (a + y.0, omega arith, i, omega (arith, y.1, n, m), subst (λ (u : Stage). line rest u < wants (a + y.0)) s y.2)

and_false : (a b : Bool) → (a && b) ≡ false → (a ≡ false) ⊎ (b ≡ false)
and_false true b e = inr e
and_false false b e = inl refl

-- the servers beside a path
lacks_beside : (wants : ℕ → ℕ) (rest : ℕ) (f : Flow) (l : List Stage) → gives_beside wants rest f l ≡ false
    → (j : ℕ) × ((j < f.first - 1) ⊎ (f.last ≤ j)) × (j < length l) × (line rest (get_or l j (record { burst = 0; rate = 0 })) < wants j)
unfolding gives_beside
lacks_beside wants rest f l e = go (and_false (gives wants rest 0 (slice 0 (f.first - 1) l)) (gives wants rest f.last (slice f.last (length l) l)) e)
  where
    go : (gives wants rest 0 (slice 0 (f.first - 1) l) ≡ false) ⊎ (gives wants rest f.last (slice f.last (length l) l) ≡ false)
        → (j : ℕ) × ((j < f.first - 1) ⊎ (f.last ≤ j)) × (j < length l) × (line rest (get_or l j (record { burst = 0; rate = 0 })) < wants j)
    go (inl x) = let y = lacks_in wants rest 0 (f.first - 1) l x in (y.0, inl y.2, y.3, y.4)
    go (inr x) = let y = lacks_in wants rest f.last (length l) l x in (y.0, inr y.1, y.3, y.4)

-- a group wants nothing of a server beside its path
beside_none : (f : Flow) (j : ℕ) → (j < f.first - 1) ⊎ (f.last ≤ j) → weigh (passes f j) f.burst ≡ 0
beside_none f j o = go (passes_cases f j) o
  where
    go : ((passes f j ≡ true) × (f.first - 1 ≤ j) × (j < f.last)) ⊎ ((passes f j ≡ false) × ((j < f.first - 1) ⊎ (f.last ≤ j)))
        → (j < f.first - 1) ⊎ (f.last ≤ j) → weigh (passes f j) f.burst ≡ 0
    go (inl x) (inl y) = absurd (omega (arith, x.1, y))
    go (inl x) (inr y) = absurd (omega (arith, x.2, y))
    go (inr x) y = ap (λ (t : Bool). weigh t f.burst) x.0

pub not_true : (b : Bool) → not b ≡ true → b ≡ false
not_true true h = absurd (false≢true h)
not_true false h = refl

-- keys below a state

each_blocks : (P : ℕ → Type 0) (h : ℕ → List ℕ) → ((d : ℕ) → Each P (h d)) → (l : List ℕ) → Each P (flat h l)
each_blocks P h f [] = tt
each_blocks P h f (d ∷ l) = each_append P (h d) (flat h l) (f d) (each_blocks P h f l)

flat_same : (h k : ℕ → List ℕ) → ((d : ℕ) → h d ≡ k d) → (l : List ℕ) → flat h l ≡ flat k l
flat_same h k f [] = refl
flat_same h k f (d ∷ l) = rw (f d, flat_same h k f l)

module _ (M : ℕ) (w : Flow) (gs : List Flow) (step : ℕ → ℕ) (g : ℕ) (ds : List ℕ) where
  -- the keys of all points below a state
  abbrev pub keys_over : ℕ → State → List ℕ
  keys_over k s = keys_under (climb M w gs step g) ds k s

  -- each is that of some extras of the groups to come, with a number that is no less
  keys_of : (P : ℕ → Type 0) (k : ℕ) (s : State) → k ≤ length gs
      → ((es : List ℕ) (N : ℕ) → length es ≡ k → s.number ≤ N → P (delay (left_of s.curve (take k gs) es) w.burst w.rate * M + N))
      → Each P (keys_over k s)
  unfolding left_of
  keys_of P zero s h f = (f [] s.number refl (omega arith), tt)
  keys_of P (suc k) s h f = each_blocks P (λ (d : ℕ). keys_over k (next d)) (λ d. keys_of P k (next d) (omega arith) (each d)) ds
    where
      q : Flow
      q = get_or gs k no_flow

      next : ℕ → State
      next d = chosen step g q s d

      each : (d : ℕ) (es : List ℕ) (N : ℕ) → length es ≡ k → s.number + d * s.weight ≤ N
          → P (delay (left_of (next d).curve (take k gs) es) w.burst w.rate * M + N)
      each d es N e l =
          subst (λ (c : Shape). P (delay c w.burst w.rate * M + N))
          (ap (λ (l : List Flow). left_of s.curve l (es ++ (step d ∷ []))) (take-suc gs k no_flow (omega arith))
          ∙ left_append s.curve (take k gs) (q ∷ []) es (step d ∷ []) (omega (arith, length-take k gs)))
          (f (es ++ (step d ∷ [])) N (omega (arith, length-append es (step d ∷ []))) (omega arith))

  -- (a) none is below the slots so far, with the number
  pub keys_past_slots : (k : ℕ) (s : State) → k ≤ length gs → Each (λ x. s.curve.offset * M + s.number ≤ x) (keys_over k s)
  keys_past_slots k s h = keys_of (λ x. s.curve.offset * M + s.number ≤ x) k s h each
    where
      each : (es : List ℕ) (N : ℕ) → length es ≡ k → s.number ≤ N
          → s.curve.offset * M + s.number ≤ delay (left_of s.curve (take k gs) es) w.burst w.rate * M + N
      each es N e n = let m = mul-le-mul_right M (slots_le_delay s.curve (take k gs) es w.burst w.rate) in omega (arith, m)

  past_by : (k : ℕ) (s : State) (best : ℕ) → k ≤ length gs → best ≤ s.curve.offset * M + s.number → Each (λ x. best ≤ x) (keys_over k s)
  past_by k s best h b =
      each_map (λ x. s.curve.offset * M + s.number ≤ x) (λ x. best ≤ x) (keys_over k s) (λ x q. omega (arith, b, q)) (keys_past_slots k s h)

  -- (a) where the slots after the next group, with the step of digit d, have reached the best: with it and every later digit
  pub keys_past_step : ((d e : ℕ) → d ≤ e → step d ≤ step e) → (k : ℕ) (s : State) (best d : ℕ) → k < length gs
      → best ≤ (s.curve.offset + (lag_of s.curve (get_or gs k no_flow) + step d)) * M + (s.number + d * s.weight)
      → (e : ℕ) → d ≤ e → Each (λ x. best ≤ x) (keys_over k (chosen step g (get_or gs k no_flow) s e))
  keys_past_step rises k s best d h b e l = past_by k (chosen step g q s e) best (omega arith) past
    where
      q : Flow
      q = get_or gs k no_flow

      past : best ≤ (chosen step g q s e).curve.offset * M + (s.number + e * s.weight)
      past =
          let a = left_offset s.curve q (lag_of s.curve q + step e) in
          let i : s.curve.offset + (lag_of s.curve q + step d) ≤ (chosen step g q s e).curve.offset = omega (arith, a, rises d e l) in
          let m = mul-le-mul_right M i in
          let n = mul-le-mul_right s.weight l in
          omega (arith, b, m, n)

  -- (b) where a server lacks, no key below is below the best
  pub keys_past_server : (k : ℕ) (s : State) (best j : ℕ) → 0 < M → k ≤ length gs → Rates 1 (left_of s.curve (take k gs) []).stages
      → j < length s.curve.stages
      → line (rest_of M best s.curve.offset s.number) (stage_at s.curve j) < want_of gs (w.burst + w.rate) k j
      → Each (λ x. best ≤ x) (keys_over k s)
  unfolding rest_of
  keys_past_server k s best j big h moves q less = keys_of (λ x. best ≤ x) k s h each
    where
      c : Shape
      c = s.curve

      each : (es : List ℕ) (N : ℕ) → length es ≡ k → s.number ≤ N → best ≤ delay (left_of c (take k gs) es) w.burst w.rate * M + N
      each es N e n = go (le_or_lt best (D * M + N))
        where
          D : ℕ
          D = delay (left_of c (take k gs) es) w.burst w.rate

          go : (best ≤ D * M + N) ⊎ (D * M + N < best) → best ≤ D * M + N
          go (inl y) = y
          go (inr y) =
              let u = stage_at c j in
              let rest = (best - 1 - s.number) / M - c.offset + 1 in
              let a : D ≤ (best - 1 - s.number) / M = (le-div_iff_mul-le {k = M} {x = D} {y = best - 1 - s.number} big).1 (omega arith) in
              let r : D + 1 - c.offset ≤ rest = omega arith in
              let t = server_bound c (take k gs) es w.burst w.rate j (rates_left c (take k gs) [] es moves) q in
              let m : u.rate * (D + 1 - c.offset) ≤ u.rate * rest = mul-le-mul_left u.rate r in
              absurd (omega (arith, less, t, m))

  pub moving_next : (k : ℕ) (s : State) (d : ℕ) → Moving gs (suc k) s → Moving gs k (chosen step g (get_or gs k no_flow) s d)
  unfolding left_of
  moving_next k s d h =
      let q = get_or gs k no_flow in
      let es = replicate {A = ℕ} k 0 in
      let c = (chosen step g q s d).curve in
      let e : left_of s.curve (take (suc k) gs) (es ++ (step d ∷ [])) ≡ left_of c (take k gs) es =
      ap (λ (l : List Flow). left_of s.curve l (es ++ (step d ∷ []))) (take-suc gs k no_flow (omega (arith, h.few)))
      ∙ left_append s.curve (take k gs) (q ∷ []) es (step d ∷ []) (omega (arith, length-take k gs, length-replicate {A = ℕ} k 0, h.few)) in
      let r = subst (λ (c : Shape). Rates 1 c.stages) e (rates_left s.curve (take (suc k) gs) [] (es ++ (step d ∷ [])) h.moves) in
      record { few = omega (arith, h.few); moves = rates_left c (take k gs) es [] r }

  -- so where not every server under the path of the group just chosen gives what is wanted of it
  pub short_keys : (k : ℕ) (s : State) (best : ℕ) (f : Flow) → 0 < M → Moving gs k s
      → gives_under (want_of gs (w.burst + w.rate) k) (rest_of M best s.curve.offset s.number) f s.curve.stages ≡ false
      → Each (λ x. best ≤ x) (keys_over k s)
  unfolding gives_under
  short_keys k s best f big h e =
      let y = lacks_in (want_of gs (w.burst + w.rate) k) (rest_of M best s.curve.offset s.number) (f.first - 1) f.last s.curve.stages e in
      keys_past_server k s best y.0 big h.few h.moves y.3 y.4

  -- (b) where a server j beside the path of the next group lacks with the slots of digit d: with it and every later digit
  pub keys_past_beside : 0 < M → ((d e : ℕ) → d ≤ e → step d ≤ step e) → (k : ℕ) (s : State) (best d j : ℕ) → Moving gs (suc k) s
      → j < length s.curve.stages
      → (j < (get_or gs k no_flow).first - 1) ⊎ ((get_or gs k no_flow).last ≤ j)
      → line (rest_of M best (s.curve.offset + (lag_of s.curve (get_or gs k no_flow) + step d)) (s.number + d * s.weight)) (stage_at s.curve j)
      < want_of gs (w.burst + w.rate) (suc k) j
      → (e : ℕ) → d ≤ e → Each (λ x. best ≤ x) (keys_over k (chosen step g (get_or gs k no_flow) s e))
  unfolding rest_of left_by
  keys_past_beside big rises k s best d j h p o less e l =
      keys_past_server k n best j big m.few m.moves (omega (arith, p, left_by_length s.curve q (lag_of s.curve q + step e)))
      (omega (arith, less, want, ap (λ (u : Stage). line rest u) same, fewer))
    where
      q : Flow
      q = get_or gs k no_flow

      n : State
      n = chosen step g q s e

      m : Moving gs k n
      m = moving_next k s e h

      u : Stage
      u = stage_at s.curve j

      -- the slots that are left with e, and with d
      rest : ℕ
      rest = rest_of M best n.curve.offset n.number

      more : ℕ
      more = rest_of M best (s.curve.offset + (lag_of s.curve q + step d)) (s.number + d * s.weight)

      same : stage_at n.curve j ≡ u
      same = changed_outside (after q.burst q.rate (lag_of s.curve q + step e)) (q.first - 1) q.last s.curve.stages j
          (record { burst = 0; rate = 0 }) o

      fewer : u.rate * rest ≤ u.rate * more
      fewer =
          let a = rises d e l in
          let b = mul-le-mul_right s.weight l in
          let c : best - 1 - (s.number + e * s.weight) ≤ best - 1 - (s.number + d * s.weight) = omega (arith, b) in
          let r : rest ≤ more = omega (arith, a, div_rises M (best - 1 - (s.number + e * s.weight)) (best - 1 - (s.number + d * s.weight)) c) in
          mul-le-mul_left u.rate r

      want : want_of gs (w.burst + w.rate) (suc k) j ≡ want_of gs (w.burst + w.rate) k j
      want = omega (arith, want_next gs (w.burst + w.rate) k j (omega (arith, h.few)), beside_none q j o)

  -- so where not every server beside its path gives what is wanted of it
  pub lacking_keys : 0 < M → ((d e : ℕ) → d ≤ e → step d ≤ step e) → (k : ℕ) (s : State) (best d : ℕ) → Moving gs (suc k) s
      → gives_beside (want_of gs (w.burst + w.rate) (suc k))
      (rest_of M best (s.curve.offset + (lag_of s.curve (get_or gs k no_flow) + step d)) (s.number + d * s.weight)) (get_or gs k no_flow)
      s.curve.stages ≡ false
      → (e : ℕ) → d ≤ e → Each (λ x. best ≤ x) (keys_over k (chosen step g (get_or gs k no_flow) s e))
  lacking_keys big rises k s best d h t e l =
      let q = get_or gs k no_flow in
      let y = lacks_beside (want_of gs (w.burst + w.rate) (suc k))
      (rest_of M best (s.curve.offset + (lag_of s.curve q + step d)) (s.number + d * s.weight)) q s.curve.stages t in
      keys_past_beside big rises k s best d y.0 h y.2 y.1 y.3 e l

  -- the states and the points of the grid: a row whose flows are placed and in order
  module _ (ss : List Server) (o : Ordered (w ∷ gs)) (p : Each (Placed (length ss)) (w ∷ gs)) (first : w.first ≡ 1) (last : w.last ≡ length ss) where
    -- the keys below a state are those of the points that end in the extras chosen so far
    pub keys_over_below : (k : ℕ) (done : List ℕ) (number weight : ℕ) → k ≤ length gs
        → keys_over k (state (left_at ss gs k done) number weight) ≡ keys_below M (answer_of ss (w ∷ gs)) step g ds k done number weight
    keys_over_below zero done number weight h =
        ap (λ (x : ℕ). (x * M + number) ∷ []) (sym (answer_left ss w gs done o p first last))
    keys_over_below (suc k) done number weight h =
        flat_same (λ (d : ℕ). keys_over k (chosen step g (get_or gs k no_flow) (state (left_at ss gs (suc k) done) number weight) d))
        (λ (d : ℕ). keys_below M (answer_of ss (w ∷ gs)) step g ds k (step d ∷ done) (number + d * weight) (weight * g))
        (λ d. ap (λ (c : Shape). keys_over k (state c (number + d * weight) (weight * g))) (sym (left_next ss gs k (step d) done (omega arith)))
        ∙ keys_over_below k (step d ∷ done) (number + d * weight) (weight * g) (omega arith)) ds

    -- so are those of the whole row
    pub keys_over_all : keys_over (length gs) (state (row_curve ss) 0 1) ≡ keys_below M (answer_of ss (w ∷ gs)) step g ds (length gs) [] 0 1
    unfolding left_of
    keys_over_all =
        let d : drop (length gs) gs ≡ [] = drop_of_length-le gs {i = length gs} (omega arith) in
        ap (λ (l : List Flow). keys_over (length gs) (state (left_of (row_curve ss) l []) 0 1)) (sym d) ∙ keys_over_below (length gs) [] 0 1 (omega arith)
