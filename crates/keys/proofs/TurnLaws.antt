-- The turns of the code: in a state s with one group more to choose, the loop over the digits has b, the least of `best` and of all keys below the
-- first i digits. Each law says what one way through the loop, or out of it, does.
-- Assumes nothing.
use Rattle.std.specs.Prelude.{◌≡◌, refl, false, List, [], ◌∷◌, map, ℕ, zero, suc, ◌+◌, ◌*◌, ◌≤◌, ◌<◌, length, get_or, take, drop}
use Rattle.std.proofs.Common.{sym, ap, ◌∙◌, subst, arith, take_all}
use Rattle.tandem.specs.Tandem.{no_flow}
use Rattle.tandem.specs.declared.Flow.{Flow}
use Rattle.tree.specs.Grid.{flat}
use Rattle.ground.specs.Each.{Each}
use Rattle.ground.proofs.EachLaws.{each_append}
use Rattle.tree.proofs.GridLaws.{each_flat}
use Rattle.keys.specs.Keys.{least_of}
use Rattle.keys.proofs.KeyLaws.{least_stays}
use Rattle.keys.specs.Numbers.{Growing}
use Rattle.keys.proofs.ChooseLaws.{least_more, least_rest}
use Rattle.keys.specs.Left.{lag_of}
use Rattle.keys.specs.State.{State, chosen, want_of, rest_of, gives_beside, gives_under, Moving}
use Rattle.keys.proofs.StateLaws.{keys_over, keys_past_step, lacking_keys, short_keys, moving_next}

-- the step of the digit at place i
pub value_at_lem : (step : ℕ → ℕ) (ds : List ℕ) (i : ℕ) → i < length ds → get_or (map step ds) i 0 ≡ step (get_or ds i 0)
value_at_lem step [] i h = absurd (omega arith)
value_at_lem step (d ∷ ds) zero h = refl
value_at_lem step (d ∷ ds) (suc i) h = value_at_lem step ds i (omega arith)

each_drop : (P : ℕ → Type 0) (h : ℕ → List ℕ) (ds : List ℕ) (i : ℕ) → Growing ds → i < length ds → ((e : ℕ) → get_or ds i 0 ≤ e → Each P (h e))
    → Each P (flat h (drop i ds))
each_drop P h [] i r p f = absurd (omega arith)
each_drop P h (d ∷ ds) zero r p f =
    let z : d ≤ d = omega arith in
    each_append P (h d) (flat h ds) (f d z) (each_flat (λ e. d < e) P h ds (λ e l. f e (omega arith)) r.0)
each_drop P h (d ∷ ds) (suc i) r p f = each_drop P h ds i r.1 (omega arith) f

module _ (M : ℕ) (w : Flow) (gs : List Flow) (step : ℕ → ℕ) (g : ℕ) (ds : List ℕ) (k : ℕ) (s : State) (best : ℕ) where
  abbrev group : Flow
  group = get_or gs k no_flow

  -- the keys below digit d
  abbrev pub below : ℕ → List ℕ
  below d = keys_over M w gs step g ds k (chosen step g group s d)

  -- what the loop has after i digits
  pub record Turned (b i : ℕ) : Type 0 where
    pub near : i ≤ length ds
    pub is : b ≡ least_of best (flat below (take i ds))

  pub turned_none : Turned best 0
  turned_none = record { near = omega arith; is = refl }

  module _ (b i : ℕ) (t : Turned b i) where
    -- out, after the last digit
    pub turned_all : length ds ≤ i → b ≡ least_of best (keys_over M w gs step g ds (suc k) s)
    turned_all h = t.is ∙ ap (λ (l : List ℕ). least_of best (flat below l)) (take_all i ds h)

    -- out: no key of this step or of a later one is below the best
    passed_rest : Growing ds → i < length ds → ((e : ℕ) → get_or ds i 0 ≤ e → Each (λ y. b ≤ y) (below e))
        → b ≡ least_of best (keys_over M w gs step g ds (suc k) s)
    passed_rest r p h =
        t.is ∙ sym (least_rest best below ds i
        (subst (λ (x : ℕ). Each (λ y. x ≤ y) (flat below (drop i ds))) t.is (each_drop (λ y. b ≤ y) below ds i r p h)))

    -- the slots with it have reached the best
    pub passed_late : k < length gs → Growing ds → ((d e : ℕ) → d ≤ e → step d ≤ step e) → i < length ds
        → b ≤ (s.curve.offset + (lag_of s.curve group + step (get_or ds i 0))) * M + (s.number + get_or ds i 0 * s.weight)
        → b ≡ least_of best (keys_over M w gs step g ds (suc k) s)
    passed_late some r rises p h = passed_rest r p (λ e l. keys_past_step M w gs step g ds rises k s b (get_or ds i 0) some h e l)

    -- some server beside the path of the group can not give what is wanted of it
    pub passed_lacking : 0 < M → Moving gs (suc k) s → Growing ds → ((d e : ℕ) → d ≤ e → step d ≤ step e) → i < length ds
        → gives_beside (want_of gs (w.burst + w.rate) (suc k))
        (rest_of M b (s.curve.offset + (lag_of s.curve group + step (get_or ds i 0))) (s.number + get_or ds i 0 * s.weight)) group s.curve.stages ≡ false
        → b ≡ least_of best (keys_over M w gs step g ds (suc k) s)
    passed_lacking big m r rises p h = passed_rest r p (λ e l. lacking_keys M w gs step g ds big rises k s b (get_or ds i 0) m h e l)

    -- on: the branch of this digit has been searched
    pub turned_more : (c : ℕ) → i < length ds → c ≡ least_of b (below (get_or ds i 0)) → Turned c (i + 1)
    turned_more c p e =
        record { near = omega arith; is = e ∙ ap (λ (x : ℕ). least_of x (below (get_or ds i 0))) t.is ∙ sym (least_more best below ds i p) }

    -- on: it has been passed over, as some server under the path of the group can not give what is wanted of it
    pub turned_past : 0 < M → Moving gs (suc k) s → i < length ds
        → (let n = chosen step g group s (get_or ds i 0) in
        gives_under (want_of gs (w.burst + w.rate) k) (rest_of M b n.curve.offset n.number) group n.curve.stages ≡ false)
        → Turned b (i + 1)
    turned_past big m p e =
        let n = chosen step g group s (get_or ds i 0) in
        turned_more b p (sym
        (least_stays b (below (get_or ds i 0)) (short_keys M w gs step g ds k n b group big (moving_next M w gs step g ds k s (get_or ds i 0) m) e)))
