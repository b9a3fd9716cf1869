-- What a step works out afresh, as laws of the walk. Below a state all points have the digits chosen so far; so where one branch ends and the next
-- begins, only the digit of its group and those before it differ, and the nodes behind are those of the point before.
-- Assumes nothing.
use Rattle.std.specs.Prelude.{◌≡◌, refl, Bool, true, false, ◌⊎◌, List, [], ◌∷◌, ◌++◌, map, ℕ, zero, suc, ◌+◌, ◌*◌, ◌-◌, ◌≤◌, ◌<◌, max, eqb, length, get_or, take, drop, replicate}
use Rattle.std.proofs.Common.{sym, ap, ◌∙◌, subst, inl, inr, append-nil, append_assoc, arith, length-take, drop-drop, drop_at, get_or-drop}
use Rattle.std.proofs.lemmas.List.{map-append, length-replicate, get_or-replicate}
use Rattle.std.proofs.lemmas.Bool.{eqb-false}
use Rattle.std.proofs.Math.ListN.{get_or-append}
use Rattle.ground.proofs.OrderLaws.{le_or_lt}
use Rattle.tree.specs.Amounts.{sum_of}
use Rattle.tree.specs.Grid.{flat}
use Rattle.ground.specs.Each.{Each}
use Rattle.ground.proofs.EachLaws.{each_append, each_map, each_in}
use Rattle.keys.proofs.KeyLaws.{tail_of}
use Rattle.keys.specs.Numbers.{keep, first_digits, Growing}
use Rattle.keys.proofs.NumberLaws.{first_digits_stand, grow_snoc}
use Rattle.keys.specs.Choose.{Climb, keys_under}
use Rattle.keys.specs.Afresh.{Visit, visit, in_turn, visits_from, visits, follow, branches, Pairs, LastMoved, AllMoved, most_of}

-- the keys of the walk are those of its visits

turn_keys : (f : Visit → ℕ) (h : ℕ → List ℕ) (go : ℕ → ℕ → List Visit) → ((d i : ℕ) → h d ≡ map f (go d i)) → (n : ℕ) (ds : List ℕ) (m : ℕ)
    → flat h ds ≡ map f (in_turn go m n ds)
turn_keys f h go e n [] m = refl
turn_keys f h go e n (d ∷ ds) m = rw (map-append f (go d m) (in_turn go n n ds), e d m, turn_keys f h go e n ds n)

module _ {S : Type 0} (c : Climb S) (ds : List ℕ) (s : S) where
  -- below a state, however it was reached
  pub keys_from : (k : ℕ) (done : List ℕ) (m : ℕ)
      → keys_under c ds k (follow c k s done) ≡ map (λ (v : Visit). c.key (follow c 0 s v.point)) (visits_from ds k done m)
  keys_from zero done m = refl
  keys_from (suc k) done m =
      turn_keys (λ (v : Visit). c.key (follow c 0 s v.point)) (λ (d : ℕ). keys_under c ds k (follow c k s (d ∷ done)))
      (λ d i. visits_from ds k (d ∷ done) i) (λ d i. keys_from k (d ∷ done) i) (suc k) ds m

  -- so each key of the search is that of a visit, in this order
  pub visits_keys : (n : ℕ) → keys_under c ds n s ≡ map (λ (v : Visit). c.key (follow c 0 s v.point)) (visits ds n)
  visits_keys n = keys_from n [] n

-- a visit has a digit for each group

each_turn : (P : Visit → Type 0) (go : ℕ → ℕ → List Visit) → ((d i : ℕ) → Each P (go d i)) → (n : ℕ) (ds : List ℕ) (m : ℕ) → Each P (in_turn go m n ds)
each_turn P go f n [] m = tt
each_turn P go f n (d ∷ ds) m = each_append P (go d m) (in_turn go n n ds) (f d m) (each_turn P go f n ds n)

full_from : (ds : List ℕ) (k : ℕ) (done : List ℕ) (m : ℕ) → Each (λ v. length v.point ≡ k + length done) (visits_from ds k done m)
full_from ds zero done m = (omega arith, tt)
full_from ds (suc k) done m =
    each_turn (λ v. length v.point ≡ suc k + length done) (λ d i. visits_from ds k (d ∷ done) i) (λ d i.
    each_map (λ v. length v.point ≡ k + length (d ∷ done)) (λ v. length v.point ≡ suc k + length done) (visits_from ds k (d ∷ done) i)
    (λ v e. omega (arith, e)) (full_from ds k (d ∷ done) i)) (suc k) ds m

pub visits_full : (ds : List ℕ) (n : ℕ) → Each (λ v. length v.point ≡ n) (visits ds n)
visits_full ds n =
    each_map (λ v. length v.point ≡ n + 0) (λ v. length v.point ≡ n) (visits ds n) (λ v e. omega (arith, e)) (full_from ds n [] n)

-- a branch begins at the point with the first digit for each group still to be chosen, and ends at the one with the last

replicate_more : (k d : ℕ) (l : List ℕ) → replicate k d ++ (d ∷ l) ≡ d ∷ (replicate k d ++ l)
replicate_more zero d l = refl
replicate_more (suc k) d l = ap (λ (m : List ℕ). d ∷ m) (replicate_more k d l)

front_from : (d : ℕ) (ds : List ℕ) (k : ℕ) (done : List ℕ) (m : ℕ)
    → (rest : List Visit) × (visits_from (d ∷ ds) k done m ≡ visit (replicate k d ++ done) m ∷ rest)
front_from d ds zero done m = ([], refl)
front_from d ds (suc k) done m =
    let go : ℕ → ℕ → List Visit = λ e i. visits_from (d ∷ ds) k (e ∷ done) i in
    let r = front_from d ds k (d ∷ done) m in
    let l = in_turn go (suc k) (suc k) ds in
    (r.0 ++ l, ap (λ (x : List Visit). x ++ l) r.1 ∙ ap (λ (p : List ℕ). visit p m ∷ (r.0 ++ l)) (replicate_more k d done))

-- for the first point every node is worked out
pub visits_front : (d : ℕ) (ds : List ℕ) (n : ℕ) → (rest : List Visit) × (visits (d ∷ ds) n ≡ visit (replicate n d) n ∷ rest)
visits_front d ds n =
    let r = front_from d ds n [] n in
    (r.0, r.1 ∙ ap (λ (p : List ℕ). visit p n ∷ r.0) (append-nil (replicate n d)))

turn_back : (go : ℕ → ℕ → List Visit) (n z : ℕ) (l : List ℕ) (m : ℕ) → (x : List Visit) × (i : ℕ) × (in_turn go m n (l ++ (z ∷ [])) ≡ x ++ go z i)
turn_back go n z [] m = ([], m, append-nil (go z m))
turn_back go n z (d ∷ l) m =
    let r = turn_back go n z l n in
    (go d m ++ r.0, r.1, ap (λ (x : List Visit). go d m ++ x) r.2 ∙ sym (append_assoc (go d m) r.0 (go z r.1)))

back_from : (f : List ℕ) (z k : ℕ) (done : List ℕ) (m : ℕ)
    → (x : List Visit) × (a : ℕ) × (visits_from (f ++ (z ∷ [])) k done m ≡ x ++ (visit (replicate k z ++ done) a ∷ []))
back_from f z zero done m = ([], m, refl)
back_from f z (suc k) done m =
    let t = turn_back (λ d i. visits_from (f ++ (z ∷ [])) k (d ∷ done) i) (suc k) z f m in
    let r = back_from f z k (z ∷ done) t.1 in (
      t.0 ++ r.0,
      r.1,
      t.2
          ∙ ap (λ (x : List Visit). t.0 ++ x) r.2
          ∙ sym (append_assoc t.0 r.0 (visit (replicate k z ++ (z ∷ done)) r.1 ∷ []))
          ∙ ap (λ (p : List ℕ). (t.0 ++ r.0) ++ (visit p r.1 ∷ [])) (replicate_more k z done),
    )

-- where one branch ends and the next begins

pairs_seam : {A : Type 0} (P : A → A → Type 0) (l : List A) (x y : A) (m : List A) → Pairs P (l ++ (x ∷ [])) → P x y → Pairs P (y ∷ m)
    → Pairs P ((l ++ (x ∷ [])) ++ (y ∷ m))
pairs_seam P [] x y m h s k = (s, k)
pairs_seam P (a ∷ []) x y m h s k = (h.0, (s, k))
pairs_seam P (a ∷ b ∷ l) x y m h s k = (h.0, pairs_seam P (b ∷ l) x y m h.1 s k)

all_moved : (n k z d a b e : ℕ) (done : List ℕ) → k < n → b < z → d < e
    → AllMoved n (visit (replicate k z ++ (d ∷ done)) a) (visit (replicate k b ++ (e ∷ done)) (suc k))
all_moved n k z d a b e done h f g =
    let j : suc k - 1 ≡ k = omega arith in
    record {
      last = record { group = (omega arith, h); later = rw (j, (at z d).0, (at b e).0) g; kept = (at b e).1 ∙ sym (at z d).1 };
      all = λ i l. by i (le_or_lt k i) l;
    }
  where
    -- the digit of the group that steps, and those behind it
    at : (y c : ℕ) → (get_or (replicate k y ++ (c ∷ done)) k 0 ≡ c) × (drop (suc k) (replicate k y ++ (c ∷ done)) ≡ done)
        × (k < length (replicate k y ++ (c ∷ done)))
    at y c = tail_of 0 k (replicate k y ++ (c ∷ done)) c done (drop_at (replicate k y) (c ∷ done) k (length-replicate k y))

    before : (y c i : ℕ) → i < k → get_or (replicate k y ++ (c ∷ done)) i 0 ≡ y
    before y c i l = get_or-append (replicate k y) (c ∷ done) 0 i (omega (arith, length-replicate k y)) ∙ get_or-replicate k i y 0 l

    by : (i : ℕ) → (k ≤ i) ⊎ (i < k) → i < suc k → get_or (replicate k b ++ (e ∷ done)) i 0 ≡ get_or (replicate k z ++ (d ∷ done)) i 0 → ⊥
    by i (inr q) l x = omega (arith, f, before b e i q, before z d i q, x)
    by i (inl q) l x =
        let j : i ≡ k = omega arith in
        let y = subst (λ (i : ℕ). get_or (replicate k b ++ (e ∷ done)) i 0 ≡ get_or (replicate k z ++ (d ∷ done)) i 0) j x in
        omega (arith, g, (at z d).0, (at b e).0, y)

module _ (b : ℕ) (f : List ℕ) (z n : ℕ) (above : b < z) where
  abbrev digits : List ℕ
  digits = b ∷ (f ++ (z ∷ []))

  pairs_from : Growing digits → (k : ℕ) → k ≤ n → (done : List ℕ) (m : ℕ) → Pairs (AllMoved n) (visits_from digits k done m)
  pairs_from o zero h done m = (tt, tt)
  pairs_from o (suc k) h done m = turn (pairs_from o k (omega arith)) digits o m
    where
      go : ℕ → ℕ → List Visit
      go d i = visits_from digits k (d ∷ done) i

      turn : ((done : List ℕ) (m : ℕ) → Pairs (AllMoved n) (visits_from digits k done m)) → (l : List ℕ) → Growing l → (m : ℕ)
          → Pairs (AllMoved n) (in_turn go m (suc k) l)
      turn r [] q m = tt
      turn r (d ∷ []) q m = subst (Pairs (AllMoved n)) (sym (append-nil (go d m))) (r (d ∷ done) m)
      turn r (d ∷ e ∷ l) q m =
          let x = back_from (b ∷ f) z k (d ∷ done) m in
          let y = front_from b (f ++ (z ∷ [])) k (e ∷ done) (suc k) in
          let rest = in_turn go (suc k) (suc k) l in
          let u = subst (Pairs (AllMoved n)) x.2 (r (d ∷ done) m) in
          let v = subst (λ (t : List Visit). Pairs (AllMoved n) (t ++ rest)) y.1 (turn r (e ∷ l) q.1 (suc k)) in
          let s = all_moved n k z d x.1 b e done h above q.0.0 in
          rw (x.2, y.1) (pairs_seam (AllMoved n) x.0 (visit (replicate k z ++ (d ∷ done)) x.1) (visit (replicate k b ++ (e ∷ done)) (suc k))
          (y.0 ++ rest) u s v)

-- one digit, one point
one_from : (d k : ℕ) (done : List ℕ) (m : ℕ) → visits_from (d ∷ []) k done m ≡ visit (replicate k d ++ done) m ∷ []
one_from d zero done m = refl
one_from d (suc k) done m = rw (one_from d k (d ∷ done) m, replicate_more k d done)

last_of : (d : ℕ) (l : List ℕ) → (f : List ℕ) × (z : ℕ) × (d ∷ l ≡ f ++ (z ∷ []))
last_of d [] = ([], d, refl)
last_of d (e ∷ l) = let r = last_of e l in (d ∷ r.0, r.1, ap (λ (x : List ℕ). d ∷ x) r.2)

-- THE LAW: of two visits side by side the second is a step of its group `afresh`, which is the last that has moved: no node behind it is worked out
-- again. And all before it have moved too: a node that is worked out afresh is that of a moved group, or the root
pub moved_last : (ds : List ℕ) (n : ℕ) → Growing ds → Pairs (AllMoved n) (visits ds n)
moved_last [] zero o = (tt, tt)
moved_last [] (suc n) o = tt
moved_last (d ∷ []) n o = subst (Pairs (AllMoved n)) (sym (one_from d n [] n)) (tt, tt)
moved_last (d ∷ e ∷ l) n o =
    let r = last_of e l in
    let q : Growing (d ∷ (r.0 ++ (r.1 ∷ []))) = subst (λ (x : List ℕ). Growing (d ∷ x)) r.2 o in
    rw r.2 (pairs_from d r.0 r.1 n (each_in (λ x. d < x) r.0 r.1 [] q.0) q n (omega arith) [] n)

module _ (step : ℕ → ℕ) (rises : (d e : ℕ) → d ≤ e → step d ≤ step e) where
  steps_below : (n d : ℕ) (l : List ℕ) → step n < d → Each (λ e. e < suc n) l → Each (λ e. e < d) (map step l)
  steps_below n d [] h k = tt
  steps_below n d (e ∷ l) h k = (omega (arith, rises e n (omega (arith, k.0)), h), steps_below n d l h k.1)

  steps_keep : (n : ℕ) (l : List ℕ) (t : Bool) → eqb (step n) (step (suc n)) ≡ t → Growing (map step l) → Each (λ e. e < suc n) l
      → Growing (map step (keep t l (suc n)))
  steps_keep n l true e o h = o
  steps_keep n l false e o h =
      let a : n ≤ suc n = omega arith in
      let b : step n < step (suc n) = less (step n) (step (suc n)) (rises n (suc n) a) (eqb-false (step n) (step (suc n)) e) in
      subst Growing (sym (map-append step l (suc n ∷ []))) (grow_snoc (map step l) (step (suc n)) o (steps_below n (step (suc n)) l b h))
    where
      less : (x y : ℕ) → x ≤ y → (x ≡ y → ⊥) → x < y
      less x y h k = omega arith

  pub first_steps_grow : (g : ℕ) → Growing (map step (first_digits step g))
  first_steps_grow zero = tt
  first_steps_grow (suc zero) = (tt, tt)
  first_steps_grow (suc (suc n)) =
      steps_keep n (first_digits step (suc n)) (eqb (step n) (step (suc n))) refl (first_steps_grow (suc n)) (first_digits_stand step (suc n)).digits

-- the same walk over the steps: so all this holds of the points as extras

turn_steps : (f : ℕ → ℕ) (h : Visit → Visit) (go to : ℕ → ℕ → List Visit) → ((d i : ℕ) → to (f d) i ≡ map h (go d i)) → (n : ℕ) (ds : List ℕ) (m : ℕ)
    → in_turn to m n (map f ds) ≡ map h (in_turn go m n ds)
turn_steps f h go to e n [] m = refl
turn_steps f h go to e n (d ∷ ds) m = rw (map-append h (go d m) (in_turn go n n ds), e d m, turn_steps f h go to e n ds n)

steps_from : (f : ℕ → ℕ) (ds : List ℕ) (k : ℕ) (done : List ℕ) (m : ℕ)
    → visits_from (map f ds) k (map f done) m ≡ map (λ (v : Visit). visit (map f v.point) v.afresh) (visits_from ds k done m)
steps_from f ds zero done m = refl
steps_from f ds (suc k) done m =
    turn_steps f (λ (v : Visit). visit (map f v.point) v.afresh) (λ d i. visits_from ds k (d ∷ done) i) (λ e i. visits_from (map f ds) k (e ∷ map f done) i)
    (λ d i. steps_from f ds k (d ∷ done) i) (suc k) ds m

pub visits_steps : (f : ℕ → ℕ) (ds : List ℕ) (n : ℕ) → visits (map f ds) n ≡ map (λ (v : Visit). visit (map f v.point) v.afresh) (visits ds n)
visits_steps f ds n = steps_from f ds n [] n

-- where points are passed over, the point before w is any earlier one: the last group that has moved since is then the greatest that has made a step

pairs_behind : {A : Type 0} (P : A → A → Type 0) (l m : List A) → Pairs P (l ++ m) → Pairs P m
pairs_behind P [] m h = h
pairs_behind P (x ∷ l) m h = pairs_behind P l m h.1

module _ (n m : ℕ) (some : 1 ≤ m) where
  -- while no group behind the first m steps, those have the digits they had, and group m has none that is earlier, and a later one where it steps
  record Kept (a : ℕ) (v w : Visit) : Type 0 where
    behind : drop m w.point ≡ drop m v.point
    near : get_or v.point (m - 1) 0 ≤ get_or w.point (m - 1) 0
    later : a ≡ m → get_or v.point (m - 1) 0 < get_or w.point (m - 1) 0

  kept_one : (v w : Visit) → AllMoved n v w → w.afresh ≤ m → Kept w.afresh v w
  kept_one v w h k = by (le_or_lt m w.afresh)
    where
      a : ℕ
      a = w.afresh

      behind : drop m w.point ≡ drop m v.point
      behind =
          let z : a + (m - a) ≡ m = omega arith in
          ap (λ (i : ℕ). drop i w.point) (sym z)
          ∙ sym (drop-drop (m - a) a w.point)
          ∙ ap (drop (m - a)) h.last.kept
          ∙ drop-drop (m - a) a v.point
          ∙ ap (λ (i : ℕ). drop i v.point) z

      by : (m ≤ a) ⊎ (a < m) → Kept a v w
      by (inl x) =
          let e : a ≡ m = omega arith in
          let l : get_or v.point (m - 1) 0 < get_or w.point (m - 1) 0 =
          subst (λ (i : ℕ). get_or v.point (i - 1) 0 < get_or w.point (i - 1) 0) e h.last.later in
          record { behind = behind; near = omega arith; later = λ y. l }
      by (inr x) =
          let i = m - 1 - a in
          let z : a + i ≡ m - 1 = omega arith in
          let e : get_or w.point (m - 1) 0 ≡ get_or v.point (m - 1) 0 =
          ap (λ (j : ℕ). get_or w.point j 0) (sym z)
          ∙ sym (get_or-drop a w.point i 0)
          ∙ ap (λ (l : List ℕ). get_or l i 0) h.last.kept
          ∙ get_or-drop a v.point i 0
          ∙ ap (λ (j : ℕ). get_or v.point j 0) z in
          record { behind = behind; near = omega arith; later = λ y. absurd (omega arith) }

  kept_all : (v : Visit) (l : List Visit) (w : Visit) (behind : List Visit) → Pairs (AllMoved n) (v ∷ (l ++ (w ∷ behind))) → most_of (l ++ (w ∷ [])) ≤ m
      → Kept (most_of (l ++ (w ∷ []))) v w
  kept_all v [] w behind h k =
      let x = kept_one v w h.0 (omega arith) in
      record { behind = x.behind; near = x.near; later = λ e. x.later (omega arith) }
  kept_all v (u ∷ l) w behind h k =
      let x = kept_one v u h.0 (omega arith) in
      let y = kept_all u l w behind h.1 (omega arith) in
      record { behind = y.behind ∙ x.behind; near = omega (arith, x.near, y.near); later = λ e. by x y (le_or_lt m u.afresh) e }
    where
      by : Kept u.afresh v u → Kept (most_of (l ++ (w ∷ []))) u w → (m ≤ u.afresh) ⊎ (u.afresh < m) → max u.afresh (most_of (l ++ (w ∷ []))) ≡ m
          → get_or v.point (m - 1) 0 < get_or w.point (m - 1) 0
      by x y (inl q) e = omega (arith, x.later (omega arith), y.near)
      by x y (inr q) e = omega (arith, x.near, y.later (omega arith))

most_group : (n : ℕ) (v : Visit) (l : List Visit) (w : Visit) (behind : List Visit) → Pairs (AllMoved n) (v ∷ (l ++ (w ∷ behind)))
    → (1 ≤ most_of (l ++ (w ∷ []))) × (most_of (l ++ (w ∷ [])) ≤ n)
most_group n v [] w behind h = let g = h.0.last.group in (omega (arith, g.0), omega (arith, g.1))
most_group n v (u ∷ l) w behind h =
    let g = h.0.last.group in
    let r = most_group n u l w behind h.1 in
    (omega (arith, g.0), omega (arith, g.1, r.1))

-- from any visit v to any later one w
pub moved_since : (ds : List ℕ) (n : ℕ) → Growing ds → (before : List Visit) (v : Visit) (l : List Visit) (w : Visit) (behind : List Visit)
    → visits ds n ≡ before ++ (v ∷ (l ++ (w ∷ behind))) → LastMoved n (most_of (l ++ (w ∷ []))) v w
moved_since ds n f before v l w behind e =
    let h = pairs_behind (AllMoved n) before (v ∷ (l ++ (w ∷ behind))) (subst (Pairs (AllMoved n)) e (moved_last ds n f)) in
    let g = most_group n v l w behind h in
    let m = most_of (l ++ (w ∷ [])) in
    let z : m ≤ m = omega arith in
    let k = kept_all n m g.0 v l w behind h z in
    record { group = g; later = k.later refl; kept = k.behind }

-- a state is that of the groups behind the first m, and from there on one node for each of these m

follow_split : {S : Type 0} (c : Climb S) (i m : ℕ) (s : S) (p : List ℕ) → follow c i s p ≡ follow c i (follow c (i + m) s (drop m p)) (take m p)
follow_split c i zero s p = let z : i + 0 ≡ i = omega arith in rw z
follow_split c i (suc m) s [] = refl
follow_split {S = S} c i (suc m) s (d ∷ p) =
    let z : i + suc m ≡ suc i + m = omega arith in
    rw z (ap (λ (t : S). c.next i t d) (follow_split c (suc i) m s p))

-- so the state of a point is worked out of one that the point before has met too: behind the last group that has moved, m, and from there in m nodes
pub state_afresh : {S : Type 0} (c : Climb S) (s : S) (n m : ℕ) (v w : Visit) → LastMoved n m v w → length w.point ≡ n
    → (follow c 0 s w.point ≡ follow c 0 (follow c m s (drop m v.point)) (take m w.point)) × (length (take m w.point) ≡ m)
state_afresh c s n m v w h full =
    let z : 0 + m ≡ m = omega arith in (
      follow_split c 0 m s w.point
          ∙ ap (λ (i : ℕ). follow c 0 (follow c i s (drop m w.point)) (take m w.point)) z
          ∙ ap (λ (l : List ℕ). follow c 0 (follow c m s l) (take m w.point)) h.kept,
      omega (arith, length-take m w.point, h.group.1),
    )

-- in all there is one node for each branch of the walk

abbrev worked : List Visit → ℕ
worked l = sum_of (map (λ (v : Visit). v.afresh) l)

worked_append : (l m : List Visit) → worked (l ++ m) ≡ worked l + worked m
unfolding sum_of
worked_append [] m = omega arith
worked_append (v ∷ l) m = omega (arith, worked_append l m)

worked_later : (go : ℕ → ℕ → List Visit) (n b : ℕ) → ((d : ℕ) → worked (go d n) ≡ b) → (l : List ℕ) → worked (in_turn go n n l) ≡ length l * b
unfolding sum_of
worked_later go n b h [] = omega arith
worked_later go n b h (d ∷ l) = omega (arith, worked_append (go d n) (in_turn go n n l), h d, worked_later go n b h l)

worked_from : (d : ℕ) (ds : List ℕ) (k : ℕ) (done : List ℕ) (m : ℕ) → worked (visits_from (d ∷ ds) k done m) + k ≡ branches (d ∷ ds) k + m
unfolding sum_of
worked_from d ds zero done m = omega arith
worked_from d ds (suc k) done m =
    let go : ℕ → ℕ → List Visit = λ e i. visits_from (d ∷ ds) k (e ∷ done) i in
    let l = worked_later go (suc k) (suc (branches (d ∷ ds) k)) (λ e. omega (arith, worked_from d ds k (e ∷ done) (suc k))) ds in
    omega (arith, worked_append (go d m) (in_turn go (suc k) (suc k) ds), worked_from d ds k (d ∷ done) m, l)

pub visits_worked : (ds : List ℕ) (n : ℕ) → sum_of (map (λ (v : Visit). v.afresh) (visits ds n)) ≡ branches ds n
unfolding sum_of
visits_worked [] zero = refl
visits_worked [] (suc n) = omega arith
visits_worked (d ∷ ds) n = omega (arith, worked_from d ds n [] n)
