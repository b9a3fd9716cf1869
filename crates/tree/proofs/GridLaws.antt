-- What the search of the grid means: its points are all combinations, the first has every e = 0, and the answer is the first point with the
-- least delay; so it is never above start.
-- Assumes nothing.
use Rattle.std.specs.Prelude.{◌≡◌, true, false, ◌⊎◌, ltb, length, get_or, replicate}
use Rattle.std.proofs.Math.Path.{refl, ap}
use Rattle.std.proofs.Common.{sym, ◌∙◌, subst, inl, inr, arith, zero-add, add-zero, zero-mul, mul-le-mul_right, mul_comm, mul-div_cancel, div-lt_iff_lt-mul, le-div_iff_mul-le, pow-suc, length-append, ltb-true, ltb-false, le-ltb, ne_eqb}
use mathlib.Core.List.{List, [], ◌∷◌, ◌++◌, map, append_assoc}
use Prim.Native.Nat.{ℕ, zero, suc, ◌+◌, ◌-◌, ◌*◌, ◌/◌, ◌^◌, ◌≤◌, ◌<◌}
use Rattle.std.proofs.Math.Nat.{zero-div, pow-zero}
use Rattle.std.proofs.lemmas.List.{replicate-append-replicate}
use Rattle.tandem.specs.OfSheet.{listed}
use Rattle.tandem.proofs.OfSheetLaws.{length_listed, listed_at}
use Rattle.tree.specs.Grid.{steps_of, flat, points_from, points_of, Answer, better, best_of, found_of}
use Rattle.ground.specs.Each.{Each}
use Rattle.ground.proofs.EachLaws.{each_append, each_map, each_in}
use Rattle.tree.specs.Searched.{First, Low}
use Rattle.tandem.proofs.TestLaws.{decide}

-- numbers up to b, with zeros behind them
pub each_below : (b : ℕ) (es : List ℕ) → Each (λ e. e ≤ b) es → (k : ℕ) → get_or es k 0 ≤ b
each_below b [] h k = omega arith
each_below b (e ∷ es) h zero = h.0
each_below b (e ∷ es) h (suc k) = each_below b es h.1 k

pub zeros_below : (b n : ℕ) → Each (λ e. e ≤ b) (replicate n 0)
zeros_below b zero = tt
zeros_below b (suc n) = (omega arith, zeros_below b n)

-- an entry without the property does not stand in the part whose entries all have it
not_inside : {A : Type 0} (P : A → Type 0) (b y l : List A) (p : A) (m : List A) → b ++ y ≡ l ++ (p ∷ m) → Each P b → (P p → ⊥) → length b ≤ length l
not_inside P [] y l p m e h n = omega arith
not_inside P (x ∷ b) y [] p m e h n = let q : x ≡ p = cc in absurd (n (subst P q h.0))
not_inside P (x ∷ b) y (z ∷ l) p m e h n = let r = not_inside P b y l p m (cc) h.1 n in omega arith

-- what stands behind as many entries of one list is one entry
pub same_place : {A : Type 0} (b : List A) (x : A) (y l : List A) (p : A) (m : List A) → b ++ (x ∷ y) ≡ l ++ (p ∷ m) → length b ≡ length l → x ≡ p
same_place [] x y [] p m e h = cc
same_place [] x y (z ∷ l) p m e h = absurd (omega arith)
same_place (w ∷ b) x y [] p m e h = absurd (omega arith)
same_place (w ∷ b) x y (z ∷ l) p m e h = same_place b x y l p m (cc) (omega arith)

-- the best of a list of points

pub best_append : (at : List ℕ → Answer) (a : Answer) (l m : List (List ℕ)) → best_of at a (l ++ m) ≡ best_of at (best_of at a l) m
best_append at a [] m = refl
best_append at a (p ∷ l) m = best_append at (better a (at p)) l m

pub better_stays : (a b : Answer) → a.delay ≤ b.delay → better a b ≡ a
unfolding better
better_stays a b h = rw (le-ltb b.delay a.delay h)

-- points that are no better may be passed over
pub best_stays : (at : List ℕ → Answer) (a : Answer) (l : List (List ℕ)) → Each (λ p. a.delay ≤ (at p).delay) l → best_of at a l ≡ a
best_stays at a [] h = refl
best_stays at a (p ∷ l) h = ap (λ (b : Answer). best_of at b l) (better_stays a (at p) h.0) ∙ best_stays at a l h.1

-- the better of two: the second where its delay is smaller, else the first
better_cases : (a b : Answer) → ((better a b ≡ b) × (b.delay < a.delay)) ⊎ ((better a b ≡ a) × (a.delay ≤ b.delay))
unfolding better
better_cases a b = go (decide (ltb b.delay a.delay))
  where
    go : (ltb b.delay a.delay ≡ true) ⊎ (ltb b.delay a.delay ≡ false)
        → ((better a b ≡ b) × (b.delay < a.delay)) ⊎ ((better a b ≡ a) × (a.delay ≤ b.delay))
    go (inl e) = inl (rw e, ltb-true b.delay a.delay e)
    go (inr e) = inr (rw e, ltb-false b.delay a.delay e)

-- either no point is better, or the first with the least delay stands
best_first : (at : List ℕ → Answer) (a : Answer) (l : List (List ℕ))
    → ((best_of at a l ≡ a) × Each (λ p. a.delay ≤ (at p).delay) l) ⊎ (((best_of at a l).delay < a.delay) × First at l (best_of at a l))
best_first at a [] = inl (refl, tt)
best_first at a (p ∷ l) = go (better a (at p)) (better_cases a (at p)) (best_first at (better a (at p)) l)
  where
    Ends : Answer → Type 0
    Ends c = ((c ≡ a) × ((a.delay ≤ (at p).delay) × Each (λ q. a.delay ≤ (at q).delay) l)) ⊎ ((c.delay < a.delay) × First at (p ∷ l) c)

    -- one point more in front, which is greater
    longer : (c : Answer) → c.delay < (at p).delay → First at l c → First at (p ∷ l) c
    longer c k f = record {
      before = p ∷ f.before;
      point = f.point;
      behind = f.behind;
      split = ap (λ (m : List (List ℕ)). p ∷ m) f.split;
      there = f.there;
      greater = (k, f.greater);
      least = f.least;
    }

    go : (b : Answer) → ((b ≡ at p) × ((at p).delay < a.delay)) ⊎ ((b ≡ a) × (a.delay ≤ (at p).delay))
        → ((best_of at b l ≡ b) × Each (λ q. b.delay ≤ (at q).delay) l) ⊎ (((best_of at b l).delay < b.delay) × First at l (best_of at b l))
        → Ends (best_of at b l)
    go b (inl x) (inl y) =
        let e = ap (λ (r : Answer). r.delay) x.0 in
        let d = ap (λ (r : Answer). r.delay) y.0 in
        inr (
          omega (arith, x.1, e, d),
          record {
            before = [];
            point = p;
            behind = l;
            split = refl;
            there = y.0 ∙ x.0;
            greater = tt;
            least = each_map (λ q. b.delay ≤ (at q).delay) (λ q. (best_of at b l).delay ≤ (at q).delay) l (λ q h. omega (arith, d)) y.1;
          },
        )
    go b (inl x) (inr y) =
        let e = ap (λ (r : Answer). r.delay) x.0 in
        inr (omega (arith, x.1, e, y.0), longer (best_of at b l) (omega (arith, e, y.0)) y.1)
    go b (inr x) (inl y) =
        let e = ap (λ (r : Answer). r.delay) x.0 in
        inl (y.0 ∙ x.0, (x.1, each_map (λ q. b.delay ≤ (at q).delay) (λ q. a.delay ≤ (at q).delay) l (λ q h. omega (arith, e)) y.1))
    go b (inr x) (inr y) =
        let e = ap (λ (r : Answer). r.delay) x.0 in
        inr (omega (arith, e, y.0), longer (best_of at b l) (omega (arith, e, y.0, x.1)) y.1)

-- what the first point with the least delay is

module _ (at : List ℕ → Answer) (points : List (List ℕ)) where
  -- "The bound is the least delay": no point has a smaller one
  pub first_least : (best : Answer) → First at points best → Each (λ p. best.delay ≤ (at p).delay) points
  first_least best f =
      let e = ap (λ (r : Answer). r.delay) f.there in
      subst (Each (λ p. best.delay ≤ (at p).delay)) (sym f.split)
      (each_append (λ p. best.delay ≤ (at p).delay) f.before (f.point ∷ f.behind)
      (each_map (λ p. best.delay < (at p).delay) (λ p. best.delay ≤ (at p).delay) f.before (λ p h. omega arith) f.greater)
      (omega (arith, e), f.least))

  -- "on a tie the first point stands": no point before it has as small a delay
  pub first_stands : (best : Answer) (f : First at points best) (l : List (List ℕ)) (p : List ℕ) (m : List (List ℕ)) → points ≡ l ++ (p ∷ m)
      → (at p).delay ≤ best.delay → length f.before ≤ length l
  first_stands best f l p m e h = not_inside (λ q. best.delay < (at q).delay) f.before (f.point ∷ f.behind) l p m (sym f.split ∙ e) f.greater (λ k. omega arith)

pub best_le : (at : List ℕ → Answer) (a : Answer) (l : List (List ℕ)) → (best_of at a l).delay ≤ a.delay
best_le at a l = go (best_first at a l)
  where
    go : ((best_of at a l ≡ a) × Each (λ p. a.delay ≤ (at p).delay) l) ⊎ (((best_of at a l).delay < a.delay) × First at l (best_of at a l))
        → (best_of at a l).delay ≤ a.delay
    go (inl x) = omega (arith, ap (λ (r : Answer). r.delay) x.0)
    go (inr x) = omega (arith, x.0)

-- the points

listed_front : {B : Type 0} (n : ℕ) (f : ℕ → B) → listed (suc n) f ≡ f 0 ∷ listed n (λ i. f (suc i))
unfolding listed
listed_front zero f = refl
listed_front (suc n) f = ap (λ (l : List _). l ++ (f (suc n) ∷ [])) (listed_front n f)

pub each_listed : {B : Type 0} (P : B → Type 0) (n : ℕ) (f : ℕ → B) → ((i : ℕ) → i < n → P (f i)) → Each P (listed n f)
unfolding listed
each_listed P zero f h = tt
each_listed P (suc n) f h = each_append P (listed n f) (f n ∷ []) (each_listed P n f (λ i l. h i (omega arith))) (h n (omega arith), tt)

-- "e runs over floor(i·start / (g − 1))": none is above start
steps_low : (start g : ℕ) → 2 ≤ g → Each (λ e. e ≤ start) (steps_of start g)
unfolding steps_of
steps_low start g h = each_listed (λ e. e ≤ start) g (λ i. i * start / (g - 1)) each
  where
    each : (i : ℕ) → i < g → i * start / (g - 1) ≤ start
    each i l =
        let n : i ≤ g - 1 = omega arith in
        let b : i * start ≤ (g - 1) * start = mul-le-mul_right start n in
        let d : 0 < g - 1 = omega arith in
        let c : i * start < suc start * (g - 1) = omega arith in
        let e = (div-lt_iff_lt-mul {k = g - 1} {x = i * start} {y = suc start} d).1 c in
        omega arith

-- "floor(i·start / (g − 1)), i = 0..g − 1": step i is the greatest number that, taken g − 1 times, is not above i·start
pub steps_floor : (start g i : ℕ) → 2 ≤ g → i < g
    → (get_or (steps_of start g) i 0 * (g - 1) ≤ i * start) × (i * start < suc (get_or (steps_of start g) i 0) * (g - 1))
unfolding steps_of
steps_floor start g i h l = rw (listed_at g (λ i. i * start / (g - 1)) i 0 l) (floor (i * start / (g - 1)) refl)
  where
    floor : (e : ℕ) → e ≡ i * start / (g - 1) → (e * (g - 1) ≤ i * start) × (i * start < suc e * (g - 1))
    floor e q =
        let d : 0 < g - 1 = omega arith in
        let a : e ≤ i * start / (g - 1) = omega arith in
        let b : i * start / (g - 1) < suc e = omega arith in
        ((le-div_iff_mul-le {k = g - 1} d).0 a, (div-lt_iff_lt-mul {k = g - 1} d).0 b)

-- and the last is start
pub steps_last : (start g : ℕ) → 2 ≤ g → get_or (steps_of start g) (g - 1) 0 ≡ start
unfolding steps_of
steps_last start g h =
    let l : g - 1 < g = omega arith in
    let d : 0 < g - 1 = omega arith in
    listed_at g (λ i. i * start / (g - 1)) (g - 1) 0 l ∙ ap (λ (x : ℕ). x / (g - 1)) (mul_comm (g - 1) start) ∙ mul-div_cancel start d

-- and the first is 0
steps_front : (start g : ℕ) → 1 ≤ g → (more : List ℕ) × (steps_of start g ≡ 0 ∷ more)
unfolding steps_of
steps_front start zero h = absurd (omega arith)
steps_front start (suc g) h =
    (more, listed_front g (λ i. i * start / (suc g - 1)) ∙ ap (λ (x : ℕ). x ∷ more) zero_step)
  where
    more : List ℕ
    more = listed g (λ i. suc i * start / (suc g - 1))

    zero_step : 0 * start / (suc g - 1) ≡ 0
    zero_step = rw (zero-mul start, zero-div (suc g - 1))

-- behind k extras 0 the first point has 0 for every group more
zeros_front : (more : List ℕ) (k n : ℕ) → (rest : List (List ℕ)) × (points_from (0 ∷ more) (replicate k 0) n ≡ replicate (k + n) 0 ∷ rest)
zeros_front more k zero = ([], rw add-zero)
zeros_front more k (suc n) =
    let r = zeros_front more (k + 1) n in
    let zeros : List ℕ → List (List ℕ) = λ l. points_from (0 ∷ more) l n in
    let others = flat (λ (e : ℕ). points_from (0 ∷ more) (replicate k 0 ++ (e ∷ [])) n) more in
    let same : k + 1 + n ≡ k + suc n = omega arith in (
      r.0 ++ others,
      ap (λ (l : List ℕ). zeros l ++ others) (replicate-append-replicate k 1 0)
          ∙ ap (λ (l : List (List ℕ)). l ++ others) r.1
          ∙ ap (λ (m : ℕ). replicate m 0 ∷ (r.0 ++ others)) same,
    )

pub length_flat : {A B : Type 0} (h : A → List B) (m : ℕ) → ((e : A) → length (h e) ≡ m) → (l : List A) → length (flat h l) ≡ length l * m
length_flat h m k [] = omega arith
length_flat h m k (e ∷ l) = omega (arith, length-append (h e) (flat h l), k e, length_flat h m k l)

pub points_from_count : (steps : List ℕ) (n : ℕ) (fixed : List ℕ) → length (points_from steps fixed n) ≡ length steps ^ n
points_from_count steps zero fixed = sym (pow-zero (length steps))
points_from_count steps (suc n) fixed =
    let f = length_flat (λ (e : ℕ). points_from steps (fixed ++ (e ∷ [])) n) (length steps ^ n) (λ e. points_from_count steps n (fixed ++ (e ∷ []))) steps in
    f ∙ mul_comm (length steps) (length steps ^ n) ∙ sym (pow-suc (length steps) n)

-- "g to the power of the number of groups"
pub points_count : (start g n : ℕ) → length (points_of (steps_of start g) n) ≡ g ^ n
unfolding points_of steps_of
points_count start g n = points_from_count (steps_of start g) n [] ∙ ap (λ (x : ℕ). x ^ n) (length_listed g (λ i. i * start / (g - 1)))

pub flat_append : {A B : Type 0} (h : A → List B) (l m : List A) → flat h (l ++ m) ≡ flat h l ++ flat h m
flat_append h [] m = refl
flat_append h (x ∷ l) m = rw (flat_append h l m) (sym (append_assoc (h x) (flat h l) (flat h m)))

-- each point of `points` with every step as one extra more
abbrev more_by : List ℕ → List (List ℕ) → List (List ℕ)
more_by steps points = flat (λ (p : List ℕ). map (λ (e : ℕ). p ++ (e ∷ [])) steps) points

flat_more : (steps : List ℕ) (h k : ℕ → List (List ℕ)) → ((e : ℕ) → h e ≡ more_by steps (k e)) → (l : List ℕ) → flat h l ≡ more_by steps (flat k l)
flat_more steps h k r [] = refl
flat_more steps h k r (e ∷ l) =
    ap (λ (x : List (List ℕ)). x ++ flat h l) (r e) ∙ ap (λ (x : List (List ℕ)). more_by steps (k e) ++ x) (flat_more steps h k r l)
    ∙ sym (flat_append (λ (p : List ℕ). map (λ (e : ℕ). p ++ (e ∷ [])) steps) (k e) (flat k l))

flat_single : {A B : Type 0} (f : A → B) (l : List A) → flat (λ (e : A). f e ∷ []) l ≡ map f l ++ []
flat_single f [] = refl
flat_single {B} f (x ∷ l) = ap (λ (m : List B). f x ∷ m) (flat_single f l)

from_last : (steps : List ℕ) (n : ℕ) (fixed : List ℕ) → points_from steps fixed (suc n) ≡ more_by steps (points_from steps fixed n)
from_last steps zero fixed = flat_single (λ (e : ℕ). fixed ++ (e ∷ [])) steps
from_last steps (suc n) fixed =
    flat_more steps (λ (e : ℕ). points_from steps (fixed ++ (e ∷ [])) (suc n)) (λ (e : ℕ). points_from steps (fixed ++ (e ∷ [])) n)
    (λ e. from_last steps n (fixed ++ (e ∷ []))) steps

-- "the last group in the order moving fastest": between two points of the groups before it, the last group goes through all its steps
pub points_last : (steps : List ℕ) (n : ℕ) → points_of steps (suc n) ≡ flat (λ (p : List ℕ). map (λ (e : ℕ). p ++ (e ∷ [])) steps) (points_of steps n)
unfolding points_of
points_last steps n = from_last steps n []

-- the first point has every e = 0
pub points_front : (start g n : ℕ) → 1 ≤ g → (rest : List (List ℕ)) × (points_of (steps_of start g) n ≡ replicate n 0 ∷ rest)
unfolding points_of
points_front start g n h =
    let s = steps_front start g h in
    let r = zeros_front s.0 0 n in
    (r.0, ap (λ (l : List ℕ). points_from l [] n) s.1 ∙ r.1 ∙ ap (λ (m : ℕ). replicate m 0 ∷ r.0) (zero-add n))

-- each point has an extra for each group, none above start

low_snoc : (start e : ℕ) (l : List ℕ) → ((k : ℕ) → get_or l k 0 ≤ start) → e ≤ start → (k : ℕ) → get_or (l ++ (e ∷ [])) k 0 ≤ start
low_snoc start e [] h d zero = d
low_snoc start e [] h d (suc k) = omega arith
low_snoc start e (x ∷ l) h d zero = h 0
low_snoc start e (x ∷ l) h d (suc k) = low_snoc start e l (λ k. h (suc k)) d k

pub each_flat : {A B : Type 0} (P : A → Type 0) (Q : B → Type 0) (h : A → List B) (l : List A) → ((e : A) → P e → Each Q (h e)) → Each P l → Each Q (flat h l)
each_flat P Q h [] k a = tt
each_flat P Q h (e ∷ l) k a = each_append Q (h e) (flat h l) (k e a.0) (each_flat P Q h l k a.1)

points_from_low : (start : ℕ) (steps : List ℕ) → Each (λ e. e ≤ start) steps → (n m : ℕ) (fixed : List ℕ) → Low start m fixed
    → Each (Low start (m + n)) (points_from steps fixed n)
points_from_low start steps h zero m fixed f = (record { full = omega (arith, f.full); low = f.low }, tt)
points_from_low start steps h (suc n) m fixed f =
    let z : m + 1 + n ≡ m + suc n = omega arith in
    each_flat (λ e. e ≤ start) (Low start (m + suc n)) (λ (e : ℕ). points_from steps (fixed ++ (e ∷ [])) n) steps
    (λ e d. subst (λ (x : ℕ). Each (Low start x) (points_from steps (fixed ++ (e ∷ [])) n)) z (points_from_low start steps h n (m + 1) (fixed ++ (e ∷ [])) (one e d))) h
  where
    one : (e : ℕ) → e ≤ start → Low start (m + 1) (fixed ++ (e ∷ []))
    one e d = record { full = omega (arith, length-append fixed (e ∷ []), f.full); low = low_snoc start e fixed f.low d }

pub points_low : (start g n : ℕ) → 2 ≤ g → Each (Low start n) (points_of (steps_of start g) n)
unfolding points_of
points_low start g n h =
    let z : 0 + n ≡ n = omega arith in
    subst (λ (x : ℕ). Each (Low start x) (points_from (steps_of start g) [] n)) z
    (points_from_low start (steps_of start g) (steps_low start g h) n 0 [] (record { full = refl; low = λ k. omega arith }))

-- the search

module _ (at : List ℕ → Answer) (n : ℕ) where
  -- "With every e = 0 the delay is called start."
  pub start_is : (mode g : ℕ) → (found_of at n mode g).start ≡ (at (replicate n 0)).delay
  unfolding found_of
  start_is mode g = refl

  -- "Mode 0 searches": the answer is what stands at the first point with the least delay
  pub search_first : (g : ℕ) → 1 ≤ g → First at (points_of (steps_of (at (replicate n 0)).delay g) n) (found_of at n 0 g).best
  unfolding found_of
  search_first g h = go (best_first at (at (replicate n 0)) points)
    where
      points : List (List ℕ)
      points = points_of (steps_of (at (replicate n 0)).delay g) n

      front : (rest : List (List ℕ)) × (points ≡ replicate n 0 ∷ rest)
      front = points_front (at (replicate n 0)).delay g n h

      best : Answer
      best = best_of at (at (replicate n 0)) points

      go : ((best ≡ at (replicate n 0)) × Each (λ p. (at (replicate n 0)).delay ≤ (at p).delay) points)
          ⊎ ((best.delay < (at (replicate n 0)).delay) × First at points best) → First at points best
      go (inr x) = x.1
      go (inl x) =
          let e = ap (λ (r : Answer). r.delay) x.0 in
          let k = subst (Each (λ p. (at (replicate n 0)).delay ≤ (at p).delay)) front.1 x.1 in
          record {
            before = [];
            point = replicate n 0;
            behind = front.0;
            split = front.1;
            there = x.0;
            greater = tt;
            least = each_map (λ p. (at (replicate n 0)).delay ≤ (at p).delay) (λ p. best.delay ≤ (at p).delay) front.0 (λ p l. omega (arith, e)) k.1;
          }

  -- "Mode 1, quick, answers start and every e = 0."
  pub quick_is : (mode g : ℕ) → 0 < mode → (found_of at n mode g).best ≡ at (replicate n 0)
  unfolding found_of
  quick_is mode g h = rw (ne_eqb mode 0 (λ e. omega arith))

  -- the answer stands at a point whose extras are at most start
  pub found_at : (mode g : ℕ) → 2 ≤ g → (p : List ℕ) × Low (at (replicate n 0)).delay n p × ((found_of at n mode g).best ≡ at p)
  found_at zero g h =
      let f = search_first g (omega arith) in
      let s = (at (replicate n 0)).delay in
      let l = subst (Each (Low s n)) f.split (points_low s g n h) in
      (f.point, each_in (Low s n) f.before f.point f.behind l, f.there)
  found_at (suc mode) g h =
      let s = (at (replicate n 0)).delay in
      let e = points_front s g n (omega arith) in
      let l = subst (Each (Low s n)) e.1 (points_low s g n h) in
      (replicate n 0, l.0, quick_is (suc mode) g (omega arith))

  -- and its delay is never above start
  pub found_le_start : (mode g : ℕ) → (found_of at n mode g).best.delay ≤ (found_of at n mode g).start
  unfolding found_of
  found_le_start zero g = best_le at (at (replicate n 0)) (points_of (steps_of (at (replicate n 0)).delay g) n)
  found_le_start (suc mode) g = omega (arith, ap (λ (r : Answer). r.delay) (quick_is (suc mode) g (omega arith)))
