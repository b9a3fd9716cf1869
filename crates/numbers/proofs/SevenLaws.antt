-- Laws of the seven-bit number: how many bytes it takes, that what was written is read back, that what was read is written back
-- byte for byte, and that reading looks at no byte behind the number.
-- Assumes nothing.
use Rattle.std.specs.Prelude.{ℕ, zero, suc, ◌+◌, ◌-◌, ◌*◌, ◌/◌, ◌%◌, ◌^◌, ◌≤◌, ◌<◌, ◌≡◌, refl, ◌⊎◌, List, [], ◌∷◌, ◌++◌, Result, Ok, cond, length, get_or, take, drop, ltb}
use Rattle.std.proofs.Common.{sym, ap, ◌∙◌, inl, inr, ⊎_elim, add-one, arith, length-drop, get_or-drop, length-take-le, take-take, lt-ltb, le-ltb, ne_eqb, eq-eqb}
use Rattle.std.proofs.Math.Bool.{and-false}
use Rattle.std.proofs.Math.Seq.{drop-append_seam}
use Rattle.ground.proofs.OrderLaws.{lt_or_ge}
use Rattle.ground.specs.Base.{width}
use Rattle.ground.proofs.BaseLaws.{below_power, width_some, width_few, width_most, width_least}
use Rattle.numbers.specs.declared.Fault.{Fault}
use Rattle.numbers.specs.Seven.{Run, ends, long, run, push, scan, judge, number_at, groups, encode}

-- The groups of a number, one by one.

pub groups_last : (n x : ℕ) → x < 128 → groups (suc n) x ≡ x ∷ []
groups_last n x h = rw (lt-ltb x 128 h)

pub groups_more : (n x : ℕ) → 128 ≤ x → groups (suc n) x ≡ (x % 128 + 128) ∷ groups n (x / 128)
groups_more n x h = rw (le-ltb x 128 h)

-- there are as many of them as digits in base 128
groups_width : (n x : ℕ) → length (groups n x) ≡ width 128 n x
groups_width zero x = refl
groups_width (suc n) x =
    ⊎_elim (λ h. rw (lt-ltb x 128 h)) (λ h. rw (le-ltb x 128 h) (ap suc (groups_width n (x / 128)))) (lt_or_ge x 128)

pub groups_some : (n x : ℕ) → 0 < length (groups (suc n) x)
groups_some n x = rw groups_width (width_some 128 n x)

-- The width of a number: k + 1 bytes from 128^k (from 0, for k = 0) to below 128^(k + 1).
pub encode_most : (k x : ℕ) → x < 128 ^ suc k → length (encode x) ≤ suc k
unfolding encode
encode_most k x h = rw groups_width (width_most 128 k 5 x (omega arith) h)

pub encode_least : (k x : ℕ) → k ≤ 4 → 128 ^ k ≤ x → k < length (encode x)
unfolding encode
encode_least k x h g = rw groups_width (width_least 128 k 4 x (omega arith) h g)

pub encode_some : (x : ℕ) → 0 < length (encode x)
unfolding encode
encode_some x = groups_some 4 x

pub encode_few : (x : ℕ) → length (encode x) ≤ 5
unfolding encode
encode_few x = rw groups_width (width_few 128 5 x)

-- "groups of seven bits, lowest first; a set top bit says that another group follows": a number below 128 is one group; any other has its lowest
-- seven bits in front, with the top bit set, and behind them the bytes of what is left of it.

pub one_group : (x : ℕ) → x < 128 → encode x ≡ x ∷ []
unfolding encode
one_group x h = groups_last 4 x h

groups_enough : (n x : ℕ) → x < 128 ^ suc n → groups (suc n) x ≡ groups (suc (suc n)) x
groups_enough zero x h = let l : x < 128 = omega arith in rw (lt-ltb x 128 l)
groups_enough (suc n) x h =
    ⊎_elim (λ l. rw (lt-ltb x 128 l))
    (λ g. rw (groups_more (suc n) x g, groups_more (suc (suc n)) x g, groups_enough n (x / 128) (below_power 128 (suc n) x (omega arith) h))) (lt_or_ge x 128)

pub lowest_first : (x : ℕ) → 128 ≤ x → x < 4294967296 → encode x ≡ (x % 128 + 128) ∷ encode (x / 128)
unfolding encode
lowest_first x g h = groups_more 4 x g ∙ ap (λ (l : List ℕ). (x % 128 + 128) ∷ l) (groups_enough 3 (x / 128) (below_power 128 4 x (omega arith) (omega arith)))

-- What was written is read back.

-- the last of at most n groups of x
abbrev top : ℕ → ℕ → ℕ
top zero x = x
top (suc n) x = cond (ltb x 128) x (top n (x / 128))

top_some : (n x : ℕ) → 0 < x → 0 < top n x
top_some zero x h = h
top_some (suc n) x h =
    ⊎_elim (λ l. rw (lt-ltb x 128 l) h) (λ g. rw (le-ltb x 128 g) (top_some n (x / 128) (omega arith))) (lt_or_ge x 128)

scan_groups : (n x : ℕ) (t : List ℕ) → x < 128 ^ suc n → scan (suc n) (groups (suc n) x ++ t) ≡ run x (length (groups (suc n) x)) (top (suc n) x)
scan_groups zero x t h = let l : x < 128 = omega arith in rw (lt-ltb x 128 l) (rw (lt-ltb x 128 l))
scan_groups (suc n) x t h =
    ⊎_elim (λ l. rw (lt-ltb x 128 l) (rw (lt-ltb x 128 l)))
    (λ g.
    let q : x % 128 + 128 - 128 + 128 * (x / 128) ≡ x = omega arith in
    let u : 128 ≤ x % 128 + 128 = omega arith in
    let b : x / 128 < 128 ^ suc n = below_power 128 (suc n) x (omega arith) h in
    rw (le-ltb x 128 g, le-ltb (x % 128 + 128) 128 u, scan_groups n (x / 128) t b, q, add-one))
    (lt_or_ge x 128)

judge_fine : (at v k z : ℕ) → v < 4294967296 → (k ≡ 1) ⊎ (0 < z) → judge at (run v k z) ≡ Ok (v, at + k)
judge_fine at v k z h (inl e) = rw (e, le-ltb 4294967295 v (omega arith), and-false)
judge_fine at v k z h (inr l) = rw (le-ltb 4294967295 v (omega arith), ne_eqb z 0 (λ e. omega arith))

one_or_top : (x : ℕ) → (length (groups 5 x) ≡ 1) ⊎ (0 < top 5 x)
one_or_top x = ⊎_elim (λ l. inl (rw (lt-ltb x 128 l))) (λ g. inr (top_some 5 x (omega arith))) (lt_or_ge x 128)

pub read_written : (a : List ℕ) (x : ℕ) (b : List ℕ) → x < 4294967296
    → number_at (a ++ (encode x ++ b)) (length a) ≡ Ok (x, length a + length (encode x))
unfolding number_at encode
read_written a x b h =
    rw (drop-append_seam, scan_groups 4 x b (omega arith)) (judge_fine (length a) x (length (groups 5 x)) (top 5 x) h (one_or_top x))

-- What was read is written back.

-- every element is a byte
abbrev pub Bytes : List ℕ → Type 0
Bytes s = (i : ℕ) → get_or s i 0 < 256

pub bytes_drop : (s : List ℕ) (n : ℕ) → Bytes s → Bytes (drop n s)
bytes_drop s n h i = rw (get_or-drop n s i 0) (h (n + i))

record Pushed (d : ℕ) (r : Run) (v k z : ℕ) : Type 0 where
  v' : ℕ
  k' : ℕ
  was : r ≡ run v' k' z
  value : v ≡ d + 128 * v'
  count : k ≡ k' + 1

pushed : (d : ℕ) (r : Run) (v k z : ℕ) → push d r ≡ run v k z → Pushed d r v k z
pushed d ends v k z e = absurd (cc)
pushed d long v k z e = absurd (cc)
pushed d (run v' k' z') v k z e = record { v' = v'; k' = k'; was = cc; value = cc; count = cc }

-- what a scan found: its groups stand at the front of the list, and where they are shortest they are those of the value
record Scanned (n : ℕ) (s : List ℕ) (v k z : ℕ) : Type 0 where
  some : 1 ≤ k
  within : k ≤ length s
  under : z ≤ v
  back : (k ≤ 1) ⊎ (0 < z) → take k s ≡ groups n v

scanned_last : (n b : ℕ) (s : List ℕ) (v k z : ℕ) → b < 128 → run b 1 b ≡ run v k z → Scanned (suc n) (b ∷ s) v k z
scanned_last n b s v k z l e =
    let ev : v ≡ b = cc in
    let ek : k ≡ 1 = cc in
    let ez : z ≡ b = cc in
    record { some = omega arith; within = rw ek (omega arith); under = omega arith; back = λ w. rw (ek, ev, groups_last n b l) }

scanned_more : (n b : ℕ) (s : List ℕ) (v k z v' k' : ℕ) → 128 ≤ b → b < 256 → v ≡ b - 128 + 128 * v' → k ≡ k' + 1
    → Scanned n s v' k' z → Scanned (suc n) (b ∷ s) v k z
scanned_more n b s v k z v' k' g u ev ek i =
    record {
      some = omega arith;
      within = omega (arith, i.within);
      under = omega (arith, i.under);
      back = λ w. again (⊎_elim (λ (e : k ≤ 1). absurd (omega (arith, i.some))) (λ (h : 0 < z). h) w);
    }
  where
    again : 0 < z → take k (b ∷ s) ≡ groups (suc n) v
    again h =
        let big : 128 ≤ v = omega (arith, i.under) in
        let low : v % 128 + 128 ≡ b = omega arith in
        let high : v / 128 ≡ v' = omega arith in
        rw (ek, add-one, groups_more n v big, low, high, i.back (inr h))

scanned : (n : ℕ) (s : List ℕ) (v k z : ℕ) → Bytes s → scan n s ≡ run v k z → Scanned n s v k z
scanned zero s v k z h e = absurd (cc)
scanned (suc n) [] v k z h e = absurd (cc)
scanned (suc n) (b ∷ s) v k z h e =
    ⊎_elim (λ l. scanned_last n b s v k z l (rw (lt-ltb b 128 l) at e))
    (λ g.
    let p : Pushed (b - 128) (scan n s) v k z = pushed (b - 128) (scan n s) v k z (rw (le-ltb b 128 g) at e) in
    scanned_more n b s v k z p.v' p.k' g (h 0) p.value p.count
    (scanned n s p.v' p.k' z (λ j. h (suc j)) p.was))
    (lt_or_ge b 128)

-- a number that was accepted: its groups are not too large and shortest
record Accepted (at : ℕ) (r : Run) (x next : ℕ) : Type 0 where
  k : ℕ
  z : ℕ
  was : r ≡ run x k z
  place : next ≡ at + k
  fits : x < 4294967296
  shortest : (k ≤ 1) ⊎ (0 < z)

accepted_run : (at v k z x next : ℕ) → judge at (run v k z) ≡ Ok (x, next) → Accepted at (run v k z) x next
accepted_run at v k z x next e =
    ⊎_elim
    (λ (m : 4294967295 < v). absurd (cc (rw (lt-ltb 4294967295 v m) at e)))
    (λ (f : v ≤ 4294967295).
    let e₁ = rw (le-ltb 4294967295 v f) at e in
    ⊎_elim
    (λ (o : 0 < z). good f (inr o) (rw (ne_eqb z 0 (λ q. omega arith)) at e₁))
    (λ (o : z ≤ 0).
    let e₂ = rw (eq-eqb z 0 (omega arith)) at e₁ in
    ⊎_elim
    (λ (m : 1 < k). absurd (cc (rw (lt-ltb 1 k m) at e₂)))
    (λ (l : k ≤ 1). good f (inl l) (rw (le-ltb 1 k l) at e₂))
    (lt_or_ge 1 k))
    (lt_or_ge 0 z))
    (lt_or_ge 4294967295 v)
  where
    good : v ≤ 4294967295 → (k ≤ 1) ⊎ (0 < z) → ◌≡◌ {A = Result (ℕ × ℕ) Fault} (Ok (v, at + k)) (Ok (x, next)) → Accepted at (run v k z) x next
    good f o q =
        let pair : ◌≡◌ {A = ℕ × ℕ} (v, at + k) (x, next) = cc in
        let ex = ap (λ (p : ℕ × ℕ). p.0) pair in
        record { k = k; z = z; was = cc; place = sym (ap (λ (p : ℕ × ℕ). p.1) pair); fits = omega arith; shortest = o }

accepted : (at : ℕ) (r : Run) (x next : ℕ) → judge at r ≡ Ok (x, next) → Accepted at r x next
accepted at ends x next e = absurd (cc)
accepted at long x next e = absurd (cc)
accepted at (run v k z) x next e = accepted_run at v k z x next e

-- what is known of a number that was read: it fits, and the bytes between its place and the place behind it are just its own
pub record WasRead (s : List ℕ) (at x next : ℕ) : Type 0 where
  pub fits : x < 4294967296
  pub place : next ≡ at + length (encode x)
  pub more : at < next
  pub within : next ≤ length s
  pub bytes : take (length (encode x)) (drop at s) ≡ encode x

pub written_read : (s : List ℕ) (at x next : ℕ) → Bytes s → number_at s at ≡ Ok (x, next) → WasRead s at x next
unfolding number_at encode
written_read s at x next h e =
    let a : Accepted at (scan 5 (drop at s)) x next = accepted at (scan 5 (drop at s)) x next e in
    let i : Scanned 5 (drop at s) x a.k a.z = scanned 5 (drop at s) x a.k a.z (bytes_drop s at h) a.was in
    let b : take a.k (drop at s) ≡ groups 5 x = i.back a.shortest in
    let w : a.k ≡ length (groups 5 x) = sym (length-take-le a.k (drop at s) i.within) ∙ ap length b in
    record {
      fits = a.fits;
      place = a.place ∙ ap (λ (n : ℕ). at + n) w;
      more = omega (arith, a.place, i.some);
      within = omega (arith, a.place, i.within, i.some, length-drop at s);
      bytes = rw (← w) b;
    }

-- Reading looks at no byte behind the number, and never at more than five.

scan_take : (n : ℕ) (s : List ℕ) → scan n s ≡ scan n (take n s)
scan_take zero s = refl
scan_take (suc n) [] = refl
scan_take (suc n) (b ∷ s) = ap (λ (r : Run). cond (ltb b 128) (run b 1 b) (push (b - 128) r)) (scan_take n s)

pub read_five : (s s' : List ℕ) (at : ℕ) → take 5 (drop at s) ≡ take 5 (drop at s') → number_at s at ≡ number_at s' at
unfolding number_at
read_five s s' at e = ap (judge at) (scan_take 5 (drop at s) ∙ ap (scan 5) e ∙ sym (scan_take 5 (drop at s')))

-- a part of the front is a part of the whole
part_front : (n at m : ℕ) (s : List ℕ) → at + n ≤ m → take n (drop at (take m s)) ≡ take n (drop at s)
part_front n zero m s h = take-take n m s (omega arith)
part_front n (suc at) zero s h = absurd (omega arith)
part_front n (suc at) (suc m) [] h = refl
part_front n (suc at) (suc m) (b ∷ s) h = part_front n at m s (omega arith)

pub read_front : (s : List ℕ) (at m : ℕ) → at + 5 ≤ m → number_at (take m s) at ≡ number_at s at
read_front s at m h = read_five (take m s) s at (part_front 5 at m s h)

-- a list that begins as another does
same_head : (k b : ℕ) (s s' : List ℕ) → take (suc k) (b ∷ s) ≡ take (suc k) s' → (t : List ℕ) × ((s' ≡ b ∷ t) × (take k s ≡ take k t))
same_head k b s [] e = absurd (cc)
same_head k b s (b' ∷ t) e = (t, (cc, cc))

-- a whole run of groups does not end with its list, so what follows does not matter
scan_only : (n : ℕ) (s s' : List ℕ) (v k z : ℕ) → scan n s ≡ run v k z → take k s ≡ take k s' → scan n s' ≡ run v k z
scan_only zero s s' v k z e f = e
scan_only (suc n) [] s' v k z e f = absurd (cc)
scan_only (suc n) (b ∷ s) s' v k z e f =
    ⊎_elim
    (λ (l : b < 128).
    let q : run b 1 b ≡ run v k z = rw (lt-ltb b 128 l) at e in
    let one : k ≡ 1 = cc in
    let t = same_head 0 b s s' (rw one at f) in
    rw (t.1.0, lt-ltb b 128 l) q)
    (λ (g : 128 ≤ b).
    let p : Pushed (b - 128) (scan n s) v k z = pushed (b - 128) (scan n s) v k z (rw (le-ltb b 128 g) at e) in
    let c : k ≡ suc p.k' = p.count ∙ add-one p.k' in
    let t = same_head p.k' b s s' (rw c at f) in
    let w = scan_only n s t.0 p.v' p.k' z p.was t.1.1 in
    rw (t.1.0, le-ltb b 128 g, w) (cc (p.value, p.count)))
    (lt_or_ge b 128)

-- the bytes up to the place behind a number are all that it was read from
pub read_no_further : (s s' : List ℕ) (at x n : ℕ) → number_at s at ≡ Ok (x, at + n) → take n (drop at s) ≡ take n (drop at s')
    → number_at s' at ≡ Ok (x, at + n)
unfolding number_at
read_no_further s s' at x n e f =
    let a : Accepted at (scan 5 (drop at s)) x (at + n) = accepted at (scan 5 (drop at s)) x (at + n) e in
    let k : n ≡ a.k = omega (arith, a.place) in
    let r : scan 5 (drop at s') ≡ run x a.k a.z = scan_only 5 (drop at s) (drop at s') x a.k a.z a.was (rw k at f) in
    ap (judge at) (r ∙ sym a.was) ∙ e
