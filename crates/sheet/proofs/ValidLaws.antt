-- A list of numbers is a sheet's exactly where it is `Valid`: what the field rule admits, field by field, is document 01's table. Both ways are
-- proved of a walk over any source by any user's rule; the reader's and the writer's are instances.
-- Assumes nothing.
use Rattle.std.specs.Prelude.{ℕ, zero, suc, ◌+◌, ◌-◌, ◌≤◌, ◌<◌, ◌≡◌, refl, ◌⊎◌, List, [], ◌∷◌, Bool, true, false, Result, Ok, ◌&&◌, ◌||◌, length, get_or, drop, leb, eqb}
use Rattle.std.proofs.Common.{sym, ap, ◌∙◌, inl, inr, ⊎_elim, add-one, arith, drop_of_length-le, drop-cons, le-leb, eq-eqb, ne_eqb, eqb-true}
use Rattle.ground.proofs.OrderLaws.{lt_or_ge, eq_or_ne}
use Rattle.numbers.specs.Seven.{number_at}
use Rattle.numbers.specs.declared.Fault.{Fault}
use Rattle.fields.specs.declared.User.{User}
use Rattle.fields.specs.declared.User.TheVariants.{Reader, Writer}
use Rattle.fields.specs.declared.Rule.{Rule}
use Rattle.fields.specs.declared.Rule.TheVariants.{ZeroOr}
use Rattle.fields.specs.Rule.{most, mode_rule, field_rule, Seen, nothing, server_at, flow_at, field_at, rule_at, seen_after, allowed, is_past}
use Rattle.fields.proofs.StepLaws.{Gave, value_step, end_step, range_bounds}
use Rattle.fields.proofs.PlaceLaws.{Place, the_edition, the_servers, a_rate, a_latency, the_count, a_flow, the_rest, place_of, field_in, field_place}
use Rattle.fields.proofs.PlaceLaws.{field_behind, field_more, past_field}
use Rattle.sheet.specs.Sheet.{these, walk, entry_at, sheet_of, list_of}
use Rattle.sheet.proofs.EntryLaws.{entry_in}
use Rattle.sheet.proofs.WalkLaws.{Walked, gave, ended, walked, walk_none, list_whole}
use Rattle.sheet.specs.Valid.{edition, server_count, server_place, count_place, flow_count, flow_place, watched_place, mode, grid, Within, Valid}

-- What is known of a list where place i comes next.
pub record Knows (xs : List ℕ) (i : ℕ) (e : Seen) : Type 0 where
  edition : 1 ≤ i → e.edition ≡ edition xs
  servers : 2 ≤ i → e.servers ≡ server_count xs
  flows : flow_place xs 0 ≤ i → e.flows ≡ flow_count xs
  prev : 1 ≤ i → e.prev ≡ get_or xs (i - 1) 0

pub knows_nothing : (xs : List ℕ) → Knows xs 0 nothing
knows_nothing xs = record {
  edition = λ h. absurd (omega arith);
  servers = λ h. absurd (omega arith);
  flows = λ h. absurd (omega arith);
  prev = λ h. absurd (omega arith);
}

pub knows_after : (xs : List ℕ) (i : ℕ) (e : Seen) → Knows xs i e → Knows xs (i + 1) (seen_after e i (get_or xs i 0))
unfolding seen_after
knows_after xs i e k = record {
  edition = λ h.
      ⊎_elim (λ (q : i ≡ 0). rw (eq-eqb i 0 q, q)) (λ (q : i ≡ 0 → ⊥). rw (ne_eqb i 0 q) (k.edition (omega arith))) (eq_or_ne i 0);
  servers = λ h.
      ⊎_elim (λ (q : i ≡ 1). rw (eq-eqb i 1 q, q)) (λ (q : i ≡ 1 → ⊥). rw (ne_eqb i 1 q) (k.servers (omega arith))) (eq_or_ne i 1);
  flows = λ h. flows_by h (eq_or_ne i (server_at e.edition e.servers 0));
  prev = λ h. let q : i + 1 - 1 ≡ i = omega arith in rw q;
}
  where
    flows_by : flow_place xs 0 ≤ i + 1 → (i ≡ server_at e.edition e.servers 0) ⊎ (i ≡ server_at e.edition e.servers 0 → ⊥)
        → (seen_after e i (get_or xs i 0)).flows ≡ flow_count xs
    flows_by h (inl q) =
        let m : e.servers ≡ server_count xs = k.servers (omega arith) in
        rw (eq-eqb i (server_at e.edition e.servers 0) q) (ap (λ (p : ℕ). get_or xs p 0) (q ∙ ap (λ (n : ℕ). server_at e.edition n 0) m))
    flows_by h (inr q) =
        let m : e.servers ≡ server_count xs = k.servers (omega arith) in
        rw (ne_eqb i (server_at e.edition e.servers 0) q) (k.flows (omega arith))

-- Which field stands at a place of a list, and its rule.
abbrev pub FieldAt : List ℕ → ℕ → Type 0
FieldAt xs i = Place (edition xs) (server_count xs) (flow_count xs) i

abbrev pub rule_of : User → (xs : List ℕ) (i : ℕ) → FieldAt xs i → Rule
rule_of u xs i p = field_rule u (server_count xs) (get_or xs (i - 1) 0) (field_in p)

-- the rules of the fields before the flows ask for nothing that was read
plain_rule : (u : User) (n before n' before' : ℕ) {edition m f i : ℕ} (p : Place edition m f i) → i < flow_at edition m 0
    → field_rule u n before (field_in p) ≡ field_rule u n' before' (field_in p)
unfolding field_in
plain_rule u n before n' before' (the_edition q) h = refl
plain_rule u n before n' before' (the_servers q) h = refl
plain_rule u n before n' before' (a_rate j l q) h = refl
plain_rule u n before n' before' (a_latency j l q) h = refl
plain_rule u n before n' before' (the_count q) h = refl
plain_rule u n before n' before' (a_flow k c l m q) h = absurd (omega arith)
plain_rule u n before n' before' (the_rest c q) h = absurd (omega arith)

pub rule_known : (u : User) (xs : List ℕ) (i : ℕ) (e : Seen) → Knows xs i e → (p : FieldAt xs i) → rule_at u i e ≡ rule_of u xs i p
unfolding rule_at
rule_known u xs i e k p =
    let f : field_at i e ≡ field_in p = field_place e p (λ h. sym (k.edition h)) (λ h. sym (k.servers h)) (λ h. sym (k.flows h)) in
    rw f
    (⊎_elim (λ (h : i < flow_place xs 0). plain_rule u e.servers e.prev (server_count xs) (get_or xs (i - 1) 0) p h)
    (λ (h : flow_place xs 0 ≤ i).
    ap (λ (n : ℕ). field_rule u n e.prev (field_in p)) (k.servers (omega arith))
    ∙ ap (λ (b : ℕ). field_rule u (server_count xs) b (field_in p)) (k.prev (omega arith)))
    (lt_or_ge i (flow_place xs 0)))

-- A list whose numbers fit their fields, one by one, and that ends behind the last field.
record Fits (u : User) (xs : List ℕ) : Type 0 where
  more : (i : ℕ) → i < length xs → (p : FieldAt xs i) → is_past (rule_of u xs i p) ≡ false
  fine : (i : ℕ) → i < length xs → (p : FieldAt xs i) → allowed (rule_of u xs i p) (get_or xs i 0) ≡ true
  done : (p : FieldAt xs (length xs)) → is_past (rule_of u xs (length xs) p) ≡ true

-- A walk that gives a list shows that the list fits, from the place reached on.
record FitsFrom (u : User) (xs : List ℕ) (i : ℕ) : Type 0 where
  more : (j : ℕ) → i ≤ j → j < length xs → (p : FieldAt xs j) → is_past (rule_of u xs j p) ≡ false
  fine : (j : ℕ) → i ≤ j → j < length xs → (p : FieldAt xs j) → allowed (rule_of u xs j p) (get_or xs j 0) ≡ true
  done : (p : FieldAt xs (length xs)) → is_past (rule_of u xs (length xs) p) ≡ true

-- what holds at i, and from i + 1 on, holds from i on
from_here : {P : ℕ → Type 0} (i : ℕ) → P i → ((j : ℕ) → i + 1 ≤ j → P j) → (j : ℕ) → i ≤ j → P j
from_here {P} i here on j h =
    ⊎_elim (λ (l : i < j). on j (omega arith)) (λ (g : j ≤ i). let e : j ≡ i = omega arith in rw e here) (lt_or_ge i j)

-- the first number of what is left of a list stands at the place reached
head_at : (xs : List ℕ) (i x : ℕ) (zs : List ℕ) → drop i xs ≡ x ∷ zs → (i < length xs) × ((get_or xs i 0 ≡ x) × (drop (i + 1) xs ≡ zs))
head_at xs i x zs e =
    ⊎_elim
    (λ (h : i < length xs). let d = sym (drop-cons xs i 0 h) ∙ e in (h, (cc, rw (add-one i) (cc))))
    (λ (h : length xs ≤ i). let d : [] ≡ x ∷ zs = sym (drop_of_length-le xs h) ∙ e in absurd (cc))
    (lt_or_ge i (length xs))

none_at : (xs : List ℕ) (i : ℕ) → drop i xs ≡ [] → length xs ≤ i
none_at xs i e =
    ⊎_elim
    (λ (h : i < length xs). let d = sym (drop-cons xs i 0 h) ∙ e in absurd (cc))
    (λ (h : length xs ≤ i). h)
    (lt_or_ge i (length xs))

module _ (u : User) (xs : List ℕ) where
  fits_here : (g : Result (ℕ × ℕ) Fault) (i x next : ℕ) (e : Seen) → Knows xs i e → Gave g (rule_at u i e) x next → get_or xs i 0 ≡ x → FitsFrom u xs (i + 1) → FitsFrom u xs i
  fits_here g i x next e k v t f =
      record {
        more = from_here {P = λ j. j < length xs → (p : FieldAt xs j) → is_past (rule_of u xs j p) ≡ false} i
            (λ h p. rw (← rule_known u xs i e k p) v.more) f.more;
        fine = from_here {P = λ j. j < length xs → (p : FieldAt xs j) → allowed (rule_of u xs j p) (get_or xs j 0) ≡ true} i
            (λ h p. rw (← rule_known u xs i e k p, t) v.fine) f.fine;
        done = f.done;
      }

  fits_end : (i : ℕ) (e : Seen) → i ≤ length xs → length xs ≤ i → Knows xs i e → is_past (rule_at u i e) ≡ true → FitsFrom u xs i
  fits_end i e h l k z =
      let q : length xs ≡ i = omega arith in
      record {
        more = λ j a b p. absurd (omega arith);
        fine = λ j a b p. absurd (omega arith);
        done = rw q (λ (p : FieldAt xs i). rw (← rule_known u xs i e k p) z);
      }

  fits_by : (source : ℕ → Result (ℕ × ℕ) Fault) (size n at i : ℕ) (e : Seen) (ys : List ℕ) → i ≤ length xs → Knows xs i e → drop i xs ≡ ys → Walked u source size n at i e ys
      → ((next : ℕ) (e' : Seen) (zs : List ℕ) → i + 1 ≤ length xs → Knows xs (i + 1) e' → drop (i + 1) xs ≡ zs
      → walk u source size n next (i + 1) e' ≡ these zs → FitsFrom u xs (i + 1))
      → FitsFrom u xs i
  fits_by source size n at i e ys h k d (gave x next zs v y w) go =
      let t = head_at xs i x zs (d ∙ y) in
      let k' : Knows xs (i + 1) (seen_after e i x) = rw (← t.1.0) (knows_after xs i e k) in
      fits_here (source at) i x next e k v t.1.0 (go next (seen_after e i x) zs (omega (arith, t.0)) k' t.1.1 w)
  fits_by source size n at i e ys h k d (ended y p l) go = fits_end i e h (none_at xs i (d ∙ y)) k p

  fits_from : (source : ℕ → Result (ℕ × ℕ) Fault) (size n at i : ℕ) (e : Seen) (ys : List ℕ) → i ≤ length xs → Knows xs i e → drop i xs ≡ ys
      → walk u source size n at i e ≡ these ys → FitsFrom u xs i
  fits_from source size zero at i e ys h k d w = absurd (walk_none u source size at i e ys w)
  fits_from source size (suc n) at i e ys h k d w =
      fits_by source size n at i e ys h k d (walked u source size n at i e ys w)
      (λ next e' zs h' k' d' w'. fits_from source size n next (i + 1) e' zs h' k' d' w')

  walked_fits : (source : ℕ → Result (ℕ × ℕ) Fault) (size n : ℕ) → walk u source size n 0 0 nothing ≡ these xs → Fits u xs
  walked_fits source size n w =
      let f : FitsFrom u xs 0 = fits_from source size n 0 0 nothing xs (omega arith) (knows_nothing xs) refl w in
      record { more = λ i h p. f.more i (omega arith) h p; fine = λ i h p. f.fine i (omega arith) h p; done = f.done }

-- From the fields to the table.

-- the rule of a field, whichever refusal it leads to, is its range
within : {u : User} {low high : ℕ} (xs : List ℕ) (i : ℕ) → Fits u xs → i < length xs → (p : FieldAt xs i)
    → allowed (rule_of u xs i p) (get_or xs i 0) ≡ (leb low (get_or xs i 0) && leb (get_or xs i 0) high) → Within low high (get_or xs i 0)
within {u} {low} {high} xs i f h p e =
    let b = range_bounds low (get_or xs i 0) high (sym e ∙ f.fine i h p) in
    record { least = b.0; most = b.1 }

zero_or : (x : ℕ) → allowed (ZeroOr 2 9) x ≡ true → (x ≡ 0) ⊎ Within 2 9 x
zero_or x h = by (eqb x 0) refl h
  where
    by : (t : Bool) → eqb x 0 ≡ t → (t || (leb 2 x && leb x 9)) ≡ true → (x ≡ 0) ⊎ Within 2 9 x
    by true e a = inl (eqb-true x 0 e)
    by false e a = let b = range_bounds 2 x 9 a in inr (record { least = b.0; most = b.1 })

-- the mode that either user takes is 0 or 1
mode_within : (u : User) (x : ℕ) → allowed (mode_rule u) x ≡ true → Within 0 1 x
mode_within Reader x h = let b = range_bounds 0 x 1 h in record { least = b.0; most = b.1 }
mode_within Writer x h = let b = range_bounds 0 x 1 h in record { least = b.0; most = b.1 }

-- a list that fits ends just behind g
fits_size : {u : User} (xs : List ℕ) → Fits u xs → length xs ≡ watched_place xs + 4
unfolding field_in
fits_size {u} xs f =
    ⊎_elim
    (λ (l : watched_place xs + 4 < length xs).
    let past = ap is_past (field_behind u (server_count xs) (get_or xs (watched_place xs + 4 - 1) 0) 13 (omega arith)) in
    let z : ◌≡◌ {A = Bool} true false = sym past ∙ f.more (watched_place xs + 4) l (the_rest 4 refl) in
    let o : ◌≡◌ {A = ℕ} 0 1 = cc in
    absurd (omega arith))
    (λ (g : length xs ≤ watched_place xs + 4). ends_by (place_of (edition xs) (server_count xs) (flow_count xs) (length xs)) g)
    (lt_or_ge (watched_place xs + 4) (length xs))
  where
    behind_table : (p : FieldAt xs (length xs)) → 13 ≤ field_in p
    behind_table p = past_field u (server_count xs) (get_or xs (length xs - 1) 0) (field_in p) (f.done p)

    ends_by : (p : FieldAt xs (length xs)) → length xs ≤ watched_place xs + 4 → length xs ≡ watched_place xs + 4
    ends_by (the_edition q) g = absurd (omega (arith, behind_table (the_edition q)))
    ends_by (the_servers q) g = absurd (omega (arith, behind_table (the_servers q)))
    ends_by (a_rate j l q) g = absurd (omega (arith, behind_table (a_rate j l q)))
    ends_by (a_latency j l q) g = absurd (omega (arith, behind_table (a_latency j l q)))
    ends_by (the_count q) g = absurd (omega (arith, behind_table (the_count q)))
    ends_by (a_flow k c l m q) g = absurd (omega (arith, behind_table (a_flow k c l m q)))
    ends_by (the_rest c q) g = omega (arith, behind_table (the_rest c q))

fits_valid : {u : User} (xs : List ℕ) → Fits u xs → Valid xs
unfolding field_in
fits_valid {u} xs f =
    let s : length xs ≡ watched_place xs + 4 = fits_size xs f in
    record {
      one_edition = within xs 0 f (omega arith) (the_edition refl) refl;
      servers = within xs 1 f (omega arith) (the_servers refl) refl;
      rates = λ j h. within xs (server_place xs j 0) f (omega arith) (a_rate j h refl) refl;
      latencies = λ j h. within xs (server_place xs j 1) f (omega arith) (a_latency j h refl) refl;
      flows = within xs (count_place xs) f (omega arith) (the_count refl) refl;
      firsts = λ k h. within xs (flow_place xs k) f (omega arith) (a_flow k 0 h (omega arith) (omega arith)) refl;
      lasts = λ k h.
          let q : flow_place xs k + 1 - 1 ≡ flow_place xs k = omega arith in
          within xs (flow_place xs k + 1) f (omega arith) (a_flow k 1 h (omega arith) refl) (rw q);
      flow_bursts = λ k h. within xs (flow_place xs k + 2) f (omega arith) (a_flow k 2 h (omega arith) refl) refl;
      flow_rates = λ k h. within xs (flow_place xs k + 3) f (omega arith) (a_flow k 3 h (omega arith) refl) refl;
      watched_burst = within xs (watched_place xs) f (omega arith) (the_rest 0 (omega arith)) refl;
      watched_rate_lem = within xs (watched_place xs + 1) f (omega arith) (the_rest 1 refl) refl;
      modes = mode_within u (mode xs) (f.fine (watched_place xs + 2) (omega arith) (the_rest 2 refl));
      grids = zero_or (grid xs) (f.fine (watched_place xs + 3) (omega arith) (the_rest 3 refl));
      size = s;
    }

-- A list that a walk by any user's rule over any source gives meets document 01's table.
pub walked_valid : (u : User) (source : ℕ → Result (ℕ × ℕ) Fault) (size n : ℕ) (xs : List ℕ) → walk u source size n 0 0 nothing ≡ these xs → Valid xs
walked_valid u source size n xs w = fits_valid xs (walked_fits u xs source size n w)

-- the reader's numbers, and the writer's
pub read_valid : (s xs : List ℕ) → sheet_of s ≡ these xs → Valid xs
unfolding sheet_of
read_valid s xs w = walked_valid Reader (number_at s) (length s) (suc most) xs w

pub listed_valid : (xs ys : List ℕ) → list_of xs ≡ these ys → Valid xs
unfolding list_of
listed_valid xs ys w = walked_valid Writer (entry_at xs) (length xs) (suc most) xs (w ∙ ap these (list_whole xs ys w))

-- From the table to the fields.

allows_range : {low high x : ℕ} → Within low high x → (leb low x && leb x high) ≡ true
allows_range {low} {high} {x} w = rw (le-leb low x w.least, le-leb x high w.most)

allows_zero_or : (x : ℕ) → (x ≡ 0) ⊎ Within 2 9 x → allowed (ZeroOr 2 9) x ≡ true
allows_zero_or x (inl e) = rw (eq-eqb x 0 e)
allows_zero_or x (inr w) = rw (ne_eqb x 0 (λ q. omega (arith, w.least))) (allows_range w)

-- the number at a place that is named otherwise
at_place : {low high : ℕ} (xs : List ℕ) (i p : ℕ) → i ≡ p → Within low high (get_or xs p 0) → Within low high (get_or xs i 0)
at_place xs i p q w = rw q w

mode_allowed : (u : User) (x : ℕ) → Within 0 1 x → allowed (mode_rule u) x ≡ true
mode_allowed Reader x w = allows_range w
mode_allowed Writer x w = allows_range w

valid_flow : (u : User) (xs : List ℕ) → Valid xs → (i k c : ℕ) → k < flow_count xs → c < 4 → i ≡ flow_place xs k + c
    → allowed (field_rule u (server_count xs) (get_or xs (i - 1) 0) (5 + c)) (get_or xs i 0) ≡ true
valid_flow u xs v i k zero h l q = allows_range (at_place xs i (flow_place xs k) (omega arith) (v.firsts k h))
valid_flow u xs v i k (suc zero) h l q =
    let b : i - 1 ≡ flow_place xs k = omega arith in
    rw b (allows_range (at_place xs i (flow_place xs k + 1) q (v.lasts k h)))
valid_flow u xs v i k (suc (suc zero)) h l q = allows_range (at_place xs i (flow_place xs k + 2) q (v.flow_bursts k h))
valid_flow u xs v i k (suc (suc (suc zero))) h l q = allows_range (at_place xs i (flow_place xs k + 3) q (v.flow_rates k h))
valid_flow u xs v i k (suc (suc (suc (suc c)))) h l q = absurd (omega arith)

valid_rest : (u : User) (xs : List ℕ) → Valid xs → (i c : ℕ) → i < length xs → i ≡ watched_place xs + c
    → allowed (field_rule u (server_count xs) (get_or xs (i - 1) 0) (9 + c)) (get_or xs i 0) ≡ true
valid_rest u xs v i zero l q = allows_range (at_place xs i (watched_place xs) (omega arith) v.watched_burst)
valid_rest u xs v i (suc zero) l q = allows_range (at_place xs i (watched_place xs + 1) q v.watched_rate_lem)
valid_rest u xs v i (suc (suc zero)) l q = mode_allowed u (get_or xs i 0) (at_place xs i (watched_place xs + 2) q v.modes)
valid_rest u xs v i (suc (suc (suc zero))) l q = rw q (allows_zero_or (grid xs) v.grids)
valid_rest u xs v i (suc (suc (suc (suc c)))) l q = absurd (omega (arith, v.size))

valid_fine : (u : User) (xs : List ℕ) → Valid xs → (i : ℕ) → i < length xs → (p : FieldAt xs i) → allowed (rule_of u xs i p) (get_or xs i 0) ≡ true
unfolding field_in
valid_fine u xs v i h (the_edition q) = allows_range (at_place xs i 0 q v.one_edition)
valid_fine u xs v i h (the_servers q) = allows_range (at_place xs i 1 q v.servers)
valid_fine u xs v i h (a_rate j l q) = allows_range (at_place xs i (server_place xs j 0) q (v.rates j l))
valid_fine u xs v i h (a_latency j l q) = allows_range (at_place xs i (server_place xs j 1) q (v.latencies j l))
valid_fine u xs v i h (the_count q) = allows_range (at_place xs i (count_place xs) q v.flows)
valid_fine u xs v i h (a_flow k c l m q) = valid_flow u xs v i k c l m q
valid_fine u xs v i h (the_rest c q) = valid_rest u xs v i c h q

-- the places of a valid list are those of the table's fields, and its end lies behind them
valid_places : (xs : List ℕ) → Valid xs → (i : ℕ) (p : FieldAt xs i) → (i < length xs → field_in p < 13) × (length xs ≤ i → 13 ≤ field_in p)
unfolding field_in
valid_places xs v i (the_edition q) = (λ h. omega arith, λ h. absurd (omega (arith, v.size)))
valid_places xs v i (the_servers q) = (λ h. omega arith, λ h. absurd (omega (arith, v.size)))
valid_places xs v i (a_rate j l q) = (λ h. omega arith, λ h. absurd (omega (arith, v.size)))
valid_places xs v i (a_latency j l q) = (λ h. omega arith, λ h. absurd (omega (arith, v.size)))
valid_places xs v i (the_count q) = (λ h. omega arith, λ h. absurd (omega (arith, v.size)))
valid_places xs v i (a_flow k c l m q) = (λ h. omega arith, λ h. absurd (omega (arith, v.size)))
valid_places xs v i (the_rest c q) = (λ h. omega (arith, v.size), λ h. omega (arith, v.size))

valid_fits : (u : User) (xs : List ℕ) → Valid xs → Fits u xs
valid_fits u xs v =
    record {
      more = λ i h p. field_more u (server_count xs) (get_or xs (i - 1) 0) (field_in p) ((valid_places xs v i p).0 h);
      fine = valid_fine u xs v;
      done = λ p. ap is_past (field_behind u (server_count xs) (get_or xs (length xs - 1) 0) (field_in p) ((valid_places xs v (length xs) p).1 (omega arith)));
    }

-- "at most 231" numbers
pub valid_length : (xs : List ℕ) → Valid xs → length xs ≤ most
valid_length xs v = omega (arith, v.size, v.servers.most, v.flows.most)

-- A source that gives the numbers of a list one by one: where number i begins, and that nothing is left behind the last.
pub record Source (source : ℕ → Result (ℕ × ℕ) Fault) (size : ℕ) (place : ℕ → ℕ) (xs : List ℕ) : Type 0 where
  pub numbers : (i : ℕ) → i < length xs → source (place i) ≡ Ok (get_or xs i 0, place (i + 1))
  pub end : size ≤ place (length xs)

-- A list that fits is taken whole from such a source.
module _ (u : User) {source : ℕ → Result (ℕ × ℕ) Fault} {size : ℕ} {place : ℕ → ℕ} (xs : List ℕ) (g : Source source size place xs) (f : Fits u xs) where
  taken : (n i : ℕ) (e : Seen) → Knows xs i e → i ≤ length xs → length xs < i + n → walk u source size n (place i) i e ≡ these (drop i xs)
  taken zero i e k h l = absurd (omega arith)
  taken (suc n) i e k h l =
      ⊎_elim
      (λ (a : i < length xs).
      let p : FieldAt xs i = place_of (edition xs) (server_count xs) (flow_count xs) i in
      let r : rule_at u i e ≡ rule_of u xs i p = rule_known u xs i e k p in
      let v : Gave (source (place i)) (rule_at u i e) (get_or xs i 0) (place (i + 1)) =
      record { more = rw r (f.more i a p); read = g.numbers i a; fine = rw r (f.fine i a p) } in
      let t = taken n (i + 1) (seen_after e i (get_or xs i 0)) (knows_after xs i e k) (omega arith) (omega arith) in
      rw (value_step (source (place i)) size (place i) (rule_at u i e) (get_or xs i 0) (place (i + 1)) v, t, add-one i, drop-cons xs i 0 a))
      (λ (b : length xs ≤ i).
      let q : length xs ≡ i = omega arith in
      let p : FieldAt xs (length xs) = place_of (edition xs) (server_count xs) (flow_count xs) (length xs) in
      let k' : Knows xs (length xs) e = rw q k in
      let r : is_past (rule_at u i e) ≡ true = rw (← q, rule_known u xs (length xs) e k' p) (f.done p) in
      let z : size ≤ place i = rw (← q) g.end in
      rw (end_step (source (place i)) size (place i) (rule_at u i e) r z, drop_of_length-le xs b))
      (lt_or_ge i (length xs))

-- A valid list is taken whole by any user's rule.
pub valid_walked : (u : User) (source : ℕ → Result (ℕ × ℕ) Fault) (size : ℕ) (place : ℕ → ℕ) (xs : List ℕ) → Source source size place xs → Valid xs
    → walk u source size (suc most) (place 0) 0 nothing ≡ these xs
valid_walked u source size place xs g v =
    taken u xs g (valid_fits u xs v) (suc most) 0 nothing (knows_nothing xs) (omega arith) (omega (arith, valid_length xs v))

pub valid_listed : (xs : List ℕ) → Valid xs → list_of xs ≡ these xs
unfolding list_of
valid_listed xs v = valid_walked Writer (entry_at xs) (length xs) (λ i. i) xs (record { numbers = λ i h. entry_in xs i h; end = omega arith }) v
