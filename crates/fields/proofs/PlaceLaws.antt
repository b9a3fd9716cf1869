-- Which field stands at each place of a sheet: every place is that of some field of the table or lies behind the last, and the field rule finds it.
-- Assumes nothing.
use Rattle.std.specs.Prelude.{ℕ, ◌+◌, ◌-◌, ◌/◌, ◌%◌, ◌≤◌, ◌<◌, ◌≡◌, refl, Bool, true, false}
use Rattle.std.proofs.Common.{sym, ap, ◌∙◌, ⊎_elim}
use native.Mathlib.Omega.{arith}
use Rattle.std.proofs.Math.ListN.{get_or-eq_default}
use borrow.Author.Tests.{lt-ltb, le-ltb, eq-eqb, ne_eqb}
use Rattle.ground.proofs.OrderLaws.{lt_or_ge, eq_or_ne}
use Rattle.ground.proofs.EachLaws.{each_at}
use Rattle.fields.specs.declared.User.{User}
use Rattle.fields.specs.declared.User.TheVariants.{Reader, Writer}
use Rattle.fields.specs.declared.Rule.TheVariants.{Past}
use Rattle.fields.specs.Rule.{most, mode_rule, table, field_rule, Seen, server_at, flow_at, field_at, rule_at, seen_after, allowed, is_past}
use Rattle.fields.proofs.StepLaws.{range_bounds}

-- Which field stands at place i of a sheet of an edition with n servers and f cross flows.
pub data Place (edition n f i : ℕ) : Type 0 where
  the_edition : i ≡ 0 → Place edition n f i
  the_servers : i ≡ 1 → Place edition n f i
  a_rate : (j : ℕ) → j < n → i ≡ server_at edition j 0 → Place edition n f i
  a_latency : (j : ℕ) → j < n → i ≡ server_at edition j 1 → Place edition n f i
  the_count : i ≡ server_at edition n 0 → Place edition n f i
  a_flow : (k c : ℕ) → k < f → c < 4 → i ≡ flow_at edition n k + c → Place edition n f i
  the_rest : (c : ℕ) → i ≡ flow_at edition n f + c → Place edition n f i

-- every place is that of some field, or lies behind the last
pub place_of : (edition n f i : ℕ) → Place edition n f i
place_of edition n f i =
    ⊎_elim
    (λ (a : i < server_at edition n 0).
    ⊎_elim
    (λ (b : i < 2). ⊎_elim (λ (z : i < 1). the_edition (omega arith)) (λ (z : 1 ≤ i). the_servers (omega arith)) (lt_or_ge i 1))
    (λ (b : 2 ≤ i).
    ⊎_elim (λ (z : (i - 2) % 2 < 1). a_rate ((i - 2) / 2) (omega arith) (omega arith))
    (λ (z : 1 ≤ (i - 2) % 2). a_latency ((i - 2) / 2) (omega arith) (omega arith))
    (lt_or_ge ((i - 2) % 2) 1))
    (lt_or_ge i 2))
    (λ (a : server_at edition n 0 ≤ i).
    ⊎_elim
    (λ (b : i < flow_at edition n f).
    ⊎_elim (λ (z : i < flow_at edition n 0). the_count (omega arith))
    (λ (z : flow_at edition n 0 ≤ i). a_flow ((i - flow_at edition n 0) / 4) ((i - flow_at edition n 0) % 4) (omega arith) (omega arith) (omega arith))
    (lt_or_ge i (flow_at edition n 0)))
    (λ (b : flow_at edition n f ≤ i). the_rest (i - flow_at edition n f) (omega arith))
    (lt_or_ge i (flow_at edition n f)))
    (lt_or_ge i (server_at edition n 0))

-- the number of that field in the table
unfoldable pub field_in : {edition n f i : ℕ} → Place edition n f i → ℕ
field_in (the_edition q) = 0
field_in (the_servers q) = 1
field_in (a_rate j h q) = 2
field_in (a_latency j h q) = 3
field_in (the_count q) = 4
field_in (a_flow k c h l q) = 5 + c
field_in (the_rest c q) = 9 + c

-- The field that the rule finds is that field, once enough is known.
module _ (e : Seen) {edition n f i : ℕ} where
  pub field_place : (p : Place edition n f i) → (1 ≤ i → edition ≡ e.edition) → (2 ≤ i → n ≡ e.servers) → (flow_at edition n 0 ≤ i → f ≡ e.flows)
      → field_at i e ≡ field_in p
  unfolding field_at field_in
  field_place (the_edition q) v s t = rw q
  field_place (the_servers q) v s t = rw q
  field_place (a_rate j h q) v s t =
      let m : n ≡ e.servers = s (omega arith) in
      let r : (i - 2) % 2 ≡ 0 = omega arith in
      rw (le-ltb i 2 (omega arith), lt-ltb i (server_at e.edition e.servers 0) (omega arith), r)
  field_place (a_latency j h q) v s t =
      let m : n ≡ e.servers = s (omega arith) in
      let r : (i - 2) % 2 ≡ 1 = omega arith in
      rw (le-ltb i 2 (omega arith), lt-ltb i (server_at e.edition e.servers 0) (omega arith), r)
  field_place (the_count q) v s t =
      let m : n ≡ e.servers = s (omega arith) in
      rw (
        le-ltb i 2 (omega arith),
        le-ltb i (server_at e.edition e.servers 0) (omega arith),
        lt-ltb i (flow_at e.edition e.servers 0) (omega arith),
      )
  field_place (a_flow k c h l q) v s t =
      let m : n ≡ e.servers = s (omega arith) in
      let u : f ≡ e.flows = t (omega arith) in
      let r : (i - flow_at e.edition e.servers 0) % 4 ≡ c = omega arith in
      rw (
        le-ltb i 2 (omega arith),
        le-ltb i (server_at e.edition e.servers 0) (omega arith),
        le-ltb i (flow_at e.edition e.servers 0) (omega arith),
        lt-ltb i (flow_at e.edition e.servers e.flows) (omega arith),
        r,
      )
  field_place (the_rest c q) v s t =
      let m : n ≡ e.servers = s (omega arith) in
      let u : f ≡ e.flows = t (omega arith) in
      let r : i - flow_at e.edition e.servers e.flows ≡ c = omega arith in
      rw (
        le-ltb i 2 (omega arith),
        le-ltb i (server_at e.edition e.servers 0) (omega arith),
        le-ltb i (flow_at e.edition e.servers 0) (omega arith),
        le-ltb i (flow_at e.edition e.servers e.flows) (omega arith),
        r,
      )

-- the same of a place by what was read itself
pub field_here : (e : Seen) (i : ℕ) (p : Place e.edition e.servers e.flows i) → field_at i e ≡ field_in p
field_here e i p = field_place e p (λ h. refl) (λ h. refl) (λ h. refl)

pub rule_here : (u : User) (e : Seen) (i : ℕ) (p : Place e.edition e.servers e.flows i)
    → rule_at u i e ≡ field_rule u e.servers e.prev (field_in p)
unfolding rule_at
rule_here u e i p = ap (field_rule u e.servers e.prev) (field_here e i p)

-- behind the table there is no field
pub field_behind : (u : User) (n before k : ℕ) → 13 ≤ k → field_rule u n before k ≡ Past
field_behind u n before k h = get_or-eq_default (table u n before) Past {n = k} h

-- and every field of the table is one
mode_more : (u : User) → is_past (mode_rule u) ≡ false
mode_more Reader = refl
mode_more Writer = refl

pub field_more : (u : User) (n before k : ℕ) → k < 13 → is_past (field_rule u n before k) ≡ false
field_more u n before k h =
    each_at (λ r. is_past r ≡ false) (table u n before) Past
    (refl, (refl, (refl, (refl, (refl, (refl, (refl, (refl, (refl, (refl, (refl, (mode_more u, (refl, tt)))))))))))))
    k h

pub past_field : (u : User) (n before k : ℕ) → is_past (field_rule u n before k) ≡ true → 13 ≤ k
past_field u n before k h =
    ⊎_elim
    (λ (l : k < 13). let z : ◌≡◌ {A = Bool} true false = sym h ∙ field_more u n before k l in let o : ◌≡◌ {A = ℕ} 0 1 = cc in absurd (omega arith))
    (λ (g : 13 ≤ k). g)
    (lt_or_ge k 13)

-- what has been read is in range, so the fields end in time
pub record Small (e : Seen) : Type 0 where
  pub servers : e.servers ≤ 16
  pub flows : e.flows ≤ 48

pub past_late : (u : User) (i : ℕ) (e : Seen) → most ≤ i → Small e → rule_at u i e ≡ Past
unfolding field_in
past_late u i e h m =
    let b : e.servers ≤ 16 = m.servers in
    let f : e.flows ≤ 48 = m.flows in
    rule_here u e i (the_rest (i - flow_at e.edition e.servers e.flows) (omega arith))
    ∙ field_behind u e.servers e.prev (9 + (i - flow_at e.edition e.servers e.flows)) (omega arith)

pub small_after : (u : User) (e : Seen) (i x : ℕ) → Small e → allowed (rule_at u i e) x ≡ true → Small (seen_after e i x)
unfolding seen_after field_in
small_after u e i x m h = record {
  servers = ⊎_elim
      (λ (q : i ≡ 1). rw (eq-eqb i 1 q) (range_bounds 1 x 16 (rw (rule_here u e i (the_servers q)) at h)).1)
      (λ (q : i ≡ 1 → ⊥). rw (ne_eqb i 1 q) m.servers)
      (eq_or_ne i 1);
  flows = ⊎_elim
      (λ (q : i ≡ server_at e.edition e.servers 0).
      rw (eq-eqb i (server_at e.edition e.servers 0) q) (range_bounds 0 x 48 (rw (rule_here u e i (the_count q)) at h)).1)
      (λ (q : i ≡ server_at e.edition e.servers 0 → ⊥). rw (ne_eqb i (server_at e.edition e.servers 0) q) m.flows)
      (eq_or_ne i (server_at e.edition e.servers 0));
}
