-- The cursor that moves on from field to field holds at every place what is worked out of the place and of what was read (`cursor_after_lem`).
-- Assumes nothing.
use Prim.Native.Nat.{ℕ, zero, suc, ◌+◌, ◌-◌, ◌/◌, ◌≤◌, ◌<◌}
use Rattle.std.proofs.Math.Path.{◌≡◌, refl, sym}
use Rattle.std.proofs.Common.{ap, ◌∙◌, inl, inr, lt-ltb, le-ltb, eq-eqb, ne_eqb}
use Rattle.std.specs.Prelude.{◌⊎◌, Bool, get_or}
use Rattle.std.proofs.Math.Bool.{true, false}
use native.Mathlib.Omega.{arith}
use Rattle.std.proofs.Math.ListN.{get_or-eq_default}
use Rattle.ground.proofs.OrderLaws.{lt_or_ge}
use Rattle.fields.specs.declared.User.{User}
use Rattle.fields.specs.declared.Cursor.{Cursor}
use Rattle.fields.specs.Rule.{Seen, server_at, flow_at, field_rule, field_at, rule_at, seen_after, allowed}
use Rattle.fields.specs.Cursor.{left_at, cursor_at, standing, moves, ended, cursor_after}
use Rattle.fields.proofs.StepLaws.{range_bounds}
use Rattle.fields.proofs.PlaceLaws.{Place, the_edition, the_servers, a_rate, a_latency, the_count, a_flow, the_rest, place_of, field_in}
use Rattle.fields.proofs.PlaceLaws.{field_place, field_here, rule_here, field_behind}

-- a cursor at a field of a known number moves on as the entry of that number says, and from g or from behind it to the end
pub cursor_from : (u : User) (c : Cursor) (x k : ℕ) → c.field ≡ k → cursor_after u c x ≡ get_or (moves u c x) k (ended u c x)
unfolding cursor_after
cursor_from u c x k e = ap (λ (f : ℕ). get_or (moves u c x) f (ended u c x)) e

pub cursor_behind : (u : User) (c : Cursor) (x : ℕ) → 12 ≤ c.field → cursor_after u c x ≡ ended u c x
unfolding cursor_after
cursor_behind u c x h = get_or-eq_default (moves u c x) (ended u c x) {n = c.field} h

-- a cursor with the field, what is left, N and the number before it of a place is the cursor of that place
arrives : (u : User) (i : ℕ) (e : Seen) (field left servers prev : ℕ) → field_at i e ≡ field → left_at i e ≡ left → e.servers ≡ servers → e.prev ≡ prev
    → standing u field left servers prev ≡ cursor_at u i e
unfolding rule_at
arrives u i e field left servers prev a b c d = sym (λ t. record { field = a t; left = b t; servers = c t; rule = field_rule u (c t) (d t) (a t) })

-- how many are left: none before the servers, then those servers, and behind them those flows, that the place has not passed
left_front : (e : Seen) (i : ℕ) → i < 2 → left_at i e ≡ 0
unfolding left_at
left_front e i h = rw (lt-ltb i 2 h)

left_servers : (e : Seen) (i n : ℕ) → e.servers ≡ n → 2 ≤ i → i < flow_at e.edition n 0 → left_at i e ≡ n - (i - 2) / 2
unfolding left_at
left_servers e i n m h l = rw (le-ltb i 2 h, lt-ltb i (flow_at e.edition e.servers 0) (omega arith), m)

left_flows : (e : Seen) (i n f : ℕ) → e.servers ≡ n → e.flows ≡ f → flow_at e.edition n 0 ≤ i → left_at i e ≡ f - (i - flow_at e.edition n 0) / 4
unfolding left_at
left_flows e i n f m u h = rw (le-ltb i 2 (omega arith), le-ltb i (flow_at e.edition e.servers 0) (omega arith), m, u)

-- what is known behind a number
module _ (e : Seen) (i x : ℕ) where
  servers_now : i ≡ 1 → (seen_after e i x).servers ≡ x
  unfolding seen_after
  servers_now q = rw (eq-eqb i 1 q)

  servers_kept : (i ≡ 1 → ⊥) → (seen_after e i x).servers ≡ e.servers
  unfolding seen_after
  servers_kept q = rw (ne_eqb i 1 q)

  flows_now : i ≡ server_at e.edition e.servers 0 → (seen_after e i x).flows ≡ x
  unfolding seen_after
  flows_now q = rw (eq-eqb i (server_at e.edition e.servers 0) q)

  flows_kept : (i ≡ server_at e.edition e.servers 0 → ⊥) → (seen_after e i x).flows ≡ e.flows
  unfolding seen_after
  flows_kept q = rw (ne_eqb i (server_at e.edition e.servers 0) q)

  prev_now : (seen_after e i x).prev ≡ x
  unfolding seen_after
  prev_now = refl

module _ (u : User) (e : Seen) (i x : ℕ) where
  abbrev here : Cursor
  here = cursor_at u i e

  abbrev next : Seen
  next = seen_after e i x

  -- from the field k, where the entry k of `moves` is the cursor of the next place
  goes : (k field left servers : ℕ) → field_at i e ≡ k → get_or (moves u here x) k (ended u here x) ≡ standing u field left servers x
      → field_at (i + 1) next ≡ field → left_at (i + 1) next ≡ left → next.servers ≡ servers → cursor_after u here x ≡ cursor_at u (i + 1) next
  goes k field left servers a b c d s = cursor_from u here x k a ∙ b ∙ arrives u (i + 1) next field left servers x c d s (prev_now e i x)

  -- the field of the next place, where N and the number of flows are still to be known as they are
  abbrev Next : ℕ → ℕ → Type 0
  Next n f = Place next.edition n f (i + 1)

  lands : (n f : ℕ) → next.servers ≡ n → next.flows ≡ f → (p : Next n f) → field_at (i + 1) next ≡ field_in p
  lands n f s t p = field_place next p (λ h. refl) (λ h. sym s) (λ h. sym t)

  abbrev n : ℕ
  n = e.servers

  abbrev f : ℕ
  f = e.flows

  abbrev at_count : ℕ
  at_count = server_at e.edition n 0

  abbrev flows_at : ℕ
  flows_at = flow_at e.edition n 0

  -- Each field of a server, the number of flows, each field of a flow, and the rest.
  from_rate : (j : ℕ) → j < n → i ≡ server_at e.edition j 0 → cursor_after u here x ≡ cursor_at u (i + 1) next
  unfolding field_in
  from_rate j h q =
      let s : next.servers ≡ n = servers_kept e i x (λ z. omega arith) in
      let here_left = left_servers e i n refl (omega arith) (omega arith) in
      let next_left = left_servers next (i + 1) n s (omega arith) (omega arith) in
      let l : left_at (i + 1) next ≡ left_at i e = omega arith in
      goes 2 3 (left_at i e) n (field_here e i (a_rate j h q)) refl (lands n next.flows s refl (a_latency j h (omega arith))) l s

  from_latency : (j : ℕ) → j < n → i ≡ server_at e.edition j 1 → (1 < left_at i e) ⊎ (left_at i e ≤ 1) → cursor_after u here x ≡ cursor_at u (i + 1) next
  unfolding field_in
  from_latency j h q (inl m) =
      let s : next.servers ≡ n = servers_kept e i x (λ z. omega arith) in
      let here_left = left_servers e i n refl (omega arith) (omega arith) in
      let next_left = left_servers next (i + 1) n s (omega arith) (omega arith) in
      goes 3 2 (left_at i e - 1) n (field_here e i (a_latency j h q)) (rw (lt-ltb 1 (left_at i e) m))
      (lands n next.flows s refl (a_rate (j + 1) (omega arith) (omega arith))) (omega arith) s
  from_latency j h q (inr m) =
      let s : next.servers ≡ n = servers_kept e i x (λ z. omega arith) in
      let here_left = left_servers e i n refl (omega arith) (omega arith) in
      let next_left = left_servers next (i + 1) n s (omega arith) (omega arith) in
      goes 3 4 0 n (field_here e i (a_latency j h q)) (rw (le-ltb 1 (left_at i e) m))
      (lands n next.flows s refl (the_count (omega arith))) (omega arith) s

  from_count : i ≡ at_count → (0 < x) ⊎ (x ≤ 0) → cursor_after u here x ≡ cursor_at u (i + 1) next
  unfolding field_in
  from_count q (inl m) =
      let s : next.servers ≡ n = servers_kept e i x (λ z. omega arith) in
      let t : next.flows ≡ x = flows_now e i x q in
      let l = left_flows next (i + 1) n x s t (omega arith) in
      goes 4 5 x n (field_here e i (the_count q)) (rw (lt-ltb 0 x m)) (lands n x s t (a_flow 0 0 m (omega arith) (omega arith))) (omega arith) s
  from_count q (inr m) =
      let s : next.servers ≡ n = servers_kept e i x (λ z. omega arith) in
      let t : next.flows ≡ x = flows_now e i x q in
      let l = left_flows next (i + 1) n x s t (omega arith) in
      goes 4 9 0 n (field_here e i (the_count q)) (rw (le-ltb 0 x m)) (lands n x s t (the_rest 0 (omega arith))) (omega arith) s

  -- behind the servers N and the number of flows stay, and a number that ends no flow leaves as many as there were
  module _ (b : flows_at ≤ i) where
    same_servers : next.servers ≡ n
    same_servers = servers_kept e i x (λ z. omega arith)

    same_flows : next.flows ≡ f
    same_flows = flows_kept e i x (λ z. omega arith)

    here_left : left_at i e ≡ f - (i - flows_at) / 4
    here_left = left_flows e i n f refl refl b

    next_left : left_at (i + 1) next ≡ f - (i + 1 - flows_at) / 4
    next_left = left_flows next (i + 1) n f same_servers same_flows (omega arith)

    -- from the field k to the next
    on : (k : ℕ) (q : Next n f) → field_at i e ≡ k → get_or (moves u here x) k (ended u here x) ≡ standing u (k + 1) (left_at i e) n x → field_in q ≡ k + 1
        → f - (i + 1 - flows_at) / 4 ≡ f - (i - flows_at) / 4 → cursor_after u here x ≡ cursor_at u (i + 1) next
    on k q a m r l = goes k (k + 1) (left_at i e) n a m (lands n f same_servers same_flows q ∙ r) (next_left ∙ l ∙ sym here_left) same_servers

    from_flow : (k c : ℕ) → k < f → c < 4 → i ≡ flow_at e.edition n k + c → (1 < left_at i e) ⊎ (left_at i e ≤ 1)
        → cursor_after u here x ≡ cursor_at u (i + 1) next
    unfolding field_in
    from_flow k zero h l q w = on 5 (a_flow k 1 h (omega arith) (omega arith)) (field_here e i (a_flow k 0 h l q)) refl refl (omega arith)
    from_flow k (suc zero) h l q w = on 6 (a_flow k 2 h (omega arith) (omega arith)) (field_here e i (a_flow k 1 h l q)) refl refl (omega arith)
    from_flow k (suc (suc zero)) h l q w = on 7 (a_flow k 3 h (omega arith) (omega arith)) (field_here e i (a_flow k 2 h l q)) refl refl (omega arith)
    from_flow k (suc (suc (suc zero))) h l q (inl m) =
        goes 8 5 (left_at i e - 1) n (field_here e i (a_flow k 3 h l q)) (rw (lt-ltb 1 (left_at i e) m))
        (lands n f same_servers same_flows (a_flow (k + 1) 0 (omega (arith, here_left)) (omega arith) (omega arith)))
        (omega (arith, here_left, next_left)) same_servers
    from_flow k (suc (suc (suc zero))) h l q (inr m) =
        goes 8 9 0 n (field_here e i (a_flow k 3 h l q)) (rw (le-ltb 1 (left_at i e) m))
        (lands n f same_servers same_flows (the_rest 0 (omega (arith, here_left)))) (omega (arith, here_left, next_left)) same_servers
    from_flow k (suc (suc (suc (suc c)))) h l q w = absurd (omega arith)

    from_rest : (c : ℕ) → i ≡ flow_at e.edition n f + c → allowed (rule_at u i e) x ≡ true → cursor_after u here x ≡ cursor_at u (i + 1) next
    unfolding field_in
    from_rest zero q a = on 9 (the_rest 1 (omega arith)) (field_here e i (the_rest 0 q)) refl refl (omega arith)
    from_rest (suc zero) q a = on 10 (the_rest 2 (omega arith)) (field_here e i (the_rest 1 q)) refl refl (omega arith)
    from_rest (suc (suc zero)) q a = on 11 (the_rest 3 (omega arith)) (field_here e i (the_rest 2 q)) refl refl (omega arith)
    from_rest (suc (suc (suc zero))) q a = on 12 (the_rest 4 (omega arith)) (field_here e i (the_rest 3 q)) refl refl (omega arith)
    from_rest (suc (suc (suc (suc c)))) q a =
        let r = rule_here u e i (the_rest (suc (suc (suc (suc c)))) q) ∙ field_behind u n e.prev (9 + suc (suc (suc (suc c)))) (omega arith) in
        let z : ◌≡◌ {A = Bool} false true = rw r at a in
        let o : ◌≡◌ {A = ℕ} 0 1 = cc in
        absurd (omega arith)

  from_place : Place e.edition n f i → allowed (rule_at u i e) x ≡ true → cursor_after u here x ≡ cursor_at u (i + 1) next
  unfolding field_in
  from_place (the_edition q) a =
      let s : next.servers ≡ n = servers_kept e i x (λ z. omega arith) in
      goes 0 1 (left_at i e) n (field_here e i (the_edition q)) refl (lands n next.flows s refl (the_servers (omega arith)))
      (left_front next (i + 1) (omega arith) ∙ sym (left_front e i (omega arith))) s
  from_place (the_servers q) a =
      let s : next.servers ≡ x = servers_now e i x q in
      let some = (range_bounds 1 x 16 (rw (rule_here u e i (the_servers q)) at a)).0 in
      let l = left_servers next (i + 1) x s (omega arith) (omega arith) in
      goes 1 2 x x (field_here e i (the_servers q)) refl (lands x next.flows s refl (a_rate 0 some (omega arith))) (omega arith) s
  from_place (a_rate j h q) a = from_rate j h q
  from_place (a_latency j h q) a = from_latency j h q (lt_or_ge 1 (left_at i e))
  from_place (the_count q) a = from_count q (lt_or_ge 0 x)
  from_place (a_flow k c h l q) a = from_flow (omega arith) k c h l q (lt_or_ge 1 (left_at i e))
  from_place (the_rest c q) a = from_rest (omega arith) c q a

-- A number that the rule of its place admits takes the cursor of that place to the cursor of the next.
pub cursor_after_lem : (u : User) (e : Seen) (i x : ℕ) → allowed (rule_at u i e) x ≡ true → cursor_after u (cursor_at u i e) x ≡ cursor_at u (i + 1) (seen_after e i x)
cursor_after_lem u e i x a = from_place u e i x (place_of e.edition e.servers e.flows i) a
