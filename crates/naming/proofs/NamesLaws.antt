-- Where the fields stand, and how long names and ranges are.
-- Assumes nothing.
use Rattle.std.specs.Prelude.{ℕ, zero, suc, ◌+◌, ◌-◌, ◌/◌, ◌%◌, ◌≤◌, ◌<◌, ◌≡◌, refl, List, [], length, get_or}
use Rattle.std.proofs.Common.{arith, length-append}
use borrow.Author.Tests.{lt-ltb, le-ltb}
use Rattle.std.proofs.Math.ListN.{get_or-eq_default}
use Rattle.fields.specs.declared.Rule.{Rule}
use Rattle.fields.specs.declared.Rule.TheVariants.{Range, Path, ZeroOr, Past}
use Rattle.fields.specs.Rule.{per_server, server_at, flow_at, field_at}
use Rattle.text.specs.Lines.{field}
use Rattle.text.proofs.LinesLaws.{field_short}
use Rattle.naming.specs.Names.{server_rate_word, latency_word, first_word, last_word, burst_word, rate_word, outside_word, neither_word, up_to_word, names}
use Rattle.naming.specs.Names.{name_of, seen, owner_at, name_at, ends_of, range_of}
use Rattle.naming.specs.declared.Extent.{Extent}

-- a name takes at most 41 bytes
name_short : (f k : ℕ) → length (name_of f k) ≤ 41
unfolding name_of
name_short zero k = omega arith
name_short (suc zero) k = omega arith
name_short (suc (suc zero)) k = omega (arith, field_short server_rate_word k)
name_short (suc (suc (suc zero))) k = omega (arith, field_short latency_word k)
name_short (suc (suc (suc (suc zero)))) k = omega arith
name_short (suc (suc (suc (suc (suc zero))))) k = omega (arith, field_short first_word k)
name_short (suc (suc (suc (suc (suc (suc zero)))))) k = omega (arith, field_short last_word k)
name_short (suc (suc (suc (suc (suc (suc (suc zero))))))) k = omega (arith, field_short burst_word k)
name_short (suc (suc (suc (suc (suc (suc (suc (suc zero)))))))) k = omega (arith, field_short rate_word k)
name_short (suc (suc (suc (suc (suc (suc (suc (suc (suc zero))))))))) k = omega arith
name_short (suc (suc (suc (suc (suc (suc (suc (suc (suc (suc zero)))))))))) k = omega arith
name_short (suc (suc (suc (suc (suc (suc (suc (suc (suc (suc (suc zero))))))))))) k = omega arith
name_short (suc (suc (suc (suc (suc (suc (suc (suc (suc (suc (suc (suc zero)))))))))))) k = omega arith
name_short (suc (suc (suc (suc (suc (suc (suc (suc (suc (suc (suc (suc (suc f))))))))))))) k = omega arith

pub name_at_short : (i : ℕ) (e : Extent) → length (name_at i e) ≤ 41
unfolding name_at
name_at_short i e = name_short (field_at i (seen e)) (owner_at i (seen e))

pub ends_length : (word : List ℕ) (low high : ℕ) → length (ends_of word low high) ≡ length (field word low) + length (field up_to_word high)
unfolding ends_of
ends_length word low high = length-append (field word low) (field up_to_word high)

ends_short : (word : List ℕ) (low high : ℕ) → length (ends_of word low high) ≤ length word + 42
ends_short word low high = omega (arith, ends_length word low high, field_short word low, field_short up_to_word high)

-- a range takes at most 61 bytes
pub range_short : (rule : Rule) → length (range_of rule) ≤ 61
unfolding range_of
range_short (Range low high) = omega (arith, ends_short outside_word low high)
range_short (Path low high) = omega (arith, ends_short outside_word low high)
range_short (ZeroOr low high) = omega (arith, ends_short neither_word low high)
range_short Past = omega arith

-- the range of a rule that is known
module _ (rule : Rule) {low high : ℕ} where
  pub of_range : rule ≡ Range low high → range_of rule ≡ ends_of outside_word low high
  unfolding range_of
  of_range e = rw e

  pub of_path : rule ≡ Path low high → range_of rule ≡ ends_of outside_word low high
  unfolding range_of
  of_path e = rw e

  pub of_zero_or : rule ≡ ZeroOr low high → range_of rule ≡ ends_of neither_word low high
  unfolding range_of
  of_zero_or e = rw e

pub of_past : (rule : Rule) → rule ≡ Past → range_of rule ≡ []
unfolding range_of
of_past rule e = rw e

-- the name of a field whose number is known
pub name_at_lem : (f k j : ℕ) → f ≡ j → name_of f k ≡ get_or (names k) j []
unfolding name_of
name_at_lem f k j e = rw e

-- behind the table there is none
pub name_behind : (f k : ℕ) → 13 ≤ f → name_of f k ≡ []
unfolding name_of
name_behind f k h = get_or-eq_default (names k) [] {n = f} h

-- the names of the last fields have no number
pub last_name : (f k j : ℕ) → 9 ≤ f → name_of f k ≡ name_of f j
unfolding name_of
last_name zero k j h = absurd (omega arith)
last_name (suc zero) k j h = absurd (omega arith)
last_name (suc (suc zero)) k j h = absurd (omega arith)
last_name (suc (suc (suc zero))) k j h = absurd (omega arith)
last_name (suc (suc (suc (suc zero)))) k j h = absurd (omega arith)
last_name (suc (suc (suc (suc (suc zero))))) k j h = absurd (omega arith)
last_name (suc (suc (suc (suc (suc (suc zero)))))) k j h = absurd (omega arith)
last_name (suc (suc (suc (suc (suc (suc (suc zero))))))) k j h = absurd (omega arith)
last_name (suc (suc (suc (suc (suc (suc (suc (suc zero)))))))) k j h = absurd (omega arith)
last_name (suc (suc (suc (suc (suc (suc (suc (suc (suc zero))))))))) k j h = refl
last_name (suc (suc (suc (suc (suc (suc (suc (suc (suc (suc zero)))))))))) k j h = refl
last_name (suc (suc (suc (suc (suc (suc (suc (suc (suc (suc (suc zero))))))))))) k j h = refl
last_name (suc (suc (suc (suc (suc (suc (suc (suc (suc (suc (suc (suc zero)))))))))))) k j h = refl
last_name (suc (suc (suc (suc (suc (suc (suc (suc (suc (suc (suc (suc (suc f))))))))))))) k j h = refl

-- The field at a place, and whose it is, part by part.
module _ (i : ℕ) (e : Extent) where
  pub field_head : i < 2 → field_at i (seen e) ≡ i
  unfolding field_at
  field_head h = rw (lt-ltb i 2 h)

  pub field_server : 2 ≤ i → i < server_at e.edition e.servers 0 → field_at i (seen e) ≡ 2 + (i - 2) % per_server e.edition
  unfolding field_at
  field_server a h = rw (le-ltb i 2 a, lt-ltb i (server_at e.edition e.servers 0) h)

  pub field_count : 2 ≤ i → server_at e.edition e.servers 0 ≤ i → i < flow_at e.edition e.servers 0 → field_at i (seen e) ≡ 4
  unfolding field_at
  field_count a b h = rw (le-ltb i 2 a, le-ltb i (server_at e.edition e.servers 0) b, lt-ltb i (flow_at e.edition e.servers 0) h)

  pub field_flow : 2 ≤ i → server_at e.edition e.servers 0 ≤ i → flow_at e.edition e.servers 0 ≤ i → i < flow_at e.edition e.servers e.flows
      → field_at i (seen e) ≡ 5 + (i - flow_at e.edition e.servers 0) % 4
  unfolding field_at
  field_flow a b c h =
      rw (
        le-ltb i 2 a,
        le-ltb i (server_at e.edition e.servers 0) b,
        le-ltb i (flow_at e.edition e.servers 0) c,
        lt-ltb i (flow_at e.edition e.servers e.flows) h,
      )

  pub field_rest : 2 ≤ i → server_at e.edition e.servers 0 ≤ i → flow_at e.edition e.servers 0 ≤ i → flow_at e.edition e.servers e.flows ≤ i
      → field_at i (seen e) ≡ 9 + (i - flow_at e.edition e.servers e.flows)
  unfolding field_at
  field_rest a b c h =
      rw (
        le-ltb i 2 a,
        le-ltb i (server_at e.edition e.servers 0) b,
        le-ltb i (flow_at e.edition e.servers 0) c,
        le-ltb i (flow_at e.edition e.servers e.flows) h,
      )

  pub owner_server : i < server_at e.edition e.servers 0 → owner_at i (seen e) ≡ (i - 2) / per_server e.edition + 1
  unfolding owner_at
  owner_server h = rw (lt-ltb i (server_at e.edition e.servers 0) h)

  pub owner_flow : server_at e.edition e.servers 0 ≤ i → owner_at i (seen e) ≡ (i - flow_at e.edition e.servers 0) / 4 + 1
  unfolding owner_at
  owner_flow h = rw (le-ltb i (server_at e.edition e.servers 0) h)
