-- Every number of a valid list is below 2^32: each stands at one of the places of document 01's table, whose greatest top is 1,000,000.
-- Assumes nothing.
use Rattle.std.specs.Prelude.{ℕ, ◌+◌, ◌-◌, ◌/◌, ◌%◌, ◌≤◌, ◌<◌, ◌≡◌, ◌⊎◌, List, get_or}
use Rattle.std.proofs.Common.{inl, inr, arith}
use Rattle.std.proofs.Math.ListN.{get_or-eq_default}
use Rattle.ground.proofs.OrderLaws.{lt_or_ge}
use Rattle.sheet.specs.Valid.{server_place, count_place, flow_place, watched_place, grid, Within, Valid}
use Rattle.sheet.proofs.TripLaws.{Words}

-- a number of the list at a place by name
small : (xs : List ℕ) (i j : ℕ) → i ≡ j → get_or xs j 0 ≤ 1000000 → get_or xs i 0 < 4294967296
small xs i j e h = rw e (omega (arith, h))

module _ (xs : List ℕ) (v : Valid xs) (i : ℕ) where
  server_word : 2 ≤ i → i < count_place xs → ((i - 2) % 2 < 1) ⊎ (1 ≤ (i - 2) % 2) → get_or xs i 0 < 4294967296
  server_word a b (inl h) = small xs i (server_place xs ((i - 2) / 2) 0) (omega arith) (v.rates ((i - 2) / 2) (omega arith)).most
  server_word a b (inr h) = small xs i (server_place xs ((i - 2) / 2) 1) (omega arith) (omega (arith, (v.latencies ((i - 2) / 2) (omega arith)).most))

  abbrev behind : ℕ
  behind = i - (flow_place xs 0)

  flow_word : flow_place xs 0 ≤ i → i < watched_place xs → (behind % 4 < 1) ⊎ (1 ≤ behind % 4) → (behind % 4 < 2) ⊎ (2 ≤ behind % 4)
      → (behind % 4 < 3) ⊎ (3 ≤ behind % 4) → get_or xs i 0 < 4294967296
  flow_word a b (inl h) y z =
      small xs i (flow_place xs (behind / 4)) (omega arith) (omega (arith, (v.firsts (behind / 4) (omega arith)).most, v.servers.most))
  flow_word a b (inr g) (inl h) z =
      small xs i (flow_place xs (behind / 4) + 1) (omega arith) (omega (arith, (v.lasts (behind / 4) (omega arith)).most, v.servers.most))
  flow_word a b (inr g) (inr h) (inl z) =
      small xs i (flow_place xs (behind / 4) + 2) (omega arith) (omega (arith, (v.flow_bursts (behind / 4) (omega arith)).most))
  flow_word a b (inr g) (inr h) (inr z) =
      small xs i (flow_place xs (behind / 4) + 3) (omega arith) (omega (arith, (v.flow_rates (behind / 4) (omega arith)).most))

  grid_word : i ≡ watched_place xs + 3 → (grid xs ≡ 0) ⊎ Within 2 9 (grid xs) → get_or xs i 0 < 4294967296
  grid_word e (inl z) = small xs i (watched_place xs + 3) e (omega (arith, z))
  grid_word e (inr w) = small xs i (watched_place xs + 3) e (omega (arith, w.most))

  last_word : watched_place xs ≤ i → (i < watched_place xs + 1) ⊎ (watched_place xs + 1 ≤ i) → (i < watched_place xs + 2) ⊎ (watched_place xs + 2 ≤ i)
      → (i < watched_place xs + 3) ⊎ (watched_place xs + 3 ≤ i) → (i < watched_place xs + 4) ⊎ (watched_place xs + 4 ≤ i) → get_or xs i 0 < 4294967296
  last_word a (inl h) y z w = small xs i (watched_place xs) (omega arith) (omega (arith, v.watched_burst.most))
  last_word a (inr g) (inl h) z w = small xs i (watched_place xs + 1) (omega arith) (omega (arith, v.watched_rate_lem.most))
  last_word a (inr g) (inr h) (inl z) w = small xs i (watched_place xs + 2) (omega arith) (omega (arith, v.modes.most))
  last_word a (inr g) (inr h) (inr z) (inl w) = grid_word (omega arith) v.grids
  last_word a (inr g) (inr h) (inr z) (inr w) = rw (get_or-eq_default xs 0 {n = i} (omega (arith, v.size))) (omega arith)

  word_by : (i < 1) ⊎ (1 ≤ i) → (i < 2) ⊎ (2 ≤ i) → (i < count_place xs) ⊎ (count_place xs ≤ i)
      → (i < flow_place xs 0) ⊎ (flow_place xs 0 ≤ i) → (i < watched_place xs) ⊎ (watched_place xs ≤ i) → get_or xs i 0 < 4294967296
  word_by (inl h) b c d e = small xs i 0 (omega arith) (omega (arith, v.one_edition.most))
  word_by (inr a) (inl h) c d e = small xs i 1 (omega arith) (omega (arith, v.servers.most))
  word_by (inr a) (inr b) (inl h) d e = server_word b h (lt_or_ge ((i - 2) % 2) 1)
  word_by (inr a) (inr b) (inr c) (inl h) e = small xs i (count_place xs) (omega arith) (omega (arith, v.flows.most))
  word_by (inr a) (inr b) (inr c) (inr d) (inl h) = flow_word d h (lt_or_ge (behind % 4) 1) (lt_or_ge (behind % 4) 2) (lt_or_ge (behind % 4) 3)
  word_by (inr a) (inr b) (inr c) (inr d) (inr e) =
      last_word e (lt_or_ge i (watched_place xs + 1)) (lt_or_ge i (watched_place xs + 2)) (lt_or_ge i (watched_place xs + 3)) (lt_or_ge i (watched_place xs + 4))

pub valid_words : (xs : List ℕ) → Valid xs → Words xs
valid_words xs v i =
    word_by xs v i (lt_or_ge i 1) (lt_or_ge i 2) (lt_or_ge i (count_place xs)) (lt_or_ge i (flow_place xs 0)) (lt_or_ge i (watched_place xs))
