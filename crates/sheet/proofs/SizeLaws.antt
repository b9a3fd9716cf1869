-- "A valid sheet has at most 475 bytes." Each part of a sheet is a row of like pieces, and a piece takes at most so many bytes.
-- Assumes nothing.
use Rattle.std.specs.Prelude.{ℕ, zero, suc, ◌+◌, ◌*◌, ◌^◌, ◌≤◌, ◌<◌, ◌≡◌, List, length, get_or, take}
use Rattle.std.proofs.Common.{ap, ⊎_elim, mul-zero, mul-suc, arith, take_all}
use Rattle.numbers.proofs.SevenLaws.{encode_most, Bytes}
use Rattle.fields.specs.Rule.{per_server}
use Rattle.sheet.specs.Sheet.{these, sheet_of, encode_all}
use Rattle.sheet.proofs.EncodeLaws.{length_next}
use Rattle.sheet.specs.Valid.{edition, server_count, server_place, count_place, flow_count, flow_place, watched_place, grid, Within, Valid}
use Rattle.sheet.proofs.TripLaws.{write_back}
use Rattle.sheet.proofs.ValidLaws.{read_valid}

-- the bytes of the first i numbers
abbrev bytes_to : List ℕ → ℕ → ℕ
bytes_to xs i = length (encode_all (take i xs))

-- one number more, of at most k + 1 bytes
one_more : (k : ℕ) (xs : List ℕ) (i : ℕ) → i < length xs → get_or xs i 0 < 128 ^ suc k → bytes_to xs (i + 1) ≤ bytes_to xs i + suc k
one_more k xs i h l = omega (arith, length_next xs i h, encode_most k (get_or xs i 0) l)

-- a row of n pieces of w numbers from place p on, each of at most b bytes
row_bytes : (xs : List ℕ) (p w b n : ℕ) → ((k : ℕ) → k < n → bytes_to xs (p + w * suc k) ≤ bytes_to xs (p + w * k) + b)
    → bytes_to xs (p + w * n) ≤ bytes_to xs p + b * n
row_bytes xs p w b zero h = let e : p + w * 0 ≡ p = omega (arith, mul-zero w) in omega (arith, ap (bytes_to xs) e)
row_bytes xs p w b (suc n) h = omega (arith, row_bytes xs p w b n (λ k l. h k (omega arith)), h n (omega arith), mul-suc b n)

module _ (xs : List ℕ) (v : Valid xs) where
  size : length xs ≡ watched_place xs + 4
  size = v.size

  -- R takes three bytes at most, T two
  server_bytes : (j : ℕ) → j < server_count xs → bytes_to xs (server_place xs (suc j) 0) ≤ bytes_to xs (server_place xs j 0) + 5
  server_bytes j h =
      let p : ℕ = server_place xs j 0 in
      let e : server_place xs (suc j) 0 ≡ p + 1 + 1 = omega arith in
      let q : server_place xs j 1 ≡ p + 1 = omega arith in
      let a = one_more 2 xs p (omega (arith, size)) (omega (arith, (v.rates j h).most)) in
      let l : get_or xs (p + 1) 0 < 128 ^ 2 = rw (← q) (omega (arith, (v.latencies j h).most)) in
      let b = one_more 1 xs (p + 1) (omega (arith, size)) l in
      rw e (omega arith)

  -- first and last take one byte, σ and ρ three at most
  flow_bytes : (k : ℕ) → k < flow_count xs → bytes_to xs (flow_place xs (suc k)) ≤ bytes_to xs (flow_place xs k) + 8
  flow_bytes k h =
      let p : ℕ = flow_place xs k in
      let e : flow_place xs (suc k) ≡ p + 1 + 1 + 1 + 1 = omega arith in
      let two : p + 2 ≡ p + 1 + 1 = omega arith in
      let three : p + 3 ≡ p + 1 + 1 + 1 = omega arith in
      let n = v.servers.most in
      let a = one_more 0 xs p (omega (arith, size)) (omega (arith, (v.firsts k h).most)) in
      let b = one_more 0 xs (p + 1) (omega (arith, size)) (omega (arith, (v.lasts k h).most)) in
      let m : get_or xs (p + 1 + 1) 0 < 128 ^ 3 = rw (← two) (omega (arith, (v.flow_bursts k h).most)) in
      let c = one_more 2 xs (p + 1 + 1) (omega (arith, size)) m in
      let l : get_or xs (p + 1 + 1 + 1) 0 < 128 ^ 3 = rw (← three) (omega (arith, (v.flow_rates k h).most)) in
      let d = one_more 2 xs (p + 1 + 1 + 1) (omega (arith, size)) l in
      rw e (omega arith)

  grid_most : grid xs ≤ 9
  grid_most = ⊎_elim (λ (z : grid xs ≡ 0). omega arith) (λ (w : Within 2 9 (grid xs)). w.most) v.grids

  rest_bytes : bytes_to xs (watched_place xs + 4) ≤ bytes_to xs (watched_place xs) + 8
  rest_bytes =
      let p : ℕ = watched_place xs in
      let e : p + 4 ≡ p + 1 + 1 + 1 + 1 = omega arith in
      let two : p + 2 ≡ p + 1 + 1 = omega arith in
      let three : p + 3 ≡ p + 1 + 1 + 1 = omega arith in
      let a = one_more 2 xs p (omega (arith, size)) (omega (arith, v.watched_burst.most)) in
      let b = one_more 2 xs (p + 1) (omega (arith, size)) (omega (arith, v.watched_rate_lem.most)) in
      let m : get_or xs (p + 1 + 1) 0 < 128 ^ 1 = rw (← two) (omega (arith, v.modes.most)) in
      let c = one_more 0 xs (p + 1 + 1) (omega (arith, size)) m in
      let l : get_or xs (p + 1 + 1 + 1) 0 < 128 ^ 1 = rw (← three) (omega (arith, grid_most)) in
      let d = one_more 0 xs (p + 1 + 1 + 1) (omega (arith, size)) l in
      rw e (omega arith)

  front_bytes : bytes_to xs 2 ≤ 2
  front_bytes =
      let a = one_more 0 xs 0 (omega (arith, size)) (omega (arith, v.one_edition.most)) in
      let b = one_more 0 xs 1 (omega (arith, size)) (omega (arith, v.servers.most)) in
      omega arith

  count_bytes : bytes_to xs (server_place xs (server_count xs) 1) ≤ bytes_to xs (count_place xs) + 1
  count_bytes =
      let e : server_place xs (server_count xs) 1 ≡ count_place xs + 1 = omega arith in
      rw e (one_more 0 xs (count_place xs) (omega (arith, size)) (omega (arith, v.flows.most)))

  pub valid_bytes : length (encode_all xs) ≤ 475
  valid_bytes =
      let whole : take (watched_place xs + 4) xs ≡ xs = take_all (watched_place xs + 4) xs (omega (arith, size)) in
      let a = row_bytes xs 2 (per_server (edition xs)) 5 (server_count xs) server_bytes in
      let b = row_bytes xs (server_place xs (server_count xs) 1) 4 8 (flow_count xs) flow_bytes in
      omega (arith, ap (λ (l : List ℕ). length (encode_all l)) whole, front_bytes, count_bytes, rest_bytes, v.servers.most, v.flows.most)

-- an accepted sheet of bytes
pub sheet_bytes : (s xs : List ℕ) → Bytes s → sheet_of s ≡ these xs → length s ≤ 475
sheet_bytes s xs bytes h = omega (arith, ap length (write_back s xs bytes h), valid_bytes xs (read_valid s xs h))
