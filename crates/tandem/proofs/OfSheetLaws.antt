-- The row of a valid sheet: its parts by number, its ranges, and that a row that passes check 7 is sound and within the limits.
-- Assumes nothing.
use Rattle.std.specs.Prelude.{◌≡◌, refl, ◌⊎◌, List, [], ◌∷◌, ◌++◌, ℕ, zero, suc, ◌+◌, ◌-◌, ◌≤◌, ◌<◌, length, get_or}
use Rattle.std.proofs.Common.{sym, ap, ◌∙◌, inl, inr, arith, length-append, ext_get_or}
use Rattle.std.proofs.Math.ListN.{get_or-append, get_or-eq_default}
use Rattle.std.proofs.lemmas.List.{get_or_at}
use Rattle.sheet.specs.Valid.{Valid, server_count, flow_count}
use Rattle.tandem.specs.declared.Server.{Server}
use Rattle.tandem.specs.declared.Flow.{Flow}
use Rattle.tandem.specs.Tandem.{size, server, flow, no_flow, no_server}
use Rattle.tandem.specs.Crowded.{lowest_crowded}
use Rattle.tandem.specs.Sound.{Lies, Sound, Limits}
use Rattle.tandem.specs.OfSheet.{listed, server_of, flow_of, watched_of, tandem_of}
use Rattle.tandem.specs.Ranges.{Ranged}
use Rattle.ground.proofs.OrderLaws.{le_or_lt}
use Rattle.tandem.proofs.SumLaws.{total_most}
use Rattle.tandem.proofs.CrowdedLaws.{sound_row}

pub length_listed : {B : Type 0} (n : ℕ) (f : ℕ → B) → length (listed n f) ≡ n
unfolding listed
length_listed zero f = refl
length_listed (suc n) f = omega (arith, length-append (listed n f) (f n ∷ []), length_listed n f)

pub listed_at : {B : Type 0} (n : ℕ) (f : ℕ → B) (i : ℕ) (d : B) → i < n → get_or (listed n f) i d ≡ f i
unfolding listed
listed_at zero f i d h = absurd (omega arith)
listed_at (suc n) f i d h = go (le_or_lt n i) (listed_at n f i d)
  where
    go : (n ≤ i) ⊎ (i < n) → (i < n → get_or (listed n f) i d ≡ f i) → get_or (listed n f ++ (f n ∷ [])) i d ≡ f i
    go (inl k) r = let e : n ≡ i = omega arith in get_or_at (listed n f) (f n) [] d i (length_listed n f ∙ e) ∙ ap f e
    go (inr k) r = let l : i < length (listed n f) = omega (arith, length_listed n f) in get_or-append (listed n f) (f n ∷ []) d i l ∙ r k

-- the parts of the row
pub row_size : (xs : List ℕ) → size (tandem_of xs) ≡ server_count xs
unfolding tandem_of
row_size xs = length_listed (server_count xs) (server_of xs)

pub row_flows : (xs : List ℕ) → length (tandem_of xs).flows ≡ flow_count xs + 1
unfolding tandem_of
row_flows xs = omega (arith, length_listed (flow_count xs) (flow_of xs))

-- server j of the row, counted from 1, is the sheet's server j - 1, counted from 0
pub row_server : (xs : List ℕ) (j : ℕ) → j - 1 < server_count xs → server (tandem_of xs) j ≡ server_of xs (j - 1)
unfolding tandem_of
row_server xs j h = listed_at (server_count xs) (server_of xs) (j - 1) no_server h

pub row_watched : (xs : List ℕ) → flow (tandem_of xs) 0 ≡ watched_of xs
unfolding tandem_of
row_watched xs = refl

pub row_flow : (xs : List ℕ) (k : ℕ) → k < flow_count xs → flow (tandem_of xs) (suc k) ≡ flow_of xs k
unfolding tandem_of
row_flow xs k h = listed_at (flow_count xs) (flow_of xs) k no_flow h

pub row_cross : (xs : List ℕ) (f : ℕ) → 0 < f → f < length (tandem_of xs).flows → flow (tandem_of xs) f ≡ flow_of xs (f - 1)
row_cross xs zero h l = absurd (omega arith)
row_cross xs (suc k) h l = let e : suc k - 1 ≡ k = omega arith in row_flow xs k (omega (arith, row_flows xs)) ∙ ap (flow_of xs) (sym e)

pub ruleset parts = (row_flows, row_watched, row_cross)

-- lists of as many servers, or flows, each the row's
pub row_servers : (xs : List ℕ) (l : List Server) → length l ≡ server_count xs → ((j : ℕ) → j < server_count xs → get_or l j no_server ≡ server_of xs j)
    → l ≡ (tandem_of xs).servers
unfolding tandem_of
row_servers xs l n h =
    let m : length l ≡ length (listed (server_count xs) (server_of xs)) = n ∙ sym (length_listed (server_count xs) (server_of xs)) in
    ext_get_or no_server l _ m (λ j k.
    let i : j < server_count xs = omega arith in
    h j i ∙ sym (listed_at (server_count xs) (server_of xs) j no_server i))

pub row_all_flows : (xs : List ℕ) (l : List Flow) → length l ≡ length (tandem_of xs).flows
    → ((f : ℕ) → f < length (tandem_of xs).flows → get_or l f no_flow ≡ flow (tandem_of xs) f) → l ≡ (tandem_of xs).flows
row_all_flows xs l n h = ext_get_or no_flow l (tandem_of xs).flows n (λ f k. h f (omega arith))

module _ (xs : List ℕ) (v : Valid xs) where
  pub ranged : (f : ℕ) → f < length (tandem_of xs).flows → Ranged (server_count xs) 65535 (flow (tandem_of xs) f)
  ranged zero h = rw (row_watched xs) (record {
    begins = omega arith;
    path = v.servers.least;
    ends = omega arith;
    small_burst = v.watched_burst.most;
    moves = v.watched_rate_lem.least;
    small_rate = v.watched_rate_lem.most;
  })
  ranged (suc k) h =
      let l : k < flow_count xs = omega (arith, row_flows xs) in
      rw (row_flow xs k l) (record {
        begins = (v.firsts k l).least;
        path = (v.lasts k l).least;
        ends = (v.lasts k l).most;
        small_burst = (v.flow_bursts k l).most;
        moves = (v.flow_rates k l).least;
        small_rate = (v.flow_rates k l).most;
      })

  -- and of a server: behind the last there is none, and its numbers count as 0
  server_ranged : (j : ℕ) → ((server (tandem_of xs) j).rate ≤ 1000000) × ((server (tandem_of xs) j).latency ≤ 1000)
  server_ranged j = go (le_or_lt (server_count xs) (j - 1))
    where
      go : (server_count xs ≤ j - 1) ⊎ (j - 1 < server_count xs) → ((server (tandem_of xs) j).rate ≤ 1000000) × ((server (tandem_of xs) j).latency ≤ 1000)
      go (inl h) =
          let l : length (tandem_of xs).servers ≤ j - 1 = omega (arith, row_size xs) in
          let e : server (tandem_of xs) j ≡ record { rate = 0; latency = 0 } =
          get_or-eq_default (tandem_of xs).servers no_server l in
          rw e (omega arith, omega arith)
      go (inr h) = rw (row_server xs j h) ((v.rates (j - 1) h).most, (v.latencies (j - 1) h).most)

  pub limits : Limits (tandem_of xs)
  limits = record {
    few_servers = omega (arith, row_size xs, v.servers.most);
    few_flows = omega (arith, row_flows xs, v.flows.most);
    small_rates = λ j. (server_ranged j).0;
    small_latencies = λ j. omega (arith, (server_ranged j).1);
    small_bursts = omega (
      arith,
      row_flows xs,
      v.flows.most,
      total_most (length (tandem_of xs).flows) 65535 (λ f. (flow (tandem_of xs) f).burst)
          (λ f h. (ranged f h).small_burst),
    );
  }

  pub sound : lowest_crowded (tandem_of xs) 1 (size (tandem_of xs)) ≡ 0 → Sound (tandem_of xs)
  sound c = sound_row (tandem_of xs)
      (omega (arith, row_size xs, v.servers.least))
      (omega (arith, row_flows xs))
      (rw (row_watched xs))
      (rw (row_watched xs) (sym (row_size xs)))
      lies
      (λ f h. omega (arith, (ranged f h).moves))
      c
    where
      lies : (f : ℕ) → f < length (tandem_of xs).flows → Lies (tandem_of xs) f
      lies f h = let r = ranged f h in (r.begins, omega (arith, row_size xs, r.ends), inl r.path)
