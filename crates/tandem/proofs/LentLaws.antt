-- A row in lent lists, by number; lists into which a row was spread hold that row; and the lists of a valid sheet's row can be formed. What holds of
-- lists of numbers holds of the lists of servers and flows that they hold.
-- Assumes nothing.
use Rattle.std.specs.Prelude.{◌≡◌, refl, List, [], ◌∷◌, ◌++◌, ℕ, zero, suc, ◌+◌, ◌*◌, ◌≤◌, ◌<◌, length, get_or, set, take, drop}
use Rattle.std.proofs.Common.{sym, ap, ◌∙◌, subst, append_assoc, arith, length-append, take-suc, drop-cons}
use Rattle.std.proofs.Math.Seq.{take-length}
use Rattle.std.proofs.lemmas.List.{set_at}
use Rattle.sheet.specs.Valid.{Valid, server_count}
use Rattle.tandem.specs.declared.Server.{Server}
use Rattle.tandem.specs.declared.Flow.{Flow}
use Rattle.tandem.specs.Tandem.{Tandem, size, flow, no_flow, no_server}
use Rattle.tandem.specs.Crowded.{lowest_crowded}
use Rattle.tandem.specs.Sound.{Sound, Limits}
use Rattle.tandem.specs.Ranges.{Ranged}
use Rattle.tandem.specs.OfSheet.{listed, tandem_of}
use Rattle.tandem.proofs.OfSheetLaws.{length_listed, listed_at, row_size, row_flows, ranged, limits, sound}
use Rattle.tandem.specs.Lent.{server_in, lent_flow, flows_in, tandem_in, alone, spread_servers, spread_flows, Wide, Listed, Handed, Laid, Lent}

-- values that are a list's first n, in order
pub listed_take : {B : Type 0} (n : ℕ) (f : ℕ → B) (l : List B) (d : B)
    → n ≤ length l → ((m : ℕ) → m < n → f m ≡ get_or l m d) → listed n f ≡ take n l
unfolding listed
listed_take zero f l d h e = refl
listed_take (suc n) f l d h e =
    let r : listed n f ≡ take n l = listed_take n f l d (omega arith) (λ m k. e m (omega arith)) in
    let v : f n ≡ get_or l n d = e n (omega arith) in
    ap (λ (x : List _). x ++ (f n ∷ [])) r ∙ ap (λ (x : _). take n l ++ (x ∷ [])) v ∙ sym (take-suc l n d h)

listed_all : {B : Type 0} (f : ℕ → B) (l : List B) (d : B) → ((m : ℕ) → m < length l → f m ≡ get_or l m d) → listed (length l) f ≡ l
listed_all f l d e = listed_take (length l) f l d (omega arith) e ∙ take-length l

-- the flows of a list by number
pub flow_held : (flows : List ℕ) (n f : ℕ) → f < n → flow (alone flows n) f ≡ lent_flow flows f
flow_held flows n f h = listed_at n (lent_flow flows) f no_flow h

pub count_held : (flows : List ℕ) (n : ℕ) → length (alone flows n).flows ≡ n
count_held flows n = length_listed n (lent_flow flows)

-- how many numbers there are
pub spread_servers_length : (ss : List Server) → length (spread_servers ss) ≡ 2 * length ss
unfolding spread_servers
spread_servers_length [] = refl
spread_servers_length (s ∷ ss) = omega (arith, spread_servers_length ss)

pub spread_flows_length : (fs : List Flow) → length (spread_flows fs) ≡ 4 * length fs
unfolding spread_flows
spread_flows_length [] = refl
spread_flows_length (f ∷ fs) = omega (arith, spread_flows_length fs)

-- one more behind the others
pub spread_servers_more : (ss : List Server) (s : Server) → spread_servers (ss ++ (s ∷ [])) ≡ spread_servers ss ++ (s.rate ∷ s.latency ∷ [])
unfolding spread_servers
spread_servers_more [] s = refl
spread_servers_more (t ∷ ss) s = ap (λ (l : List ℕ). t.rate ∷ t.latency ∷ l) (spread_servers_more ss s)

pub spread_flows_more : (fs : List Flow) (f : Flow) → spread_flows (fs ++ (f ∷ [])) ≡ spread_flows fs ++ (f.first ∷ f.last ∷ f.burst ∷ f.rate ∷ [])
unfolding spread_flows
spread_flows_more [] f = refl
spread_flows_more (g ∷ fs) f = ap (λ (l : List ℕ). g.first ∷ g.last ∷ g.burst ∷ g.rate ∷ l) (spread_flows_more fs f)

-- what stands in a list into which servers, or flows, were spread
server_spread : (ss : List Server) (rest : List ℕ) (j : ℕ) → j < length ss
    → server_in (spread_servers ss ++ rest) j ≡ get_or ss j no_server
unfolding spread_servers
server_spread [] rest j h = absurd (omega arith)
server_spread (s ∷ ss) rest zero h = refl
server_spread (s ∷ ss) rest (suc j) h =
    let a : 2 * suc j ≡ suc (suc (2 * j)) = omega arith in
    let b : 2 * suc j + 1 ≡ suc (suc (2 * j + 1)) = omega arith in
    let l = s.rate ∷ s.latency ∷ (spread_servers ss ++ rest) in
    ap (λ (i : ℕ). record { rate = get_or l i 0; latency = get_or l (2 * suc j + 1) 0 }) a
    ∙ ap (λ (i : ℕ). record { rate = get_or (spread_servers ss ++ rest) (2 * j) 0; latency = get_or l i 0 }) b
    ∙ server_spread ss rest j (omega arith)

flow_spread : (fs : List Flow) (rest : List ℕ) (k : ℕ) → k < length fs
    → lent_flow (spread_flows fs ++ rest) k ≡ get_or fs k no_flow
unfolding spread_flows
flow_spread [] rest k h = absurd (omega arith)
flow_spread (f ∷ fs) rest zero h = refl
flow_spread (f ∷ fs) rest (suc k) h =
    let a : 4 * suc k ≡ suc (suc (suc (suc (4 * k)))) = omega arith in
    let b : 4 * suc k + 1 ≡ suc (suc (suc (suc (4 * k + 1)))) = omega arith in
    let c : 4 * suc k + 2 ≡ suc (suc (suc (suc (4 * k + 2)))) = omega arith in
    let d : 4 * suc k + 3 ≡ suc (suc (suc (suc (4 * k + 3)))) = omega arith in
    let m = spread_flows fs ++ rest in
    let l = f.first ∷ f.last ∷ f.burst ∷ f.rate ∷ m in
    ap (λ (i : ℕ). record { first = get_or l i 0; last = get_or l (4 * suc k + 1) 0; burst = get_or l (4 * suc k + 2) 0; rate = get_or l (4 * suc k + 3) 0 }) a
    ∙ ap (λ (i : ℕ). record { first = get_or m (4 * k) 0; last = get_or l i 0; burst = get_or l (4 * suc k + 2) 0; rate = get_or l (4 * suc k + 3) 0 }) b
    ∙ ap (λ (i : ℕ). record { first = get_or m (4 * k) 0; last = get_or m (4 * k + 1) 0; burst = get_or l i 0; rate = get_or l (4 * suc k + 3) 0 }) c
    ∙ ap (λ (i : ℕ). record { first = get_or m (4 * k) 0; last = get_or m (4 * k + 1) 0; burst = get_or m (4 * k + 2) 0; rate = get_or l i 0 }) d
    ∙ flow_spread fs rest k (omega arith)

servers_spread : (ss : List Server) (rest : List ℕ) → listed (length ss) (server_in (spread_servers ss ++ rest)) ≡ ss
servers_spread ss rest = listed_all (server_in (spread_servers ss ++ rest)) ss no_server (λ j h. server_spread ss rest j h)

flows_spread : (fs : List Flow) (rest : List ℕ) → flows_in (spread_flows fs ++ rest) (length fs) ≡ fs
flows_spread fs rest = listed_all (lent_flow (spread_flows fs ++ rest)) fs no_flow (λ k h. flow_spread fs rest k h)

-- THE LAW: lists into which a row was spread hold the row
pub tandem_spread : (row : Tandem) (more rest : List ℕ)
    → tandem_in (spread_servers row.servers ++ more) (length row.servers) (spread_flows row.flows ++ rest) (length row.flows) ≡ row
tandem_spread row more rest =
    ap (λ (s : List Server). record { servers = s; flows = flows_in (spread_flows row.flows ++ rest) (length row.flows) })
    (servers_spread row.servers more)
    ∙ ap (λ (f : List Flow). record { servers = row.servers; flows = f }) (flows_spread row.flows rest)

-- and so do the lists of a sheet's row
module _ (xs servers flows more rest : List ℕ) (s : servers ≡ spread_servers (tandem_of xs).servers ++ more)
    (f : flows ≡ spread_flows (tandem_of xs).flows ++ rest)
  where
    pub sheet_spread : tandem_in servers (server_count xs) flows (length (tandem_of xs).flows) ≡ tandem_of xs
    sheet_spread = rw (s, f, ← row_size xs) (tandem_spread (tandem_of xs) more rest)

    pub sheet_room : (2 * server_count xs ≤ length servers) × (4 * length (tandem_of xs).flows ≤ length flows)
    sheet_room = (
      omega (arith, ap length s, length-append (spread_servers (tandem_of xs).servers) more, spread_servers_length (tandem_of xs).servers, row_size xs),
      omega (arith, ap length f, length-append (spread_flows (tandem_of xs).flows) rest, spread_flows_length (tandem_of xs).flows),
    )

-- a number stored behind those that are there
pub store_more : (p e : List ℕ) (i x : ℕ) → length p ≡ i → i < length e → set (p ++ drop i e) i x ≡ (p ++ (x ∷ [])) ++ drop (suc i) e
store_more p e i x l h =
    ap (λ (d : List ℕ). set (p ++ d) i x) (drop-cons e i 0 h) ∙ set_at p (get_or e i 0) (drop (suc i) e) x i l
    ∙ sym (append_assoc p (x ∷ []) (drop (suc i) e))

-- the lists of a valid sheet's row
module _ (xs servers flows : List ℕ) (v : Valid xs) (is : tandem_in servers (server_count xs) flows (length (tandem_of xs).flows) ≡ tandem_of xs) where
  abbrev M : ℕ
  M = length (tandem_of xs).flows

  flow_is : (f : ℕ) → f < M → lent_flow flows f ≡ flow (tandem_of xs) f
  flow_is f h = sym (flow_held flows M f h) ∙ ap (λ (row : Tandem). flow row f) is

  pub sheet_laid : 4 * M ≤ length flows → Laid (server_count xs) flows M
  sheet_laid r = record {
    short = v.servers.most;
    some = omega (arith, row_flows xs);
    few = omega (arith, row_flows xs, v.flows.most);
    room = r;
    ranges = λ f h. wide f h;
  }
    where
      wide : (f : ℕ) → f < M → Wide (server_count xs) (lent_flow flows f)
      wide f h = let r = ranged xs v f h in rw (flow_is f h) (record {
        begins = r.begins;
        path = r.path;
        ends = r.ends;
        small_burst = omega (arith, r.small_burst);
        moves = r.moves;
        small_rate = r.small_rate;
      })

  pub sheet_lent : 2 * server_count xs ≤ length servers → 4 * M ≤ length flows → lowest_crowded (tandem_of xs) 1 (size (tandem_of xs)) ≡ 0
      → Lent servers (server_count xs) flows M
  sheet_lent s r c = record {
    laid = sheet_laid r;
    room = s;
    sound = subst (λ (row : Tandem). Sound row) (sym is) (sound xs v c);
    limits = subst (λ (row : Tandem). Limits row) (sym is) (limits xs v);
  }

-- a row of at most sixteen servers
pub laid_most : (n : ℕ) (flows : List ℕ) (m : ℕ) → Laid n flows m → Laid 16 flows m
laid_most n flows m h = record { short = omega arith; some = h.some; few = h.few; room = h.room; ranges = λ f l. wider f (h.ranges f l) }
  where
    wider : (f : ℕ) → Wide n (lent_flow flows f) → Wide 16 (lent_flow flows f)
    wider f r = record {
      begins = r.begins;
      path = r.path;
      ends = omega (arith, r.ends, h.short);
      small_burst = r.small_burst;
      moves = r.moves;
      small_rate = r.small_rate;
    }

-- the flows that a list of numbers holds, and its row
pub laid_listed : (n : ℕ) (flows : List ℕ) (m : ℕ) → Laid n flows m → Listed n (flows_in flows m)
laid_listed n flows m h =
    let c : length (flows_in flows m) ≡ m = count_held flows m in
    record {
      short = h.short;
      some = omega (arith, c, h.some);
      few = omega (arith, c, h.few);
      ranges =
          λ f l. let k : f < m = omega (arith, c) in subst (λ (a : Flow). Wide n a) (sym (flow_held flows m f k)) (h.ranges f k);
    }

pub lent_handed : (servers : List ℕ) (n : ℕ) (flows : List ℕ) (m : ℕ) → Lent servers n flows m → Handed (tandem_in servers n flows m)
lent_handed servers n flows m h = record {
  listed = subst (λ (k : ℕ). Listed k (flows_in flows m)) (sym (length_listed n (server_in servers))) (laid_listed n flows m h.laid);
  sound = h.sound;
  limits = h.limits;
}

-- flows of a row of at most sixteen servers
pub listed_most : (n : ℕ) (flows : List Flow) → Listed n flows → Listed 16 flows
listed_most n flows h = record { short = omega arith; some = h.some; few = h.few; ranges = λ f l. wider f (h.ranges f l) }
  where
    wider : (f : ℕ) → Wide n (get_or flows f no_flow) → Wide 16 (get_or flows f no_flow)
    wider f r = record {
      begins = r.begins;
      path = r.path;
      ends = omega (arith, r.ends, h.short);
      small_burst = r.small_burst;
      moves = r.moves;
      small_rate = r.small_rate;
    }

-- the flows of a valid sheet, and its row
pub sheet_listed : (xs : List ℕ) → Valid xs → Listed (server_count xs) (tandem_of xs).flows
sheet_listed xs v = record {
  short = v.servers.most;
  some = omega (arith, row_flows xs);
  few = omega (arith, row_flows xs, v.flows.most);
  ranges = λ f l. wide f (ranged xs v f l);
}
  where
    wide : (f : ℕ) → Ranged (server_count xs) 65535 (flow (tandem_of xs) f) → Wide (server_count xs) (flow (tandem_of xs) f)
    wide f r = record {
      begins = r.begins;
      path = r.path;
      ends = r.ends;
      small_burst = omega (arith, r.small_burst);
      moves = r.moves;
      small_rate = r.small_rate;
    }

pub sheet_handed : (xs : List ℕ) → Valid xs → lowest_crowded (tandem_of xs) 1 (size (tandem_of xs)) ≡ 0 → Handed (tandem_of xs)
sheet_handed xs v c = record {
  listed = subst (λ (k : ℕ). Listed k (tandem_of xs).flows) (sym (row_size xs)) (sheet_listed xs v);
  sound = sound xs v c;
  limits = limits xs v;
}
