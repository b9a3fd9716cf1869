-- A row's servers put one by one into one curve: what the curve has so far, with what the servers that are left have, is the row's.
-- Assumes nothing.
use mathlib.Core.Path.{◌≡◌, refl, sym, ap, ◌∙◌}
use mathlib.Core.List.{List, [], ◌∷◌, ◌++◌, map, append_assoc, append-nil}
use Prim.Native.Nat.{ℕ, suc, ◌+◌, ◌≤◌, ◌<◌}
use native.Mathlib.Numerals.{add-one}
use native.Mathlib.Omega.{arith}
use lib.ListN.{length, take, drop, get_or, set, length-set, length-map, drop_of_length-le}
use lib.Seq.{take-suc-set, drop-cons}
use Rattle.tandem.specs.Tandem.{no_server}
use Rattle.curves.specs.declared.Stage.{Stage}
use Rattle.curves.specs.Held.{Holds}
use Rattle.tandem.specs.declared.Server.{Server}
use Rattle.tree.specs.Amounts.{sum_of}
use Rattle.tree.proofs.PruneLaws.{latencies_of}
use Rattle.keys.specs.Left.{row_curve}

-- a server's stage
abbrev pub stage_of : Server → Stage
stage_of s = record { burst = 0; rate = s.rate }

-- the first j of the servers ss are in the curve
pub record Gathering (ss : List Server) (stages : List Stage) (offset j : ℕ) : Type 0 where
  pub full : length stages ≡ 16
  pub slots : offset + sum_of (latencies_of (drop j ss)) ≡ sum_of (latencies_of ss)
  pub served : take j stages ++ map stage_of (drop j ss) ≡ map stage_of ss

pub gathering_begins : (ss : List Server) (stages : List Stage) → length stages ≡ 16 → Gathering ss stages 0 0
gathering_begins ss stages h = record { full = h; slots = omega arith; served = refl }

module _ (ss : List Server) (stages : List Stage) (offset j : ℕ) (h : j < length ss) (g : Gathering ss stages offset j) where
  -- the next server
  abbrev v : Server
  v = get_or ss j no_server

  e : drop j ss ≡ v ∷ drop (suc j) ss
  e = drop-cons ss j no_server h

  -- the next server's slots are among those that are left
  next_slots : offset + (v.latency + sum_of (latencies_of (drop (suc j) ss))) ≡ sum_of (latencies_of ss)
  unfolding sum_of
  next_slots = ap (λ (l : List Server). offset + sum_of (latencies_of l)) (sym e) ∙ g.slots

  pub gathering_small : offset + v.latency ≤ sum_of (latencies_of ss)
  gathering_small = omega (arith, next_slots)

  -- one more server
  pub gathering_turns : j < 16 → Gathering ss (set stages j (stage_of v)) (offset + v.latency) (j + 1)
  gathering_turns k =
      let t : take (suc j) (set stages j (stage_of v)) ≡ take j stages ++ (stage_of v ∷ []) = take-suc-set stages j (stage_of v) (omega (arith, g.full)) in
      rw (add-one j) (record {
        full = length-set stages j (stage_of v) ∙ g.full;
        slots = omega (arith, next_slots);
        served =
            ap (λ (l : List Stage). l ++ map stage_of (drop (suc j) ss)) t
            ∙ append_assoc (take j stages) (stage_of v ∷ []) (map stage_of (drop (suc j) ss))
            ∙ ap (λ (l : List Server). take j stages ++ map stage_of l) (sym e) ∙ g.served;
      })

-- no server is left
pub gathering_ends : (ss : List Server) (stages : List Stage) (offset j n : ℕ) → length ss ≡ n → n ≤ j → j ≤ n → Gathering ss stages offset j
    → Holds (record { offset = offset; count = n; stages = stages }) (row_curve ss)
unfolding row_curve sum_of
gathering_ends ss stages offset j n l a b g =
    let e : j ≡ n = omega arith in
    let d : drop j ss ≡ [] = drop_of_length-le ss {i = j} (omega arith) in
    let o : offset ≡ sum_of (latencies_of ss) = omega (arith, g.slots, ap (λ (x : List Server). sum_of (latencies_of x)) d) in
    let t : take n stages ≡ map stage_of ss =
    ap (λ (x : ℕ). take x stages) (sym e) ∙ sym (append-nil (take j stages)) ∙ ap (λ (x : List Server). take j stages ++ map stage_of x) (sym d) ∙ g.served in
    record { shape = rw (o, t); count = sym (length-map ss stage_of ∙ l); offset = o }
