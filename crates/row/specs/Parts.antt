-- The steps on the way from a row's servers and flows to the row that is handed on, as the functions of src/lib.rt take them.
-- Assumes nothing.
use Rattle.std.specs.Prelude.{ℕ, zero, suc, ◌+◌, ◌-◌, ◌*◌, ◌≤◌, ◌<◌, max, ◌≡◌, Bool, ltb, eqb, List, [], ◌∷◌, length, get_or, set, slice_range}
use Rattle.std.specs.List.{list_any}
use Rattle.tandem.specs.declared.Flow.{Flow}
use Rattle.row.specs.declared.Row.{Row}
use Rattle.row.specs.declared.Sum.{Sum}
use Rattle.tandem.specs.Sums.{weigh, total, any}
use Rattle.tandem.specs.Tandem.{Tandem, Path, size, flow, on}
use Rattle.tandem.specs.Lent.{row_in, Lent, Handed}
use Rattle.row.specs.Groups.{path, from}

-- the furthest last server of those of the first n flows that begin at server i; 0 where none does
unfoldable pub reach_of : Tandem → ℕ → ℕ → ℕ
reach_of row i zero = 0
reach_of row i (suc n) = max (reach_of row i n) (weigh (eqb (flow row n).first i) (flow row n).last)

-- these for each place of a list of eighteen, the servers' among them
pub record Reached (row : Tandem) (n : ℕ) (reaches : List ℕ) : Type 0 where
  pub long : length reaches ≡ 18
  pub reach_at : (i : ℕ) → i < 18 → get_or reaches i 0 ≡ reach_of row i n

-- a row in lists of numbers that may be formed, and a grid of 2..9
pub record Formable (servers : List ℕ) (size : ℕ) (flows : List ℕ) (n grid : ℕ) : Type 0 where
  pub lent : Lent servers size flows n
  pub coarse : 2 ≤ grid
  pub dense : grid ≤ 9

-- check 6 of one flow by that list: behind its first server, up to its last, some flow begins that ends behind it
abbrev pub overreached_by : List ℕ → Flow → Bool
overreached_by reaches a = list_any (λ reach. ltb a.last reach) (slice_range reaches (a.first + 1) (a.last + 1))

-- and by the row itself: one of the first n flows begins there and ends behind it
unfoldable pub overreached : Tandem → ℕ → ℕ → Bool
overreached row n f = any ((flow row f).last - (flow row f).first) (λ d. ltb (flow row f).last (reach_of row ((flow row f).first + 1 + d) n))

-- the 256 paths by number
abbrev pub place_of : ℕ → ℕ → ℕ
place_of i l = (i - 1) * 16 + (16 - l)

abbrev pub no_sum : Sum
no_sum = record { burst = 0; rate = 0 }

-- the bursts and the rates of those of the first n flows that have the path
abbrev pub summed_at : Tandem → ℕ → Path → Sum
summed_at row n g =
    record {
      burst = total n (λ f. weigh (on row g f) (flow row f).burst);
      rate = total n (λ f. weigh (on row g f) (flow row f).rate);
    }

-- these added up for each path
pub record Summed (row : Tandem) (n : ℕ) (sums : List Sum) : Type 0 where
  pub long : length sums ≡ 256
  pub sum_at : (i l : ℕ) → 1 ≤ i → i ≤ 16 → 1 ≤ l → l ≤ 16 → get_or sums (place_of i l) no_sum ≡ summed_at row n (path i l)

-- a row with one group more, and with more, behind those that it has
abbrev pub with_group : Row → Flow → Row
with_group row g = record row { count = row.count + 1; groups = set row.groups row.count g }

unfoldable pub with_groups : Row → List Flow → Row
with_groups row [] = row
with_groups row (g ∷ gs) = with_groups (with_group row g) gs

-- what the groups that begin at one server ask to be listed: a row that may be formed, its sums, one of its servers, and room
pub record Listing (row : Tandem) (sums : List Sum) (first : ℕ) (held : Row) : Type 0 where
  pub handed : Handed row
  pub summed : Summed (row_in [] row.flows) (length row.flows) sums
  pub begins : 1 ≤ first
  pub inside : first ≤ size row
  pub room : held.count + length (from row first (size row)) ≤ 32
