-- Rows of document 01's table: P7 passes and has one group, P9 is refused by 6, P10 by 7 at server 1. Rows around the limits of each check, and the
-- groups of a row in order. And a sheet alike to P7's, whose one group is two flows.
-- Assumes nothing.
use Rattle.std.specs.Prelude.{◌≡◌, refl, Option, Some, None, Ok, Err, List, [], ◌∷◌, ◌++◌, map, Bool, true, false, ◌||◌, ◌&&◌, ℕ, zero, suc, ◌+◌, eqb, length, replicate}
use Rattle.std.proofs.Common.{arith}
use Rattle.fields.specs.Rule.{rule_at, field_at, seen_after}
use Rattle.fields.specs.Step.{step_on}
use Rattle.sheet.specs.Sheet.{list_of}
use Rattle.sheet.specs.Valid.{Valid}
use Rattle.sheet.proofs.ValidLaws.{listed_valid}
use Rattle.row.specs.declared.Row.{Row}
use Rattle.tandem.specs.declared.Flow.{Flow}
use Rattle.row.specs.declared.Unfit.{Unfit}
use Rattle.row.specs.declared.Unfit.TheVariants.{Crossing, Crowded, Points}
use Rattle.tandem.specs.Sums.{weigh, total, any}
use Rattle.tandem.specs.Tandem.{crosses, on, bursts, rates, no_flow, no_server}
use Rattle.row.specs.Groups.{used, from, from_on, groups, grouped, reads}
use Rattle.tandem.specs.Crowded.{crowded, lowest_crowded}
use Rattle.row.specs.Checks.{overlaps, not_nested, too_many}
use Rattle.row.specs.Alike.{Alike}
use Rattle.row.proofs.SameLaws.{row_alike}
use Rattle.tandem.specs.OfSheet.{listed, tandem_of}
use Rattle.row.specs.OfSheet.{grid_of, row_of, check_of, formed_of}

-- P7: R 10, T 0; cross 10, 6; watched 12, 4; g 4
abbrev pub sheet7 : List ℕ
sheet7 = 1 ∷ 1 ∷ 10 ∷ 0 ∷ 1 ∷ 1 ∷ 1 ∷ 10 ∷ 6 ∷ 12 ∷ 4 ∷ 0 ∷ 4 ∷ []

-- P9: paths (1,2), (2,3) on three servers
abbrev pub sheet9 : List ℕ
sheet9 = 1 ∷ 3 ∷ 10 ∷ 0 ∷ 10 ∷ 0 ∷ 10 ∷ 0 ∷ 2 ∷ 1 ∷ 2 ∷ 1 ∷ 1 ∷ 2 ∷ 3 ∷ 1 ∷ 1 ∷ 1 ∷ 1 ∷ 0 ∷ 3 ∷ []

-- P10: R 10, rates 6 and 5
abbrev pub sheet10 : List ℕ
sheet10 = 1 ∷ 1 ∷ 10 ∷ 0 ∷ 1 ∷ 1 ∷ 1 ∷ 1 ∷ 6 ∷ 1 ∷ 5 ∷ 0 ∷ 3 ∷ []

-- the row of P7: the watched flow, and behind it the one group
abbrev pub row7 : Row
row7 =
    record {
      size = 1;
      servers = record { rate = 10; latency = 0 } ∷ replicate 15 no_server;
      count = 2;
      groups = record { first = 1; last = 1; burst = 12; rate = 4 } ∷ record { first = 1; last = 1; burst = 10; rate = 6 } ∷ replicate 30
          no_flow;
      mode = 0;
      grid = 4;
    }

pub valid7 : Valid sheet7
unfolding list_of step_on rule_at field_at seen_after
valid7 = listed_valid sheet7 sheet7 refl

pub valid9 : Valid sheet9
unfolding list_of step_on rule_at field_at seen_after
valid9 = listed_valid sheet9 sheet9 refl

pub passed7 : check_of sheet7 ≡ None
unfolding total any crosses on bursts rates used from from_on groups grouped reads overlaps not_nested crowded lowest_crowded too_many listed tandem_of
    grid_of row_of check_of
passed7 = refl

pub figures :
    (formed_of sheet7 ≡ Ok row7)
    × (formed_of sheet9 ≡ Err Crossing)
    × (formed_of sheet10 ≡ Err (Crowded 1))
unfolding total any crosses on bursts rates used from from_on groups grouped reads overlaps not_nested crowded lowest_crowded too_many listed tandem_of
    grid_of row_of check_of formed_of
figures = (refl, refl, refl)

-- Rows with latencies 0 and bursts 1: the servers' rates, and of each cross flow its path and rate.
pub record Cross : Type 0 where
  pub first : ℕ
  pub last : ℕ
  pub rate : ℕ

abbrev crossing : ℕ → ℕ → ℕ → Cross
crossing i l ρ = record { first = i; last = l; rate = ρ }

abbrev servers_of : List ℕ → List ℕ
servers_of [] = []
servers_of (R ∷ l) = R ∷ 0 ∷ servers_of l

abbrev flows_of : List Cross → List ℕ
flows_of [] = []
flows_of (c ∷ l) = c.first ∷ c.last ∷ 1 ∷ c.rate ∷ flows_of l

abbrev row_with : List ℕ → List Cross → ℕ → ℕ → ℕ → List ℕ
row_with Rs cs ρ mode g = 1 ∷ length Rs ∷ servers_of Rs ++ (length cs ∷ flows_of cs) ++ (1 ∷ ρ ∷ mode ∷ g ∷ [])

-- a group at each of servers 1 to n, behind others
abbrev at_each : ℕ → List Cross → List Cross
at_each zero l = l
at_each (suc n) l = at_each n (crossing (suc n) (suc n) 1 ∷ l)

pub record Checked : Type 0 where
  pub sheet : List ℕ
  pub says : Option Unfit

abbrev checked : List ℕ → Option Unfit → Checked
checked s c = record { sheet = s; says = c }

abbrev tens : ℕ → List ℕ
tens n = replicate n 10

abbrev pub rows : List Checked
rows =
    -- 6: i < h ≤ j < k, in either order in the sheet; paths that share no server, one path inside another, with or without its first or last server,
    -- and equal paths do not cross
    checked (row_with (tens 4) (crossing 1 3 1 ∷ crossing 2 4 1 ∷ []) 1 0 3) (Some Crossing)
    ∷ checked (row_with (tens 4) (crossing 3 4 1 ∷ crossing 1 1 1 ∷ crossing 1 3 1 ∷ []) 1 0 3) (Some Crossing)
    ∷ checked (row_with (tens 4) (crossing 1 2 1 ∷ crossing 3 4 1 ∷ []) 1 0 3) None
    ∷ checked (row_with (tens 4) (crossing 1 4 1 ∷ crossing 2 3 1 ∷ crossing 1 3 1 ∷ crossing 1 1 1 ∷ crossing 4 4 1 ∷ []) 1 0 3) None
    ∷ checked (row_with (tens 4) (crossing 2 3 1 ∷ crossing 2 3 1 ∷ crossing 3 3 1 ∷ []) 1 0 3) None
    -- 7: "R 10, rates 6 and 4 | accepted"; at each server the rates of the flows that cross it, from the first server to the last; "lowest such server"
    ∷ checked (row_with (tens 1) (crossing 1 1 6 ∷ []) 4 0 3) None
    ∷ checked (row_with (tens 2) (crossing 1 1 6 ∷ crossing 2 2 6 ∷ []) 4 0 3) None
    ∷ checked (row_with (tens 2) (crossing 1 1 6 ∷ crossing 2 2 7 ∷ []) 4 0 3) (Some (Crowded 2))
    ∷ checked (row_with (10 ∷ 20 ∷ 20 ∷ 10 ∷ []) (crossing 2 3 16 ∷ []) 4 0 3) None
    ∷ checked (row_with (10 ∷ 19 ∷ 20 ∷ 10 ∷ []) (crossing 2 3 16 ∷ []) 4 0 3) (Some (Crowded 2))
    ∷ checked (row_with (10 ∷ 20 ∷ 19 ∷ 10 ∷ []) (crossing 2 3 16 ∷ []) 4 0 3) (Some (Crowded 3))
    ∷ checked (row_with (10 ∷ 19 ∷ 19 ∷ 3 ∷ []) (crossing 2 3 16 ∷ []) 4 0 3) (Some (Crowded 2))
    -- 8: "g 9, five groups: 59,049 points | accepted", "g 9, six groups | 8, detail 6", "g 2, sixteen groups; seventeen | accepted; 8"; six flows on
    -- five paths are five groups
    ∷ checked (row_with (tens 5) (at_each 5 []) 1 0 9) None
    ∷ checked (row_with (tens 5) (at_each 5 (crossing 5 5 1 ∷ [])) 1 0 9) None
    ∷ checked (row_with (tens 6) (at_each 6 []) 1 0 9) (Some (Points 6))
    ∷ checked (row_with (tens 6) (at_each 6 []) 1 1 9) None
    ∷ checked (row_with (tens 16) (at_each 16 []) 1 0 2) None
    ∷ checked (row_with (tens 16) (at_each 16 (crossing 1 16 1 ∷ [])) 1 0 2) (Some (Points 17))
    -- 4^8 is 65,536; and 0 means 3: 3^10 is 59,049, 3^11 is 177,147
    ∷ checked (row_with (tens 8) (at_each 8 []) 1 0 4) None
    ∷ checked (row_with (tens 9) (at_each 9 []) 1 0 4) (Some (Points 9))
    ∷ checked (row_with (tens 10) (at_each 10 []) 1 0 0) None
    ∷ checked (row_with (tens 11) (at_each 11 []) 1 0 0) (Some (Points 11))
    ∷ []

pub rows_checked : map (λ (r : Checked). check_of r.sheet) rows ≡ map (λ (r : Checked). r.says) rows
unfolding total any crosses on bursts rates used from from_on groups overlaps not_nested crowded lowest_crowded too_many listed tandem_of grid_of check_of
rows_checked = refl

-- "above 65,536": the number itself is not, and the next is; "mode 0"
pub points_limit :
    (too_many (tandem_of sheet7) 0 65536 ≡ false) × (too_many (tandem_of sheet7) 0 65537 ≡ true) × (too_many (tandem_of sheet7) 1 65537 ≡ false)
unfolding any on used from from_on groups too_many listed tandem_of
points_limit = (refl, refl, refl)

-- "Cross flows with one path form one group; bursts and rates add up. Groups stand in order of first server, then longer path first. A path equal to
-- the watched flow's is a group": flows on (3,3), (1,2), (2,2), (1,3), (1,2), (1,1), and what the analysis reads of them, behind the watched flow
abbrev mixed : List ℕ
mixed =
    1 ∷ 3 ∷ 50 ∷ 1 ∷ 60 ∷ 2 ∷ 70 ∷ 3
    ∷ 6 ∷ 3 ∷ 3 ∷ 10 ∷ 1 ∷ 1 ∷ 2 ∷ 20 ∷ 2 ∷ 2 ∷ 2 ∷ 30 ∷ 3 ∷ 1 ∷ 3 ∷ 40 ∷ 4 ∷ 1 ∷ 2 ∷ 50 ∷ 5 ∷ 1 ∷ 1 ∷ 60 ∷ 6
    ∷ 70 ∷ 7 ∷ 1 ∷ 0 ∷ []

abbrev flowed : ℕ → ℕ → ℕ → ℕ → Flow
flowed i l σ ρ = record { first = i; last = l; burst = σ; rate = ρ }

pub mixed_reads : reads (tandem_of mixed) ≡ flowed 1 3 70 7 ∷ flowed 1 3 40 4 ∷ flowed 1 2 70 7 ∷ flowed 1 1 60 6 ∷ flowed 2 2 30 3 ∷ flowed 3 3 10 1 ∷ []
unfolding total any on bursts rates used from from_on groups grouped reads listed tandem_of
mixed_reads = refl

-- "g | 0 or 2..9; 0 means 3", and the servers in order
pub mixed_row : (formed_of mixed ≡ Ok (row_of mixed)) × ((row_of mixed).grid ≡ 3) × ((row_of mixed).mode ≡ 1) × ((row_of mixed).count ≡ 6)
    × ((row_of mixed).servers
    ≡ record { rate = 50; latency = 1 } ∷ record { rate = 60; latency = 2 } ∷ record { rate = 70; latency = 3 } ∷ replicate 13
    no_server)
unfolding total any crosses on bursts rates used from from_on groups grouped reads overlaps not_nested crowded lowest_crowded too_many listed tandem_of
    grid_of row_of check_of formed_of
mixed_row = (refl, refl, refl, refl, refl)

-- P7 with its cross flow in two parts
abbrev pub split7 : List ℕ
split7 = 1 ∷ 1 ∷ 10 ∷ 0 ∷ 2 ∷ 1 ∷ 1 ∷ 4 ∷ 5 ∷ 1 ∷ 1 ∷ 6 ∷ 1 ∷ 12 ∷ 4 ∷ 0 ∷ 4 ∷ []

pub valid_split7 : Valid split7
unfolding list_of step_on rule_at field_at seen_after
valid_split7 = listed_valid split7 split7 refl

once_or_twice : (b : Bool) → b ≡ (b || b)
once_or_twice true = refl
once_or_twice false = refl

two_parts : (b : Bool) (x y z : ℕ) → x ≡ y + z → 0 + weigh b x ≡ 0 + weigh b y + weigh b z
two_parts true x y z h = omega arith
two_parts false x y z h = omega arith

pub alike7 : Alike (tandem_of sheet7) (tandem_of split7)
unfolding tandem_of listed used any on bursts rates total
alike7 = record {
  some = omega arith;
  some_other = omega arith;
  watched = refl;
  paths = λ g. once_or_twice (eqb 1 g.first && eqb 1 g.last);
  burst_sums = λ g. two_parts (eqb 1 g.first && eqb 1 g.last) 10 4 6 refl;
  rate_sums = λ g. two_parts (eqb 1 g.first && eqb 1 g.last) 6 5 1 refl;
}

pub same7 : formed_of sheet7 ≡ formed_of split7
unfolding tandem_of listed
same7 = row_alike sheet7 split7 valid7 valid_split7 refl refl refl alike7
