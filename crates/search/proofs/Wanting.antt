-- What is wanted of each server, summed up group after group: what is wanted so far, with the bursts of the groups that are left, is the whole.
-- Assumes nothing.
use mathlib.Core.Path.{◌≡◌, refl, sym, ap, ◌∙◌, subst}
use mathlib.Core.Logic.{◌⊎◌, inl, inr}
use mathlib.Core.Bool.{true, false}
use mathlib.Core.List.{List, ◌∷◌}
use Prim.Native.Nat.{ℕ, suc, ◌+◌, ◌-◌, ◌*◌, ◌≤◌, ◌<◌, ◌^◌}
use native.Mathlib.Numerals.{add-one}
use native.Mathlib.Omega.{arith}
use lib.ListN.{length, get_or, take, drop, replicate, get_or-replicate, drop_of_length-le, get_or-eq_default, length-take, length-drop}
use lib.Seq.{drop-cons, get_or-take}
use Rattle.std.proofs.Common.{get_or-drop}
use Rattle.tandem.specs.Tandem.{no_flow}
use Rattle.tandem.specs.Sums.{weigh}
use Rattle.tandem.specs.declared.Flow.{Flow}
use Rattle.ground.proofs.OrderLaws.{le_or_lt}
use Rattle.curves.specs.Part.{changed}
use Rattle.curves.proofs.PartLaws.{changed_inside, changed_outside, changed_length}
use Rattle.ground.specs.Each.{Each}
use Rattle.ground.proofs.EachLaws.{each_at}
use Rattle.row.specs.declared.Row.{Row}
use Rattle.tree.specs.Ordered.{Placed}
use Rattle.point.specs.Point.{flows_of, Shaped}
use Rattle.keys.specs.Left.{passes, bursts_on}
use Rattle.keys.proofs.ServerLaws.{passes_cases}

-- the numbers from place a up to before place b, raised
abbrev pub raised : ℕ → ℕ → ℕ → List ℕ → List ℕ
raised by a b xs = changed (λ (x : ℕ). x + by) a b xs

-- the servers under a group's path, raised by its burst
abbrev pub raised_by : Flow → List ℕ → List ℕ
raised_by g xs = raised g.burst (g.first - 1) g.last xs

raised_at : (g : Flow) (xs : List ℕ) (j : ℕ) → j < length xs → get_or (raised_by g xs) j 0 ≡ get_or xs j 0 + weigh (passes g j) g.burst
raised_at g xs j h = go (passes_cases g j)
  where
    go : ((passes g j ≡ true) × (g.first - 1 ≤ j) × (j < g.last)) ⊎ ((passes g j ≡ false) × ((j < g.first - 1) ⊎ (g.last ≤ j)))
        → get_or (raised_by g xs) j 0 ≡ get_or xs j 0 + weigh (passes g j) g.burst
    go (inl p) = rw p.0 (changed_inside (λ (x : ℕ). x + g.burst) (g.first - 1) g.last xs j 0 p.1 p.2 h)
    go (inr p) =
        let z : get_or xs j 0 + 0 ≡ get_or xs j 0 = omega arith in
        rw (p.0, z) (changed_outside (λ (x : ℕ). x + g.burst) (g.first - 1) g.last xs j 0 p.1)

weigh_le : (g : Flow) (j : ℕ) → weigh (passes g j) g.burst ≤ g.burst
weigh_le g j = go (passes g j)
  where
    go : (t : _) → weigh t g.burst ≤ g.burst
    go true = omega arith
    go false = omega arith

-- the watched flow's bytes and the bursts of the groups before group k are in the numbers
pub record Wanting (gs : List Flow) (bytes : ℕ) (wants : List ℕ) (k : ℕ) : Type 0 where
  pub full : length wants ≡ 16
  pub small : (j : ℕ) → get_or wants j 0 < k * 2 ^ 40
  pub whole : (j : ℕ) → j < 16 → get_or wants j 0 + bursts_on (drop k gs) j ≡ bursts_on (drop 1 gs) j + bytes

pub wanting_begins : (gs : List Flow) (bytes : ℕ) → bytes < 2 ^ 40 → Wanting gs bytes (replicate 16 bytes) 1
wanting_begins gs bytes h = record { full = refl; small = λ j. small j (le_or_lt 16 j); whole = λ j k. omega (arith, get_or-replicate 16 j bytes 0 k) }
  where
    small : (j : ℕ) → (16 ≤ j) ⊎ (j < 16) → get_or (replicate 16 bytes) j 0 < 1 * 2 ^ 40
    small j (inl k) = omega (arith, get_or-eq_default (replicate 16 bytes) 0 {n = j} k)
    small j (inr k) = omega (arith, get_or-replicate 16 j bytes 0 k)

-- one more group
pub wanting_turns : (gs : List Flow) (bytes : ℕ) (wants : List ℕ) (k : ℕ) (g : Flow) → drop k gs ≡ g ∷ drop (suc k) gs → g.burst < 2 ^ 40
    → Wanting gs bytes wants k → Wanting gs bytes (raised_by g wants) (k + 1)
unfolding bursts_on
wanting_turns gs bytes wants k g e b w = rw (add-one k) (record { full = long; small = λ j. small j (le_or_lt 16 j); whole = whole })
  where
    long : length (raised_by g wants) ≡ 16
    long = changed_length (λ (x : ℕ). x + g.burst) (g.first - 1) g.last wants ∙ w.full

    small : (j : ℕ) → (16 ≤ j) ⊎ (j < 16) → get_or (raised_by g wants) j 0 < suc k * 2 ^ 40
    small j (inl i) = omega (arith, get_or-eq_default (raised_by g wants) 0 {n = j} (omega (arith, long)))
    small j (inr i) = omega (arith, raised_at g wants j (omega (arith, w.full)), weigh_le g j, w.small j)

    whole : (j : ℕ) → j < 16 → get_or (raised_by g wants) j 0 + bursts_on (drop (suc k) gs) j ≡ bursts_on (drop 1 gs) j + bytes
    whole j i =
        let f : bursts_on (drop k gs) j ≡ weigh (passes g j) g.burst + bursts_on (drop (suc k) gs) j = ap (λ (l : List Flow). bursts_on l j) e in
        omega (arith, f, raised_at g wants j (omega (arith, w.full)), w.whole j i)

-- no group is left
pub wanting_ends : (gs : List Flow) (bytes : ℕ) (wants : List ℕ) (k : ℕ) → length gs ≤ k → Wanting gs bytes wants k
    → (j : ℕ) → j < 16 → get_or wants j 0 ≡ bursts_on (drop 1 gs) j + bytes
unfolding bursts_on
wanting_ends gs bytes wants k h w j i =
    let e : bursts_on (drop k gs) j ≡ 0 = ap (λ (l : List Flow). bursts_on l j) (drop_of_length-le gs {i = k} h) in
    omega (arith, e, w.whole j i)

-- what the watched flow of a row may send in its first slot
abbrev pub bytes_of : Row → ℕ
bytes_of row = (get_or row.groups 0 no_flow).burst + (get_or row.groups 0 no_flow).rate

-- the groups of a row, which the code goes over
abbrev pub groups_of : Row → List Flow
groups_of row = take (row.count - 1) (drop 1 row.groups)

module _ (row : Row) (s : Shaped row) where
  -- each of the row's flows is there, since no path is empty
  pub flows_long : length (flows_of row) ≡ row.count
  flows_long = go (le_or_lt (length row.groups) (row.count - 1))
    where
      last : Placed row.size (get_or row.groups (row.count - 1) no_flow)
      last = s.paths (row.count - 1) (omega (arith, s.some))

      go : (length row.groups ≤ row.count - 1) ⊎ (row.count - 1 < length row.groups) → length (flows_of row) ≡ row.count
      go (inl h) = let none : get_or row.groups (row.count - 1) no_flow ≡ no_flow = get_or-eq_default row.groups no_flow {n = row.count - 1} h in absurd (omega (arith, last.enters, ap (λ (f : Flow). f.first) none))
      go (inr h) = omega (arith, h, s.some, length-take row.count row.groups)

  module _ (light : Each (λ f. f.burst + f.rate < 2 ^ 40) (flows_of row)) where
    light_at : (k : ℕ) → k < row.count → (get_or row.groups k no_flow).burst + (get_or row.groups k no_flow).rate < 2 ^ 40
    light_at k h =
        subst (λ (f : Flow). f.burst + f.rate < 2 ^ 40) (get_or-take row.count row.groups k no_flow h)
        (each_at (λ f. f.burst + f.rate < 2 ^ 40) (flows_of row) no_flow light k (omega (arith, flows_long, h)))

    pub bytes_small : bytes_of row < 2 ^ 40
    bytes_small = light_at 0 s.some

    pub begin_wanting : Wanting (flows_of row) (bytes_of row) (replicate 16 (bytes_of row)) 1
    begin_wanting = wanting_begins (flows_of row) (bytes_of row) bytes_small

    -- the next group
    module _ (i : ℕ) (h : i < length (groups_of row)) where
      abbrev its : Flow
      its = get_or (groups_of row) i no_flow

      place : suc i < row.count
      place = omega (arith, h, length-take (row.count - 1) (drop 1 row.groups))

      its_is : get_or row.groups (suc i) no_flow ≡ its
      its_is =
          let e : 1 + i ≡ suc i = omega arith in
          ap (λ (n : ℕ). get_or row.groups n no_flow) (sym e) ∙ sym (get_or-drop 1 row.groups i no_flow) ∙ sym (get_or-take (row.count - 1) (drop 1 row.groups) i no_flow (omega (arith, place)))

      pub its_path : Placed row.size its
      its_path = subst (Placed row.size) its_is (s.paths (suc i) place)

      its_burst : its.burst < 2 ^ 40
      its_burst = omega (arith, subst (λ (f : Flow). f.burst + f.rate < 2 ^ 40) its_is (light_at (suc i) place))

      pub its_room : (wants : List ℕ) → Wanting (flows_of row) (bytes_of row) wants (i + 1) → (j : ℕ) → get_or wants j 0 + its.burst < 2 ^ 64
      its_room wants w j = omega (arith, w.small j, its_burst, place, s.few)

      next : drop (suc i) (flows_of row) ≡ its ∷ drop (suc (suc i)) (flows_of row)
      next =
          drop-cons (flows_of row) (suc i) no_flow (omega (arith, flows_long, place))
          ∙ ap (λ (f : Flow). f ∷ drop (suc (suc i)) (flows_of row)) (get_or-take row.count row.groups (suc i) no_flow place ∙ its_is)

      pub turn_wanting : (wants : List ℕ) → Wanting (flows_of row) (bytes_of row) wants (i + 1) → Wanting (flows_of row) (bytes_of row) (raised_by its wants) (i + 1 + 1)
      turn_wanting wants w = wanting_turns (flows_of row) (bytes_of row) wants (i + 1) its (rw (add-one i) next) its_burst w

    pub end_wanting : (wants : List ℕ) (i : ℕ) → length (groups_of row) ≤ i → Wanting (flows_of row) (bytes_of row) wants (i + 1)
        → (j : ℕ) → j < row.size → get_or wants j 0 ≡ bursts_on (drop 1 (flows_of row)) j + ((get_or (flows_of row) 0 no_flow).burst + (get_or (flows_of row) 0 no_flow).rate)
    end_wanting wants i h w j p =
        rw (get_or-take row.count row.groups 0 no_flow s.some)
        (wanting_ends (flows_of row) (bytes_of row) wants (i + 1) (omega (arith, h, flows_long, some_groups)) w j (omega (arith, p, s.short)))
      where
        some_groups : row.count - 1 ≤ length (groups_of row)
        some_groups = omega (arith, flows_long, length-take row.count row.groups, length-take (row.count - 1) (drop 1 row.groups), length-drop 1 row.groups)
