-- What it says of a flow that it crosses a server, or has a path.
-- Assumes nothing.
use Rattle.std.specs.Prelude.{◌≡◌, Bool, true, false, ◌||◌, ◌&&◌, ℕ, ◌+◌, ◌≤◌, ◌<◌, leb, ltb, eqb, length}
use Rattle.std.proofs.Common.{lt-ltb, ltb-true, le-leb, leb-true, eq-eqb, eqb-true}
use Rattle.tandem.specs.Tandem.{Tandem, Path, flow, crosses, on, rates}
use Rattle.tandem.proofs.TestLaws.{both_true}
use Rattle.tandem.proofs.SumLaws.{total_or}

pub on_is : (row : Tandem) (g : Path) (f : ℕ) → on row g f ≡ true
    → (0 < f) × (f < length row.flows) × ((flow row f).first ≡ g.first) × ((flow row f).last ≡ g.last)
unfolding on
on_is row g f h =
    let x : Bool = eqb (flow row f).first g.first in
    let y : Bool = eqb (flow row f).last g.last in
    let z : Bool = ltb f (length row.flows) in
    let a = both_true (ltb 0 f) (z && (x && y)) h in
    let b = both_true z (x && y) a.1 in
    let c = both_true x y b.1 in
    (ltb-true 0 f a.0, ltb-true f (length row.flows) b.0, eqb-true (flow row f).first g.first c.0, eqb-true (flow row f).last g.last c.1)

pub is_on : (row : Tandem) (g : Path) (f : ℕ) → 0 < f → f < length row.flows → (flow row f).first ≡ g.first → (flow row f).last ≡ g.last → on row g f ≡ true
unfolding on
is_on row g f a b c d = rw (lt-ltb 0 f a, lt-ltb f (length row.flows) b, eq-eqb (flow row f).first g.first c, eq-eqb (flow row f).last g.last d)

pub crosses_is : (row : Tandem) (f j : ℕ) → crosses row f j ≡ true → (f < length row.flows) × ((flow row f).first ≤ j) × (j ≤ (flow row f).last)
unfolding crosses
crosses_is row f j h =
    let x : Bool = leb (flow row f).first j in
    let y : Bool = leb j (flow row f).last in
    let a = both_true (ltb f (length row.flows)) (x && y) h in
    let b = both_true x y a.1 in
    (ltb-true f (length row.flows) a.0, leb-true (flow row f).first j b.0, leb-true j (flow row f).last b.1)

pub is_crosses : (row : Tandem) (f j : ℕ) → f < length row.flows → (flow row f).first ≤ j → j ≤ (flow row f).last → crosses row f j ≡ true
unfolding crosses
is_crosses row f j a b c = rw (lt-ltb f (length row.flows) a, le-leb (flow row f).first j b, le-leb j (flow row f).last c)

-- the rates and the bursts of two sets that share no flow add up
pub rates_or : (row : Tandem) (P G : ℕ → Bool) → ((f : ℕ) → P f ≡ true → G f ≡ false) → rates row (λ f. P f || G f) ≡ rates row P + rates row G
unfolding rates
rates_or row P G h = total_or (length row.flows) P G (λ f. (flow row f).rate) h
