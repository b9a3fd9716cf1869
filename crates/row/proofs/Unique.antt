-- Each public function leaves one possible result: two results that both meet its contract are equal.
-- Assumes nothing.
use Rattle.std.specs.Prelude.{◌≡◌, Bool, Result, List, ℕ, ◌<◌, length, get_or}
use Rattle.std.proofs.Common.{sym, ◌∙◌, arith, ext_get_or}
use Rattle.ground.proofs.ValueLaws.{one_value}
use Rattle.tandem.specs.declared.Server.{Server}
use Rattle.tandem.specs.declared.Flow.{Flow}
use Rattle.row.specs.declared.Row.{Row}
use Rattle.row.specs.declared.Unfit.{Unfit}
use Rattle.row.specs.Contract.{ReachesOf, IsNotNested, Form, RowOf}

pub reaches_of_unique : (flows : List Flow) (a b : List ℕ) → ReachesOf flows a → ReachesOf flows b → a ≡ b
reaches_of_unique flows a b h k = ext_get_or 0 a b (h.reaches.long ∙ sym k.reaches.long) each
  where
    each : (i : ℕ) → i < length a → get_or a i 0 ≡ get_or b i 0
    each i l =
        let m : i < 18 = omega (arith, h.reaches.long) in
        h.reaches.reach_at i m ∙ sym (k.reaches.reach_at i m)

pub is_not_nested_unique : (flows : List Flow) (a b : Bool) → IsNotNested flows a → IsNotNested flows b → a ≡ b
is_not_nested_unique flows a b h k = one_value h.is k.is

pub form_unique : (servers : List Server) (flows : List Flow) (mode grid : ℕ) (a b : Result Row Unfit)
    → Form servers flows mode grid a → Form servers flows mode grid b → a ≡ b
form_unique servers flows mode grid a b h k = one_value h.is k.is

pub row_of_unique : (xs : List ℕ) (a b : Result Row Unfit) → RowOf xs a → RowOf xs b → a ≡ b
row_of_unique xs a b h k = one_value h.is k.is
