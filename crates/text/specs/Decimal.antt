-- A number as text: its decimal digits in ASCII, the most significant first, with no zero in front; 0 is the one digit "0".
-- Assumes nothing.
use Rattle.std.specs.Prelude.{ℕ, zero, suc, ◌+◌, ◌-◌, ◌*◌, ◌/◌, ◌%◌, List, [], ◌∷◌, ◌++◌, cond, ltb}

-- The digits of x, at most n of them: a number below 10 is one digit, and any other is the digits of its tenth and then its last.
abbrev pub digits : ℕ → ℕ → List ℕ
digits zero x = []
digits (suc n) x = cond (ltb x 10) ((48 + x) ∷ []) (digits n (x / 10) ++ ((48 + x % 10) ∷ []))

-- The digits of a number; twenty are enough below 10^20, which is above 2^64.
unfoldable pub decimal : ℕ → List ℕ
decimal x = digits 20 x

-- Digits that stand behind a number: each makes it ten times as large, and adds itself.
abbrev pub value_after : ℕ → List ℕ → ℕ
value_after v [] = v
value_after v (d ∷ ds) = value_after (10 * v + (d - 48)) ds

-- The number that digits say.
abbrev pub value_of : List ℕ → ℕ
value_of ds = value_after 0 ds
