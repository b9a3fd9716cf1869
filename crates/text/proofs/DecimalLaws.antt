-- Laws of decimal numbers: the digits one by one, how many there are, that each is a digit, and that a number that was written is read back.
-- Assumes nothing.
use Rattle.std.specs.Prelude.{ℕ, zero, suc, ◌+◌, ◌-◌, ◌*◌, ◌/◌, ◌%◌, ◌^◌, ◌≤◌, ◌<◌, ◌≡◌, refl, List, [], ◌∷◌, ◌++◌, length}
use Rattle.std.proofs.Common.{◌∙◌, ⊎_elim, add-one, arith, length-append, lt-ltb, le-ltb}
use Rattle.ground.proofs.OrderLaws.{lt_or_ge}
use Rattle.ground.specs.Base.{width}
use Rattle.ground.proofs.BaseLaws.{below_power, width_some, width_few}
use Rattle.std.specs.Fmt.{decimal as printed}
use Rattle.std.proofs.lemmas.Fmt.{decimal_by_steps}
use Rattle.text.specs.Decimal.{digits, decimal, value_after, value_of}

-- The digits of a number, one by one.

pub digits_last : (n x : ℕ) → x < 10 → digits (suc n) x ≡ (48 + x) ∷ []
digits_last n x h = rw (lt-ltb x 10 h)

pub digits_more : (n x : ℕ) → 10 ≤ x → digits (suc n) x ≡ digits n (x / 10) ++ ((48 + x % 10) ∷ [])
digits_more n x h = rw (le-ltb x 10 h)

-- how many there are
digits_width : (n x : ℕ) → length (digits n x) ≡ width 10 n x
digits_width zero x = refl
digits_width (suc n) x =
    ⊎_elim (λ h. rw (lt-ltb x 10 h))
    (λ h. rw (le-ltb x 10 h, length-append (digits n (x / 10)) ((48 + x % 10) ∷ []), digits_width n (x / 10), add-one))
    (lt_or_ge x 10)

pub digits_some : (n x : ℕ) → 0 < length (digits (suc n) x)
digits_some n x = rw digits_width (width_some 10 n x)

pub decimal_some : (x : ℕ) → 0 < length (decimal x)
unfolding decimal
decimal_some x = digits_some 19 x

pub decimal_few : (x : ℕ) → length (decimal x) ≤ 20
unfolding decimal
decimal_few x = rw digits_width (width_few 10 20 x)

-- Each is a digit.

-- every byte of a list lies from `0` to `9`
abbrev pub AllDigits : List ℕ → Type 0
AllDigits [] = Unit {0}
AllDigits (d ∷ ds) = ((48 ≤ d) × (d ≤ 57)) × AllDigits ds

all_last : (ds : List ℕ) (d : ℕ) → AllDigits ds → 48 ≤ d → d ≤ 57 → AllDigits (ds ++ (d ∷ []))
all_last [] d a h k = ((h, k), tt)
all_last (e ∷ ds) d a h k = (a.0, all_last ds d a.1 h k)

digits_all : (n x : ℕ) → AllDigits (digits n x)
digits_all zero x = tt
digits_all (suc n) x =
    ⊎_elim (λ h. rw (digits_last n x h) ((omega arith, omega arith), tt))
    (λ h. rw (digits_more n x h) (all_last (digits n (x / 10)) (48 + x % 10) (digits_all n (x / 10)) (omega arith) (omega arith)))
    (lt_or_ge x 10)

pub decimal_all : (x : ℕ) → AllDigits (decimal x)
unfolding decimal
decimal_all x = digits_all 20 x

-- What was written is read back.

pub value_append : (v : ℕ) (a b : List ℕ) → value_after v (a ++ b) ≡ value_after (value_after v a) b
value_append v [] b = refl
value_append v (d ∷ a) b = value_append (10 * v + (d - 48)) a b

digits_value : (n x : ℕ) → x < 10 ^ suc n → value_of (digits (suc n) x) ≡ x
digits_value zero x h = let l : x < 10 = omega arith in rw (digits_last 0 x l) (omega arith)
digits_value (suc n) x h =
    ⊎_elim (λ l. rw (digits_last (suc n) x l) (omega arith))
    (λ g. rw (digits_more (suc n) x g, value_append, digits_value n (x / 10) (below_power 10 (suc n) x (omega arith) h)) (omega arith))
    (lt_or_ge x 10)

pub decimal_value : (x : ℕ) → x < 18446744073709551616 → value_of (decimal x) ≡ x
unfolding decimal
decimal_value x h = digits_value 19 x (omega arith)

-- The digits are those that the library writes.

-- digits that are those of every number below 10^n, where n may be any that is large enough
abbrev Spells : ℕ → List ℕ → Type 0
Spells x ds = (n : ℕ) → x < 10 ^ suc n → digits (suc n) x ≡ ds

spells_more : (x : ℕ) (ds : List ℕ) → 10 ≤ x → Spells (x / 10) ds → (n : ℕ) → x < 10 ^ suc n → digits (suc n) x ≡ ds ++ ((48 + x % 10) ∷ [])
spells_more x ds g h zero f = absurd (omega arith)
spells_more x ds g h (suc n) f = digits_more (suc n) x g ∙ rw (h n (below_power 10 (suc n) x (omega arith) f))

pub decimal_printed : (x : ℕ) → x < 18446744073709551616 → decimal x ≡ printed x
unfolding decimal
decimal_printed x h = decimal_by_steps Spells (λ n l k f. digits_last k n l) spells_more x (omega arith) 19 (omega arith)
