-- What was written is read back: the decimal digits of a number below 2^32, with a blank behind them, are that number; a comment is passed
-- over; and a line end alone says no number.
-- Assumes nothing.
use Rattle.std.specs.Prelude.{None, Some, Ok, ℕ, suc, ◌+◌, ◌-◌, ◌*◌, ◌≤◌, ◌<◌, ◌≡◌, refl, List, [], ◌∷◌, ◌++◌, true, false, length}
use Rattle.std.proofs.Common.{◌∙◌, arith, le-leb, ne_eqb}
use Rattle.text.specs.Decimal.{decimal, value_after, value_of}
use Rattle.text.proofs.DecimalLaws.{AllDigits, decimal_all, decimal_some, decimal_value}
use Rattle.scribe.specs.declared.Mark.TheVariants.{Between, Comment, Inside}
use Rattle.scribe.specs.Text.{is_blank, is_digit, outside_by, longer_by, inside_by, turn_of, these, also, line_after, text_from}

-- A digit, byte by byte.

digit_is : (d : ℕ) → 48 ≤ d → d ≤ 57 → is_digit d ≡ true
unfolding is_digit
digit_is d h k = rw (le-leb 48 d h, le-leb d 57 k)

digit_no_blank : (d : ℕ) → 48 ≤ d → is_blank d ≡ false
unfolding is_blank
digit_no_blank d h = rw (ne_eqb d 32 (λ e. omega arith), ne_eqb d 9 (λ e. omega arith), ne_eqb d 13 (λ e. omega arith), ne_eqb d 10 (λ e. omega arith))

same_line : (line b : ℕ) → (b ≡ 10 → ⊥) → line_after line b ≡ line
unfolding line_after
same_line line b h = rw (ne_eqb b 10 h)

first_digit : (d : ℕ) → 48 ≤ d → d ≤ 57 → turn_of Between d ≡ Ok (None, Inside (d - 48))
unfolding turn_of outside_by
first_digit d h k = rw (digit_no_blank d h, ne_eqb d 35 (λ e. omega arith), digit_is d h k)

next_digit : (v d : ℕ) → 48 ≤ d → d ≤ 57 → 10 * v + (d - 48) ≤ 4294967295 → turn_of (Inside v) d ≡ Ok (None, Inside (10 * v + (d - 48)))
unfolding turn_of inside_by longer_by
next_digit v d h k m = rw (digit_is d h k, le-leb (10 * v + (d - 48)) 4294967295 m)

behind_digits : (v b : ℕ) → is_digit b ≡ false → is_blank b ≡ true → turn_of (Inside v) b ≡ Ok (Some v, Between)
unfolding turn_of inside_by
behind_digits v b h k = rw (h, k)

-- Digits behind digits.

value_grows : (v : ℕ) (ds : List ℕ) → v ≤ value_after v ds
value_grows v [] = omega arith
value_grows v (d ∷ ds) = omega (arith, value_grows (10 * v + (d - 48)) ds)

more_digits : (room line v : ℕ) (ds t : List ℕ) → AllDigits ds → value_after v ds ≤ 4294967295
    → text_from room line (Inside v) (ds ++ t) ≡ text_from room line (Inside (value_after v ds)) t
more_digits room line v [] t a m = refl
more_digits room line v (d ∷ ds) t a m =
    let small : 10 * v + (d - 48) ≤ 4294967295 = omega (arith, value_grows (10 * v + (d - 48)) ds) in
    rw (next_digit v d a.0.0 a.0.1 small, same_line line d (λ e. omega arith)) (more_digits room line (10 * v + (d - 48)) ds t a.1 m)

all_digits : (room line : ℕ) (ds t : List ℕ) → 0 < length ds → AllDigits ds → value_of ds ≤ 4294967295
    → text_from room line Between (ds ++ t) ≡ text_from room line (Inside (value_of ds)) t
all_digits room line [] t s a m = absurd (omega arith)
all_digits room line (d ∷ ds) t s a m =
    let z : 10 * 0 + (d - 48) ≡ d - 48 = omega arith in
    rw (first_digit d a.0.0 a.0.1, same_line line d (λ e. omega arith), z) (more_digits room line (d - 48) ds t a.1 (rw z at m))

-- A number with a blank behind it.
pub number_read : (room line x b : ℕ) (t : List ℕ) → x < 4294967296 → is_digit b ≡ false → is_blank b ≡ true
    → text_from (suc room) line Between (decimal x ++ (b ∷ t)) ≡ also x (text_from room (line_after line b) Between t)
number_read room line x b t h d k =
    let v : value_of (decimal x) ≡ x = decimal_value x (omega arith) in
    all_digits (suc room) line (decimal x) (b ∷ t) (decimal_some x) (decimal_all x) (omega arith) ∙ rw (v, behind_digits x b d k)

-- A comment, from its `#` to the line's end.

-- no byte of a list is a line end
abbrev pub OneLine : List ℕ → Type 0
OneLine [] = Unit {0}
OneLine (b ∷ bs) = (b ≡ 10 → ⊥) × OneLine bs

comment_on : (b : ℕ) → (b ≡ 10 → ⊥) → turn_of Comment b ≡ Ok (None, Comment)
unfolding turn_of
comment_on b h = rw (ne_eqb b 10 h)

comment_passed : (room line : ℕ) (bs t : List ℕ) → OneLine bs
    → text_from room line Comment (bs ++ (10 ∷ t)) ≡ text_from room (line + 1) Between t
unfolding turn_of line_after
comment_passed room line [] t a = refl
comment_passed room line (b ∷ bs) t a = rw (comment_on b a.0, same_line line b a.0) (comment_passed room line bs t a.1)

pub comment_read : (room line : ℕ) (bs t : List ℕ) → OneLine bs
    → text_from room line Between (35 ∷ (bs ++ (10 ∷ t))) ≡ text_from room (line + 1) Between t
unfolding turn_of outside_by is_blank line_after
comment_read room line bs t a = comment_passed room line bs t a

-- A line end with nothing behind it.
pub line_end_alone : (room line : ℕ) → text_from room line Between (10 ∷ []) ≡ these []
unfolding turn_of outside_by is_blank
line_end_alone room line = refl
