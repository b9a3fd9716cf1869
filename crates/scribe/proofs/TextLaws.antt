-- Laws of what a text says: the range of a digit, the text's bytes with the line end behind them, one by one, and that there are no more
-- numbers than there is room for.
-- Assumes nothing.
use Rattle.std.specs.Prelude.{None, Some, Ok, Err, ℕ, zero, suc, ◌≤◌, ◌<◌, ◌≡◌, refl, List, [], ◌∷◌, ◌++◌, Bool, true, false, ◌&&◌, length, get_or, drop, leb}
use Rattle.std.proofs.Common.{arith, leb-true}
use Rattle.scribe.specs.declared.Mark.{Mark}
use Rattle.scribe.specs.declared.Mark.TheVariants.{Between}
use Rattle.scribe.specs.Text.{Turn, is_digit, Said, these, wrong, also, on_turn, turn_of, line_after, text_from, text_of, gives_text, numbers_in}

both : (p q : Bool) → (p && q) ≡ true → (p ≡ true) × (q ≡ true)
both true q e = (refl, e)
both false q e = absurd (cc)

pub digit_range : (b : ℕ) → is_digit b ≡ true → (48 ≤ b) × (b ≤ 57)
unfolding is_digit
digit_range b e = let t = both (leb 48 b) (leb b 57) e in (leb-true 48 b t.0, leb-true b 57 t.1)

-- the text's byte at a place, and a line end behind the last
pub byte_behind : (s : List ℕ) (i : ℕ) → i ≤ length s → drop i (s ++ (10 ∷ [])) ≡ get_or s i 10 ∷ drop (suc i) (s ++ (10 ∷ []))
byte_behind [] zero h = refl
byte_behind [] (suc i) h = absurd (omega arith)
byte_behind (b ∷ s) zero h = refl
byte_behind (b ∷ s) (suc i) h = byte_behind s i (omega arith)

pub none_behind : (s : List ℕ) (i : ℕ) → length s < i → drop i (s ++ (10 ∷ [])) ≡ []
none_behind [] zero h = absurd (omega arith)
none_behind [] (suc zero) h = refl
none_behind [] (suc (suc i)) h = refl
none_behind (b ∷ s) zero h = absurd (omega arith)
none_behind (b ∷ s) (suc i) h = none_behind s i (omega arith)

-- a place of a list whatever stands behind it
pub any_default : (s : List ℕ) (i d e : ℕ) → i < length s → get_or s i d ≡ get_or s i e
any_default [] i d e h = absurd (omega arith)
any_default (b ∷ s) zero d e h = refl
any_default (b ∷ s) (suc i) d e h = any_default s i d e (omega arith)

-- No more numbers than there is room for.

also_length : (x : ℕ) (r : Said) → length (numbers_in (also x r)) ≡ suc (length (numbers_in r))
also_length x (these xs) = refl
also_length x (wrong xs s l) = refl

turn_few : (u : Turn) (room line : ℕ) (go : ℕ → Mark → Said) → ((r : ℕ) (m : Mark) → length (numbers_in (go r m)) ≤ r)
    → length (numbers_in (on_turn u room line go)) ≤ room
turn_few (Ok (None, m)) room line go h = h room m
turn_few (Ok (Some x, m)) zero line go h = omega arith
turn_few (Ok (Some x, m)) (suc room) line go h = omega (arith, also_length x (go room m), h room m)
turn_few (Err s) room line go h = omega arith

numbers_few : (room line : ℕ) (m : Mark) (t : List ℕ) → length (numbers_in (text_from room line m t)) ≤ room
numbers_few room line m [] = omega arith
numbers_few room line m (b ∷ t) =
    turn_few (turn_of m b) room line (λ room' m'. text_from room' (line_after line b) m' t) (λ room' m'. numbers_few room' (line_after line b) m' t)

gives_count : (s : Said) (n : ℕ) → gives_text s ≡ Ok n → n ≡ length (numbers_in s)
gives_count (these xs) n e = cc
gives_count (wrong xs s l) n e = absurd (cc)

pub text_few : (room : ℕ) (text : List ℕ) (n : ℕ) → gives_text (text_of room text) ≡ Ok n → n ≤ room
unfolding text_of
text_few room text n e =
    let q = gives_count (text_of room text) n e in
    omega (arith, numbers_few room 1 Between (text ++ (10 ∷ [])))
