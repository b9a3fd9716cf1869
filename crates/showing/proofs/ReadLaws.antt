-- THE LAW: what is shown of a sheet is read back: its text says its numbers, one for one.
-- Assumes nothing.
use Rattle.std.specs.Prelude.{ℕ, zero, suc, ◌+◌, ◌≤◌, ◌<◌, ◌≡◌, refl, List, [], ◌∷◌, ◌++◌, Bool, true, false, ◌&&◌, not, eqb, length, get_or, drop}
use Rattle.std.proofs.Common.{sym, ap, ◌∙◌, append_assoc, arith, drop_of_length-le, drop-cons, eq-eqb}
use Rattle.fields.proofs.StepLaws.{and_left, and_right}
use Rattle.fields.specs.Rule.{field_at}
use Rattle.text.specs.Decimal.{decimal}
use Rattle.text.proofs.DecimalLaws.{AllDigits, decimal_all}
use Rattle.text.specs.Lines.{field}
use Rattle.naming.specs.Names.{edition_word, servers_word, server_rate_word, latency_word, count_word, first_word, last_word, burst_word, rate_word}
use Rattle.naming.specs.Names.{watched_burst_word, watched_rate_word, mode_word, grid_word, name_of, extent_in, seen, owner_at, name_at}
use Rattle.scribe.specs.declared.Mark.TheVariants.{Between}
use Rattle.scribe.specs.Text.{is_digit, is_blank, these, also, line_after, text_from, text_of}
use Rattle.scribe.proofs.TripLaws.{number_read, OneLine, comment_read, line_end_alone}
use Rattle.showing.specs.Shown.{named_line, number_line, lines_from, shown}

-- A name stands in one line.

-- no byte is a line end, as a test
abbrev one_line : List ℕ → Bool
one_line [] = true
one_line (b ∷ bs) = not (eqb b 10) && one_line bs

not_ten : (b : ℕ) → not (eqb b 10) ≡ true → b ≡ 10 → ⊥
not_ten b e h = let t : not (eqb b 10) ≡ false = rw (eq-eqb b 10 h) in let q : ◌≡◌ {A = ℕ} 0 1 = cc (e, t) in omega arith

one_line_lem : (bs : List ℕ) → one_line bs ≡ true → OneLine bs
one_line_lem [] e = tt
one_line_lem (b ∷ bs) e = (not_ten b (and_left (not (eqb b 10)) (one_line bs) e), one_line_lem bs (and_right (not (eqb b 10)) (one_line bs) e))

lines_append : (a b : List ℕ) → OneLine a → OneLine b → OneLine (a ++ b)
lines_append [] b p q = q
lines_append (x ∷ a) b p q = (p.0, lines_append a b p.1 q)

digits_line : (ds : List ℕ) → AllDigits ds → OneLine ds
digits_line [] a = tt
digits_line (d ∷ ds) a = ((λ e. omega (arith, a.0.0)), digits_line ds a.1)

field_line : (word : List ℕ) (k : ℕ) → one_line word ≡ true → OneLine (field word k)
unfolding field
field_line word k e = lines_append word (decimal k) (one_line_lem word e) (digits_line (decimal k) (decimal_all k))

name_line : (f k : ℕ) → OneLine (name_of f k)
unfolding name_of
name_line zero k = one_line_lem edition_word refl
name_line (suc zero) k = one_line_lem servers_word refl
name_line (suc (suc zero)) k = field_line server_rate_word k refl
name_line (suc (suc (suc zero))) k = field_line latency_word k refl
name_line (suc (suc (suc (suc zero)))) k = one_line_lem count_word refl
name_line (suc (suc (suc (suc (suc zero))))) k = field_line first_word k refl
name_line (suc (suc (suc (suc (suc (suc zero)))))) k = field_line last_word k refl
name_line (suc (suc (suc (suc (suc (suc (suc zero))))))) k = field_line burst_word k refl
name_line (suc (suc (suc (suc (suc (suc (suc (suc zero)))))))) k = field_line rate_word k refl
name_line (suc (suc (suc (suc (suc (suc (suc (suc (suc zero))))))))) k = one_line_lem watched_burst_word refl
name_line (suc (suc (suc (suc (suc (suc (suc (suc (suc (suc zero)))))))))) k = one_line_lem watched_rate_word refl
name_line (suc (suc (suc (suc (suc (suc (suc (suc (suc (suc (suc zero))))))))))) k = one_line_lem mode_word refl
name_line (suc (suc (suc (suc (suc (suc (suc (suc (suc (suc (suc (suc zero)))))))))))) k = one_line_lem grid_word refl
name_line (suc (suc (suc (suc (suc (suc (suc (suc (suc (suc (suc (suc (suc f))))))))))))) k = tt

-- A line says its number.

blank_between : (is_digit 32 ≡ false) × (is_blank 32 ≡ true)
unfolding is_digit is_blank
blank_between = (refl, refl)

same_line : (line : ℕ) → line_after line 32 ≡ line
unfolding line_after
same_line line = refl

line_read : (room line : ℕ) (xs : List ℕ) (i : ℕ) (t : List ℕ) → get_or xs i 0 < 4294967296
    → text_from (suc room) line Between (number_line xs i ++ t) ≡ also (get_or xs i 0) (text_from room (line + 1) Between t)
unfolding named_line name_at
line_read room line xs i t h =
    let name = name_of (field_at i (seen (extent_in xs))) (owner_at i (seen (extent_in xs))) in
    let o : OneLine (32 ∷ name) = ((λ e. omega arith), name_line (field_at i (seen (extent_in xs))) (owner_at i (seen (extent_in xs)))) in
    rw (append_assoc, append_assoc, append_assoc)
    (number_read room line (get_or xs i 0) 32 (35 ∷ ((32 ∷ name) ++ (10 ∷ t))) h blank_between.0 blank_between.1
    ∙ rw (same_line line) (ap (also (get_or xs i 0)) (comment_read room line (32 ∷ name) t o)))

lines_read : (n room line : ℕ) (xs : List ℕ) (i : ℕ) → ((j : ℕ) → get_or xs j 0 < 4294967296) → i + n ≡ length xs → n ≤ room
    → text_from room line Between (lines_from xs i n ++ (10 ∷ [])) ≡ these (drop i xs)
unfolding lines_from
lines_read zero room line xs i w e h = line_end_alone room line ∙ ap these (sym (drop_of_length-le xs {i = i} (omega arith)))
lines_read (suc n) zero line xs i w e h = absurd (omega arith)
lines_read (suc n) (suc room) line xs i w e h =
    rw append_assoc
    (line_read room line xs i (lines_from xs (suc i) n ++ (10 ∷ [])) (w i)
    ∙ ap (also (get_or xs i 0)) (lines_read n room (line + 1) xs (suc i) w (omega arith) (omega arith))
    ∙ ap these (sym (drop-cons xs i 0 (omega arith))))

pub shown_read : (room : ℕ) (xs : List ℕ) → ((j : ℕ) → get_or xs j 0 < 4294967296) → length xs ≤ room → text_of room (shown xs) ≡ these xs
unfolding text_of shown
shown_read room xs w h = lines_read (length xs) room 1 xs 0 w (omega arith) h
