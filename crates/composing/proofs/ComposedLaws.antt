-- How long what is printed is; and THE LAW that `compose` makes of what `show` prints the very sheet that was shown.
-- Assumes nothing.
use Rattle.std.specs.Prelude.{ℕ, ◌+◌, ◌≤◌, ◌≡◌, refl, Bool, true, false, cond, List, ◌++◌, Option, Some, None, Result, ltb, eqb, length, get_or}
use Rattle.std.proofs.Common.{ap, arith, length-append, le-ltb}
use Rattle.numbers.proofs.SevenLaws.{Bytes}
use Rattle.fields.specs.declared.Why.{Why}
use Rattle.fields.specs.declared.Why.TheVariants.{Ends, Left}
use Rattle.fields.specs.Refusal.{refusal}
use Rattle.sheet.specs.Sheet.{Found, fail, these, sheet_of, list_of, encode_all}
use Rattle.sheet.proofs.ValidLaws.{valid_length, read_valid, listed_valid}
use Rattle.sheet.proofs.WalkLaws.{list_whole}
use Rattle.sheet.proofs.WordLaws.{valid_words}
use Rattle.sheet.proofs.SizeLaws.{valid_bytes}
use Rattle.sheet.proofs.TripLaws.{write_back, read_listed}
use Rattle.text.specs.declared.Refused.{Refused}
use Rattle.text.specs.Lines.{field, bytes_of}
use Rattle.text.proofs.LinesLaws.{field_short}
use Rattle.scribe.specs.declared.Slip.{Slip}
use Rattle.scribe.specs.declared.Slip.TheVariants.{Word, Large, Many}
use Rattle.scribe.specs.Text as scribe
use Rattle.naming.specs.Names.{extent_in, name_at}
use Rattle.naming.proofs.NamesLaws.{name_at_short, range_short}
use Rattle.showing.specs.Shown.{shown}
use Rattle.showing.proofs.ShownLaws.{shown_short}
use Rattle.showing.proofs.ReadLaws.{shown_read}
use Rattle.composing.specs.Contract.{Compose}
use Rattle.composing.specs.Composed.{line_word, place_word, number_word, open_word, is_word, missing_word, left_word, slip_word, slip_line, line_of}
use Rattle.composing.specs.Composed.{place_text, long_text, rule_in, outside_text, outside_line, fault_end, fault_text, complaint, Composed}
use Rattle.composing.specs.Composed.{made, wrong, by_writer, by_text, composed, composed_bytes, composed_printed, compose_page}

cond_short : (t : Bool) (a b : List ℕ) (n : ℕ) → length a ≤ n → length b ≤ n → length (cond t a b) ≤ n
cond_short true a b n h k = h
cond_short false a b n h k = k

slip_short : (slip : Slip) → length (slip_word slip) ≤ 28
slip_short Word = omega arith
slip_short Large = omega arith
slip_short Many = omega arith

pub slip_length : (slip : Slip) (line : ℕ) → length (slip_line slip line) ≡ length (field line_word line) + length (slip_word slip)
unfolding slip_line
slip_length slip line = length-append (field line_word line) (slip_word slip)

pub place_short : (line : Option ℕ) (d : ℕ) → length (place_text line d) ≤ 54
unfolding place_text
place_short (Some line) d = omega (arith, length-append (field line_word line) (field place_word d), field_short line_word line, field_short place_word d)
place_short None d = omega (arith, field_short number_word d)

outside_short : (xs : List ℕ) (d : ℕ) → length (outside_text xs d) ≤ 61
unfolding outside_text
outside_short xs d = range_short (rule_in xs d)

pub outside_length : (xs : List ℕ) (d : ℕ) → length (outside_line xs d) ≡ length (field is_word (get_or xs d 0)) + (length (outside_text xs d) + 1)
unfolding outside_line
outside_length xs d = rw (length-append, length-append)

end_short : (xs : List ℕ) (number d : ℕ) → length (fault_end xs number d) ≤ 87
unfolding fault_end
end_short xs number d =
    cond_short (eqb number (refusal Ends)) missing_word (outside_line xs d) 87 (omega arith)
    (omega (arith, outside_length xs d, field_short is_word (get_or xs d 0), outside_short xs d))

pub fault_short : (xs : List ℕ) (number d : ℕ) → length (fault_text xs number d) ≤ 130
unfolding fault_text
fault_short xs number d =
    cond_short (eqb number (refusal Left)) left_word (open_word ++ (name_at d (extent_in xs) ++ fault_end xs number d)) 130 (omega arith)
    (omega (
      arith,
      length-append open_word (name_at d (extent_in xs) ++ fault_end xs number d),
      length-append (name_at d (extent_in xs)) (fault_end xs number d),
      name_at_short d (extent_in xs),
      end_short xs number d,
    ))

pub complaint_short : (text xs : List ℕ) (w : Why) (d : ℕ) → length (complaint text xs w d) ≤ 184
unfolding complaint
complaint_short text xs w d =
    omega (arith, length-append (place_text (line_of text d) d) (fault_text xs (refusal w) d), place_short (line_of text d) d, fault_short xs (refusal w) d)

writer_short : (text xs : List ℕ) (f : Found) → list_of xs ≡ f → length (composed_bytes (by_writer text xs f)) ≤ compose_page
writer_short text xs (these ys) e =
    let y = list_whole xs ys e in
    omega (arith, ap (λ (l : List ℕ). length (encode_all l)) y, valid_bytes xs (listed_valid xs ys e))
writer_short text xs (fail w d) e = omega (arith, complaint_short text xs w d)

text_short : (text : List ℕ) (s : scribe.Said) → length (composed_bytes (by_text text s)) ≤ compose_page
text_short text (scribe.these xs) = writer_short text xs (list_of xs) refl
text_short text (scribe.wrong xs slip line) = omega (arith, slip_length slip line, field_short line_word line, slip_short slip)

pub composed_short : (text : List ℕ) → length (composed_bytes (composed text)) ≤ compose_page
unfolding composed
composed_short text = by (ltb 16384 (length text))
  where
    by : (t : Bool) → length (composed_bytes (cond t (wrong long_text) (by_text text (scribe.text_of 232 text)))) ≤ compose_page
    by true = omega arith
    by false = text_short text (scribe.text_of 232 text)

-- as many bytes are printed as there are
pub composed_bytes_lem : (c : Composed) → bytes_of (composed_printed c) ≡ length (composed_bytes c)
composed_bytes_lem (made bytes) = refl
composed_bytes_lem (wrong line) = refl

-- THE LAW: what `show` prints of a sheet is composed to that sheet, byte for byte
pub shown_composed : (s xs : List ℕ) → Bytes s → sheet_of s ≡ these xs → composed (shown xs) ≡ made s
unfolding composed
shown_composed s xs bytes e =
    let v = read_valid s xs e in
    let n = valid_length xs v in
    rw (le-ltb 16384 (length (shown xs)) (shown_short xs n), shown_read 232 xs (valid_words xs v) (omega arith), read_listed s xs e)
    (ap made (write_back s xs bytes e))

-- so a page has room for what `compose` gives to print
pub compose_fits : {text before after : List ℕ} {r : Result ℕ Refused} → Compose text before r after → bytes_of r ≤ compose_page
compose_fits {text} h = omega (arith, ap bytes_of h.gives, composed_bytes_lem (composed text), composed_short text)
