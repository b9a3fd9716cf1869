-- What is known of a text in each case of what its reader gives, and the words of a complaint case by case.
-- Assumes nothing.
use Prim.Native.Nat.{ℕ}
use mathlib.Core.Path.{◌≡◌, refl, sym, ap, ◌∙◌}
use mathlib.Core.List.{List, ◌++◌}
use Rattle.fields.specs.declared.Rule.{Rule}
use Rattle.fields.specs.declared.Why.{Why}
use Rattle.fields.specs.declared.Why.TheVariants.{Ends, Padded, Large, Left, Outside, OffPath, Crossing, Crowded, Points, TooLarge, Short}
use Rattle.fields.specs.Refusal.{refusal}
use Rattle.naming.specs.Names.{extent_in, name_at, range_of}
use Rattle.std.specs.Prelude.{Some, None, Result, Ok, Err}
use Rattle.scribe.specs.declared.Mistake.{Mistake}
use Rattle.scribe.specs.Text.{Said, these, wrong, gives_text, text_of}
use Rattle.composing.specs.Composed.{open_word, line_in, line_of, rule_in, outside_text, outside_line, fault_end, fault_text}

-- no line where all numbers have room
line_none : (s : Said) (n : ℕ) → gives_text s ≡ Ok n → None ≡ line_in s
line_none (these xs) n e = refl
line_none (wrong xs slip line) n e = absurd (cc)

line_some : (s : Said) (m : Mistake) → gives_text s ≡ Err m → Some m.line ≡ line_in s
line_some (these xs) m e = absurd (cc)
line_some (wrong xs slip line) m e = let k : record { slip = slip; line = line } ≡ m = cc in ap (λ (x : Mistake). Some x.line) (sym k)

module _ (text : List ℕ) (d room : ℕ) (long : room ≡ d) (r : Result ℕ Mistake) (gives : r ≡ gives_text (text_of room text)) where
  pub no_line : (n : ℕ) → r ≡ Ok n → None ≡ line_of text d
  unfolding line_of
  no_line n e = line_none (text_of room text) n (sym gives ∙ e) ∙ rw long

  pub a_line : (m : Mistake) → r ≡ Err m → Some m.line ≡ line_of text d
  unfolding line_of
  a_line m e = line_some (text_of room text) m (sym gives ∙ e) ∙ rw long

-- the range of a rule that is the one at a place
pub range_said : (xs : List ℕ) (d : ℕ) (rule : Rule) → rule ≡ rule_in xs d
    → range_of rule ≡ outside_text xs d
unfolding outside_text
range_said xs d rule e = ap range_of e

-- what is not left over is named, and what is not missing is outside its range
pub fault_named : (w : Why) → (w ≡ Left → ⊥) → (xs : List ℕ) (d : ℕ)
    → fault_text xs (refusal w) d ≡ open_word ++ (name_at d (extent_in xs) ++ fault_end xs (refusal w) d)
unfolding fault_text
fault_named Ends h xs d = refl
fault_named Padded h xs d = refl
fault_named Large h xs d = refl
fault_named Left h xs d = absurd (h refl)
fault_named Outside h xs d = refl
fault_named OffPath h xs d = refl
fault_named Crossing h xs d = refl
fault_named Crowded h xs d = refl
fault_named Points h xs d = refl
fault_named TooLarge h xs d = refl
fault_named Short h xs d = refl

pub end_outside : (w : Why) → (w ≡ Ends → ⊥) → (xs : List ℕ) (d : ℕ) → fault_end xs (refusal w) d ≡ outside_line xs d
unfolding fault_end
end_outside Ends h xs d = absurd (h refl)
end_outside Padded h xs d = refl
end_outside Large h xs d = refl
end_outside Left h xs d = refl
end_outside Outside h xs d = refl
end_outside OffPath h xs d = refl
end_outside Crossing h xs d = refl
end_outside Crowded h xs d = refl
end_outside Points h xs d = refl
end_outside TooLarge h xs d = refl
end_outside Short h xs d = refl
