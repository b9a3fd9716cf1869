-- THE LAW of what `compose` tells of a number that the writer refuses with 4 or 5: its line has the name of the field, the number and a range, and the
-- rule whose range is told does not admit the number.
-- Assumes nothing.
use Rattle.std.specs.Prelude.{ℕ, ◌<◌, ◌≡◌, ◌⊎◌, false, List, ◌++◌, length, get_or}
use Rattle.std.proofs.Common.{inl, inr}
use Rattle.fields.specs.declared.Why.{Why}
use Rattle.fields.specs.declared.Why.TheVariants.{Outside, OffPath}
use Rattle.fields.specs.Rule.{allowed}
use Rattle.fields.proofs.PlaceLaws.{place_of, field_here}
use Rattle.sheet.specs.Sheet.{fail, list_of}
use Rattle.sheet.specs.Valid.{edition, server_count, flow_count}
use Rattle.sheet.proofs.OutsideLaws.{list_barred}
use Rattle.text.specs.Lines.{line_end, field}
use Rattle.naming.specs.Names.{extent_in, seen, name_at, range_of}
use Rattle.composing.specs.Composed.{line_of, place_text, open_word, is_word, rule_in, outside_text, outside_line, fault_end, fault_text, complaint}

pub record Told (text xs : List ℕ) (w : Why) (d : ℕ) : Type 0 where
  -- the place, the name, the number and the range
  pub line : complaint text xs w d
      ≡ place_text (line_of text d) d ++ (open_word ++ (name_at d (extent_in xs) ++ (field is_word (get_or xs d 0) ++ (range_of (rule_in xs d) ++ line_end))))
  -- the number is there
  pub inside : d < length xs
  -- and the rule with that range does not admit it
  pub barred : allowed (rule_in xs d) (get_or xs d 0) ≡ false

line_by : (text xs : List ℕ) (w : Why) (d : ℕ) → (w ≡ Outside) ⊎ (w ≡ OffPath) → complaint text xs w d
    ≡ place_text (line_of text d) d ++ (open_word ++ (name_at d (extent_in xs) ++ (field is_word (get_or xs d 0) ++ (range_of (rule_in xs d) ++ line_end))))
unfolding complaint fault_text fault_end outside_line outside_text
line_by text xs w d (inl o) = rw o
line_by text xs w d (inr o) = rw o

pub told : (text xs : List ℕ) (w : Why) (d : ℕ) → (w ≡ Outside) ⊎ (w ≡ OffPath) → list_of xs ≡ fail w d → Told text xs w d
told text xs w d o h =
    let b = list_barred xs w d o h in
    let p = place_of (edition xs) (server_count xs) (flow_count xs) d in
    record {
      line = line_by text xs w d o;
      inside = b.inside;
      barred = rw (field_here (seen (extent_in xs)) d p) (b.barred p);
    }
