-- What each public function promises; what `put_name_at` and `put_range` do is `Written` of text.
-- Assumes nothing.
use Rattle.std.specs.Prelude.{ℕ, ◌≡◌, List, get_or}
use Rattle.fields.specs.Rule.{field_at}
use Rattle.naming.specs.declared.Extent.{Extent}
use Rattle.naming.specs.Names.{extent_in, seen}

pub record NumberAt (xs : List ℕ) (i r : ℕ) : Type 0 where
  -- the number at place i, and 0 behind the end
  pub is : r ≡ get_or xs i 0

pub record ExtentOf (xs : List ℕ) (r : Extent) : Type 0 where
  -- the edition, N and the number of flows that the list says
  pub is : r ≡ extent_in xs

pub record FieldAt (i : ℕ) (e : Extent) (r : ℕ) : Type 0 where
  -- the number of the field at place i in document 01's table
  pub is : r ≡ field_at i (seen e)
