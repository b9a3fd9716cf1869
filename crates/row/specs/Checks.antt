-- Refusals 6 and 8 (document 01, "Refusals by number") as tests of a row. CheckLaws.antt proves each equivalent to its sentence.
-- Assumes nothing.
use Rattle.std.specs.Prelude.{ℕ, ◌^◌, Bool, ◌&&◌, leb, ltb, eqb, length}
use Rattle.tandem.specs.Sums.{any}
use Rattle.tandem.specs.Tandem.{Tandem, flow}
use Rattle.row.specs.Groups.{groups}

-- the path of flow h begins inside that of flow f, behind its first server, and ends behind it: i < h ≤ j < k
unfoldable pub overlaps : Tandem → ℕ → ℕ → Bool
overlaps row f h = ltb (flow row f).first (flow row h).first && (leb (flow row h).first (flow row f).last && ltb (flow row f).last (flow row h).last)

-- 6: "the row is not nested"; "A row is nested if no two paths (i, j), (h, k) have i < h ≤ j < k."
unfoldable pub not_nested : Tandem → Bool
not_nested row = any (length row.flows) (λ f. any (length row.flows) (overlaps row f))

-- 8: "mode 0 and g to the power of the number of groups is above 65,536"
unfoldable pub too_many : Tandem → ℕ → ℕ → Bool
too_many row mode g = eqb mode 0 && ltb 65536 (g ^ length (groups row))
