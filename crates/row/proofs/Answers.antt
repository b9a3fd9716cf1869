-- The answer of each way through the checks, in their order: 6, then 7, then 8, else the row.
-- Assumes nothing.
use Rattle.std.specs.Prelude.{◌≡◌, refl, Bool, true, false, ◌&&◌, Ok, Err, List, [], ◌++◌, take, ℕ, ◌+◌, ◌-◌, ◌^◌, ◌≤◌, ◌<◌, ltb, eqb, length}
use Rattle.std.proofs.Common.{sym, ap, ◌∙◌, arith, lt-ltb}
use Rattle.std.proofs.lemmas.List.{length-map}
use Rattle.sheet.specs.Valid.{server_count}
use Rattle.tandem.specs.declared.Server.{Server}
use Rattle.tandem.specs.declared.Flow.{Flow}
use Rattle.tandem.specs.Tandem.{Tandem, size}
use Rattle.tandem.specs.Crowded.{lowest_crowded}
use Rattle.tandem.specs.OfSheet.{tandem_of}
use Rattle.tandem.specs.Lent.{row_in, Handed}
use Rattle.tandem.proofs.OfSheetLaws.{row_size}
use Rattle.tandem.proofs.CrowdedLaws.{sound_uncrowded}
use Rattle.row.specs.declared.Row.{Row}
use Rattle.row.specs.declared.Unfit.TheVariants.{Crossing, Crowded, Points}
use Rattle.row.specs.Groups.{groups, grouped, reads}
use Rattle.row.specs.Checks.{overlaps, not_nested, too_many}
use Rattle.row.specs.RowFor.{row_for, formed_for}
use Rattle.row.proofs.Filling.{take_front}
use Rattle.row.proofs.CheckLaws.{accepted_row}
use Rattle.row.proofs.CountLaws.{few_groups}

-- check 6 reads no server
pub nested_alone : (servers : List Server) (flows : List Flow) → not_nested (row_in servers flows) ≡ not_nested (row_in [] flows)
unfolding not_nested overlaps
nested_alone servers flows = refl

-- lists into which a sheet's servers and flows were listed hold its row
pub fronts_held : (xs : List ℕ) (servers more : List Server) (flows rest : List Flow) (n m : ℕ) → servers ≡ (tandem_of xs).servers ++ more
    → flows ≡ (tandem_of xs).flows ++ rest → n ≡ server_count xs → m ≡ length (tandem_of xs).flows
    → row_in (take n servers) (take m flows) ≡ tandem_of xs
fronts_held xs servers more flows rest n m s f e h =
    ap (λ (l : List Server). row_in l (take m flows)) (take_front servers (tandem_of xs).servers more n s (e ∙ sym (row_size xs)))
    ∙ ap (row_in (tandem_of xs).servers) (take_front flows (tandem_of xs).flows rest m f h)

module _ (row : Tandem) (mode g : ℕ) where
  pub formed_crossing : not_nested row ≡ true → Err Crossing ≡ formed_for row mode g
  formed_crossing n = rw n

  pub formed_crowded : not_nested row ≡ false → (j : ℕ) → lowest_crowded row 1 (size row) ≡ j → 0 < j → Err (Crowded j) ≡ formed_for row mode g
  formed_crowded n j e h = rw (n, e, lt-ltb 0 j h)

  count_is : (row_for row mode g).count ≡ length (groups row) + 1
  unfolding reads
  count_is = omega (arith, length-map (groups row) (grouped row))

  module _ (ok : Handed row) (n : not_nested row ≡ false) where
    -- the array has room
    pub few_listed : length (groups row) ≤ 31
    few_listed = few_groups row (accepted_row row ok.sound n) ok.limits

    module _ (held : Row) (is : held ≡ row_for row mode g) where
      pub count_few : (1 ≤ held.count) × (held.count ≤ 32)
      count_few = (omega (arith, count_is, ap (λ (r : Row). r.count) is), omega (arith, count_is, few_listed, ap (λ (r : Row). r.count) is))

      groups_are : held.count - 1 ≡ length (groups row)
      groups_are = omega (arith, count_is, ap (λ (r : Row). r.count) is)

      module _ (t : Bool) (points : t ≡ (eqb mode 0 && ltb 65536 (g ^ (held.count - 1)))) where
        too_many_is : too_many row mode g ≡ t
        unfolding too_many
        too_many_is = sym (points ∙ ap (λ (k : ℕ). eqb mode 0 && ltb 65536 (g ^ k)) groups_are)

        pub formed_points : t ≡ true → Err (Points (held.count - 1)) ≡ formed_for row mode g
        formed_points h = rw (n, sound_uncrowded row ok.sound, too_many_is, h, groups_are)

        pub formed_passed : t ≡ false → Ok held ≡ formed_for row mode g
        formed_passed h = rw (n, sound_uncrowded row ok.sound, too_many_is, h, is)
