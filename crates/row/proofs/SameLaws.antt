-- A row reads cross flows only through the groups' paths and sums: two valid sheets with the same servers, watched flow, mode and g, and with the
-- same sums of each path, give the same row and the same outcome of the checks, whatever their single flows are.
-- Assumes nothing.
use Rattle.std.specs.Prelude.{◌≡◌, List, ℕ}
use Rattle.std.proofs.Common.{sym, ◌∙◌, arith}
use Rattle.std.proofs.Math.Path.{ap}
use Rattle.std.proofs.Math.ListN.{length}
use Rattle.sheet.specs.Valid.{Valid, server_count, mode, grid}
use Rattle.tandem.specs.Tandem.{size}
use Rattle.tandem.specs.OfSheet.{tandem_of}
use Rattle.row.specs.OfSheet.{grid_of, check_of, row_of, formed_of}
use Rattle.row.specs.Alike.{Alike, Inside}
use Rattle.tandem.proofs.OfSheetLaws.{row_size, ranged}
use Rattle.row.proofs.AlikeLaws.{groups_same, reads_same, nested_same, lowest_same, many_same}

inside : (xs : List ℕ) → Valid xs → Inside (tandem_of xs)
inside xs v f h = let r = ranged xs v f h in (omega (arith, row_size xs, r.path, r.ends), omega (arith, row_size xs, r.ends))

module _ (xs ys : List ℕ) (v : Valid xs) (w : Valid ys) (s : (tandem_of xs).servers ≡ (tandem_of ys).servers) (m : mode xs ≡ mode ys)
    (g : grid xs ≡ grid ys) (a : Alike (tandem_of xs) (tandem_of ys)) where
  same_size : server_count xs ≡ server_count ys
  same_size = sym (row_size xs) ∙ ap length s ∙ row_size ys

  check_alike : check_of xs ≡ check_of ys
  unfolding check_of
  check_alike =
      let n : size (tandem_of xs) ≡ size (tandem_of ys) = ap length s in
      rw (
        nested_same (tandem_of xs) (tandem_of ys) a,
        n,
        lowest_same (tandem_of xs) (tandem_of ys) s a (inside xs v) (inside ys w) (size (tandem_of ys)) 1,
        m,
        g,
        same_size,
        many_same (tandem_of xs) (tandem_of ys) s a (mode ys) (grid_of (server_count ys) (grid ys)),
        groups_same (tandem_of xs) (tandem_of ys) s a,
      )

  given_alike : row_of xs ≡ row_of ys
  unfolding row_of
  given_alike = rw (m, g, same_size, reads_same (tandem_of xs) (tandem_of ys) s a, s)

  pub row_alike : formed_of xs ≡ formed_of ys
  unfolding formed_of
  row_alike = rw (check_alike, given_alike)
