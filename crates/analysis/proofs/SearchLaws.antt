-- The row of a sheet that passes the checks can be searched, and its search gives what document 01's tree and grid say.
-- Assumes nothing.
use Rattle.std.specs.Prelude.{ℕ, ◌-◌, ◌≡◌, None, List, length}
use Rattle.sheet.specs.Valid.{server_count, mode, grid, Valid}
use Rattle.tandem.specs.OfSheet.{tandem_of}
use Rattle.row.specs.Groups.{groups}
use Rattle.row.proofs.CheckLaws.{few_points}
use Rattle.row.specs.OfSheet.{grid_of, row_of, check_of}
use Rattle.row.proofs.OfSheetLaws.{grid_range, passed_row}
use Rattle.tree.specs.Bound as tree
use Rattle.search.specs.Point.{searched}
use Rattle.search.specs.Searchable.{Searchable}
use Rattle.search.proofs.SearchLaws as row

module _ (xs : List ℕ) where
  pub count_held : (row_of xs).count - 1 ≡ length (groups (tandem_of xs))
  unfolding row_of
  count_held = row.count_held (tandem_of xs) (mode xs) (grid_of (server_count xs) (grid xs))

  -- THE LAW: what the search of the row gives is what document 01's tree and grid say
  pub search_is_searched : searched (row_of xs) ≡ tree.searched (tandem_of xs) (mode xs) (grid_of (server_count xs) (grid xs))
  unfolding row_of
  search_is_searched = row.search_is_searched (tandem_of xs) (mode xs) (grid_of (server_count xs) (grid xs))

  pub searchable : Valid xs → check_of xs ≡ None → Searchable (row_of xs)
  unfolding row_of
  searchable v passed =
      let p = passed_row xs v passed in
      let g = grid_of (server_count xs) (grid xs) in
      let r = grid_range xs v in
      row.searchable (tandem_of xs) (mode xs) g p.accepts p.limited r.0 r.1 (few_points (tandem_of xs) (mode xs) g p.few_points)
