-- `sheet::list_width` meets its contract: the widths of the numbers add up to the length of their bytes.
-- Assumes nothing.
use Rattle.std.specs.Prelude.{ℕ, ◌≡◌, refl, List, [], ◌∷◌, length}
use Rattle.std.proofs.Common.{◌∙◌, arith, rules, tests}
use Rattle.std.specs.List.{flat_map, sum_by}
use Rattle.std.proofs.lemmas.Iterator.{YieldsList-from_slice, YieldsList-from_map}
use Rattle.std.proofs.lemmas.Iterator.Consumers.{sum_by_from_yields_List, fits_by_from_yields_list}
use Rattle.std.proofs.lemmas.List.Concat.{length-flat_map}
use Rattle.numbers.specs.Seven.{encode}
use Rattle.sheet.specs.Sheet.{encode_all}
use Rattle.sheet.proofs.DetailLaws.{encode_all_few}
use Rattle.sheet.proofs.list_width.Goals as goal

pieces : (xs : List ℕ) → flat_map encode xs ≡ encode_all xs
pieces [] = refl
pieces (x ∷ xs) = rw (pieces xs)

widths : (xs : List ℕ) → sum_by (λ x. length (encode x)) xs ≡ length (encode_all xs)
widths xs = rw (← length-flat_map encode xs, pieces xs)

pub returns : goal.returns
returns c = record {
  is = sum_by_from_yields_List (λ x. length (encode x)) c.args.xs.now c.map.result c.sum.result c.sum.ensures.ran
      (YieldsList-from_map _ (λ x. length (encode x)) (YieldsList-from_slice c.args.xs.now cc) c.map.ensures.closure (λ x r q k. search (rules, tests))) ∙ widths c.args.xs.now;
}

pub sum-requires-clause-fits : goal.sum-requires-clause-fits
sum-requires-clause-fits c = fits_by_from_yields_list (λ x. length (encode x)) c.args.xs.now c.map.result _
    (YieldsList-from_map _ (λ x. length (encode x)) (YieldsList-from_slice c.args.xs.now cc) c.map.ensures.closure (λ x r q k. search (rules, tests))) (omega (arith, widths c.args.xs.now, encode_all_few c.args.xs.now, c.requires))
