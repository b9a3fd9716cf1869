-- One run on three servers that does what the premises leave open, and keeps them: none of them asks more than it says.
--   Two cross flows have one path, the middle server alone, and each sends up to its own bucket. Another crosses servers 1 and 2 and not server 3; at
--   server 1 its byte joins between two watched ones.
--   A flow sends all that its bucket allows, is silent, and sends again as soon and as much as its bucket allows.
--   Bytes leave in the slot in which they joined, before the server's latency is over.
--   Server 3 sends in each slot what joined in the slot before, and no more, though its line is never empty: nobody asks for the curve over all
--   the time in which bytes stood in it.
--   Of the bytes that leave a server in one slot some go on and some do not; fresh bytes join in a slot in which none comes from the server before.
--   Bytes stay in the line of every server at the record's end.
--   Slot 0, the slots behind the record and the servers that the row does not have hold bytes that would break every premise: none is asked there.
-- Assumes nothing.
use Rattle.std.specs.Prelude.{ℕ, zero, suc, ◌≡◌, refl, None, List, [], ◌∷◌}
use Rattle.numbers.specs.Seven.{number_at}
use Rattle.fields.specs.Rule.{rule_at, seen_after, field_at}
use Rattle.fields.specs.Step.{step_on}
use Rattle.sheet.specs.Sheet.{sheet_of, these}
use Rattle.curves.specs.Slots.{bucket, serve}
use Rattle.tandem.specs.Sums.{total, any}
use Rattle.tandem.specs.Tandem.{crosses, on, rates}
use Rattle.row.specs.Groups.{used, from, from_on, groups}
use Rattle.tandem.specs.Crowded.{crowded, lowest_crowded}
use Rattle.row.specs.Checks.{overlaps, not_nested, too_many}
use Rattle.tandem.specs.OfSheet.{listed, tandem_of}
use Rattle.row.specs.OfSheet.{grid_of, check_of}
use Rattle.runs.specs.Lines.{keep, by}
use Rattle.runs.specs.Run.{Run, Keeps}
use Rattle.runs.specs.RunTests.{each, each_of, begins, same, on_path, in_order, relayed, keeps_buckets, guarantees, keeps_all}
use Rattle.runs.proofs.RunTestLaws.{keeps_all_lem}

-- servers 3, 1 and 4, 2 and 3, 1; cross 1, 1 on (2,2), 1, 1 on (2,2), 2, 1 on (3,3) and 1, 1 on (1,2); watched 1, 1; mode 0, g 3
abbrev pub sheet : List ℕ
sheet = 1 ∷ 3 ∷ 3 ∷ 1 ∷ 4 ∷ 2 ∷ 3 ∷ 1 ∷ 4 ∷ 2 ∷ 2 ∷ 1 ∷ 1 ∷ 2 ∷ 2 ∷ 1 ∷ 1 ∷ 3 ∷ 3 ∷ 2 ∷ 1 ∷ 1 ∷ 2 ∷ 1 ∷ 1 ∷ 1 ∷ 1 ∷ 0 ∷ 3 ∷ []

-- the lists of slots 1 to 4, and one for slot 0 and the slots behind the record
abbrev pub slots : List ℕ → List ℕ → List ℕ → List ℕ → List ℕ → ℕ → List ℕ
slots a b c d out zero = out
slots a b c d out (suc zero) = a
slots a b c d out (suc (suc zero)) = b
slots a b c d out (suc (suc (suc zero))) = c
slots a b c d out (suc (suc (suc (suc zero)))) = d
slots a b c d out (suc (suc (suc (suc (suc t))))) = out

-- what joins and what leaves where the record does not reach. The row has no flow 5, the watched flow has not as many bytes in one slot, and what
-- leaves is not what joined. Server 1 sends nothing there, which is less than it guarantees.
abbrev pub joins_outside : List ℕ
joins_outside = 5 ∷ 0 ∷ 0 ∷ 0 ∷ 0 ∷ []

abbrev pub leaves_outside : List ℕ
leaves_outside = 0 ∷ []

-- a byte is written as the number of its flow
abbrev pub joins : ℕ → ℕ → List ℕ
joins zero t = joins_outside
joins (suc zero) t = slots (0 ∷ 4 ∷ 0 ∷ []) [] [] (0 ∷ 0 ∷ []) joins_outside t
joins (suc (suc zero)) t = slots (1 ∷ 0 ∷ 2 ∷ 4 ∷ 0 ∷ 1 ∷ 2 ∷ []) [] [] (0 ∷ 1 ∷ 1 ∷ []) joins_outside t
joins (suc (suc (suc zero))) t = slots (3 ∷ 0 ∷ 3 ∷ 3 ∷ []) (0 ∷ []) (3 ∷ 3 ∷ []) (0 ∷ 3 ∷ []) joins_outside t
joins (suc (suc (suc (suc j)))) t = joins_outside

abbrev pub leaves : ℕ → ℕ → List ℕ
leaves zero t = leaves_outside
leaves (suc zero) t = slots (0 ∷ 4 ∷ 0 ∷ []) [] [] (0 ∷ []) [] t
leaves (suc (suc zero)) t = slots (1 ∷ 0 ∷ []) (2 ∷ 4 ∷ 0 ∷ []) (1 ∷ 2 ∷ []) (0 ∷ 1 ∷ []) leaves_outside t
leaves (suc (suc (suc zero))) t = slots [] (3 ∷ 0 ∷ 3 ∷ 3 ∷ []) (0 ∷ []) (3 ∷ 3 ∷ []) leaves_outside t
leaves (suc (suc (suc (suc j)))) t = leaves_outside

abbrev pub run : Run ℕ
run = record { of = λ b. b; join = joins; leave = leaves }

pub sheet_read : sheet_of sheet ≡ these sheet
unfolding sheet_of step_on rule_at seen_after field_at number_at
sheet_read = refl

pub sheet_passed : check_of sheet ≡ None
unfolding check_of tandem_of listed grid_of not_nested overlaps lowest_crowded crowded too_many rates total crosses groups from_on from used any on
sheet_passed = refl

-- the run keeps every premise up to the end of slot 4
pub run_keeps : Keeps (tandem_of sheet) run 4
unfolding tandem_of listed keeps_all on_path in_order relayed keeps_buckets guarantees each each_of begins same any crosses by keep bucket serve
run_keeps = keeps_all_lem (tandem_of sheet) run 4 refl
