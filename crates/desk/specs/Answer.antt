-- What the entry of the analysis gives and leaves (document 01, "The sheet").
-- Assumes nothing.
use Rattle.std.specs.Prelude.{ℕ, List, Result, Err, length}
use Rattle.fields.specs.declared.Refusal.{Refusal}
use Rattle.fields.specs.Refusal as fields
use Rattle.ground.specs.Buffer.{holds}
use Rattle.sheet.specs.Sheet.{gives}
use Rattle.analysis.specs.Verdict.{Verdict, refused, bounded, record_of}

-- the refusal; or the answer record's length, where it has room: 10 comes last
abbrev pub answer_gives : Verdict → ℕ → Result ℕ Refusal
answer_gives (refused w d) room = Err (fields.refused w d)
answer_gives (bounded l) room = gives (length (record_of l)) room

-- "On refusal the buffer stays as it was"; "bytes past the length stay"
abbrev pub answer_holds : Verdict → List ℕ → List ℕ
answer_holds (refused w d) answer = answer
answer_holds (bounded l) answer = holds (record_of l) answer
