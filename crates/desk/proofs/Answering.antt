-- What the entry of the analysis gives and leaves, from what the analysis says: the record of a listing, whose numbers fit, or a refusal; and the detail
-- of what it gives fits.
-- Assumes nothing.
use Rattle.std.specs.Prelude.{ℕ, ◌-◌, ◌<◌, ◌≡◌, List, Result, Ok, Err, length, take, replicate}
use Rattle.std.proofs.Common.{sym, ap, ◌∙◌, subst, arith, length-append}
use lib.ListN.{length-replicate, get_or-append}
use lib.Seq.{take_at}
use Rattle.numbers.proofs.SevenLaws.{Bytes}
use Rattle.fields.specs.declared.Why.{Why}
use Rattle.fields.specs.declared.Refusal.{Refusal}
use Rattle.fields.specs.Refusal.{detail}
use Rattle.ground.specs.Buffer.{holds}
use Rattle.tandem.specs.declared.Flow.{Flow}
use Rattle.row.specs.RowFor.{padded}
use Rattle.row.specs.OfSheet.{row_of}
use Rattle.analysis.specs.declared.Analysed.{Analysed}
use Rattle.analysis.specs.Verdict.{Listing, listing_of, verdict_of, record_numbers}
use Rattle.analysis.specs.Held.{filled, analysed_of}
use Rattle.analysis.proofs.VerdictLaws.{Case, refusing, listing, case_of, Cause, of_bytes, of_row, Small, listing_small}
use Rattle.sheet.specs.Sheet.{encode_all, gives}
use Rattle.sheet.proofs.DetailLaws.{read_place, gives_detail}
use Rattle.desk.specs.Record.{record_in, Fits}
use Rattle.desk.specs.Answer.{answer_gives, answer_holds}
use Rattle.desk.proofs.DetailLaws.{record_short}

-- what is given and left of a sheet, by what the analysis says of it
abbrev pub gives_on : Result Analysed Refusal → ℕ → Result ℕ Refusal
gives_on (Ok a) room = gives (length (encode_all (record_in a))) room
gives_on (Err r) room = Err r

abbrev pub holds_on : Result Analysed Refusal → List ℕ → List ℕ
holds_on (Ok a) answer = holds (encode_all (record_in a)) answer
holds_on (Err r) answer = answer

-- a listing as it is held: its waits at the front, zeros behind
waits_held : (l : Listing) → Small l → take (length l.paths) (padded 32 0 l.waits) ≡ l.waits
waits_held l s = take_at l.waits _ (length l.paths) s.each

filled_fits : (flows : List Flow) (l : Listing) → Small l → Fits (filled flows l)
filled_fits flows l s =
    record {
      bound = omega (arith, s.bound);
      start = omega (arith, s.start);
      grid = omega (arith, s.grid);
      few = s.few;
      waits = λ k h. let e = get_or-append l.waits (replicate (32 - length l.waits) 0) 0 k (omega (arith, s.each)) in rw e (omega (arith, s.waits k));
      long = length-append l.waits (replicate (32 - length l.waits) 0) ∙ omega (arith, length-replicate {A = ℕ} (32 - length l.waits) 0, s.each, s.few);
    }

-- so the record's numbers are those of the listing
record_held : (flows : List Flow) (l : Listing) → Small l → record_in (filled flows l) ≡ record_numbers l
record_held flows l s = rw (waits_held l s)

-- what is given and left is the verdict's
pub answer_given : (bytes : List ℕ) (room : ℕ) → answer_gives (verdict_of bytes) room ≡ gives_on (analysed_of bytes) room
answer_given bytes room = by (case_of bytes)
  where
    by : Case bytes → answer_gives (verdict_of bytes) room ≡ gives_on (analysed_of bytes) room
    by (refusing w d c v h) = rw (v, h)
    by (listing xs s v p w h) =
        rw (w, h)
        (ap (λ (l : List ℕ). gives (length (encode_all l)) room) (sym (record_held (row_of xs).groups (listing_of xs) (listing_small xs v p))))

pub answer_held : (bytes answer : List ℕ) → answer_holds (verdict_of bytes) answer ≡ holds_on (analysed_of bytes) answer
answer_held bytes answer = by (case_of bytes)
  where
    by : Case bytes → answer_holds (verdict_of bytes) answer ≡ holds_on (analysed_of bytes) answer
    by (refusing w d c v h) = rw (v, h)
    by (listing xs s v p w h) =
        rw (w, h)
        (ap (λ (l : List ℕ). holds (encode_all l) answer) (sym (record_held (row_of xs).groups (listing_of xs) (listing_small xs v p))))

-- and a listing's numbers fit
pub listing_fits : (bytes : List ℕ) (a : Analysed) → analysed_of bytes ≡ Ok a → Fits a
listing_fits bytes a e = by (case_of bytes)
  where
    by : Case bytes → Fits a
    by (refusing w d c v h) = absurd (cc (e, h))
    by (listing xs s v p w h) =
        let same : filled (row_of xs).groups (listing_of xs) ≡ a = cc (e, h) in
        subst (λ (x : Analysed). Fits x) same (filled_fits (row_of xs).groups (listing_of xs) (listing_small xs v p))

-- what the entry gives has a detail that fits
detail_small : (bytes : List ℕ) (w : Why) (d : ℕ) → Bytes bytes → Cause bytes w d → d < 4294967296
detail_small bytes w d s (of_bytes e) = omega (arith, read_place bytes w d s e)
detail_small bytes w d s (of_row h) = omega arith

pub answer_detail_small : (bytes : List ℕ) (room : ℕ) → Bytes bytes → detail (answer_gives (verdict_of bytes) room) < 4294967296
answer_detail_small bytes room s = by (case_of bytes)
  where
    by : Case bytes → detail (answer_gives (verdict_of bytes) room) < 4294967296
    by (refusing w d c v h) = rw v (detail_small bytes w d s c)
    by (listing xs r v p w h) = rw (w, gives_detail) (omega (arith, record_short (listing_of xs) (listing_small xs v p)))
