-- What the report gives and leaves, once the analysis is known and its text stands on the page.
-- Assumes nothing.
use Rattle.std.specs.Prelude.{ℕ, ◌≤◌, ◌≡◌, List, Result, length, take}
use Rattle.std.proofs.Common.{ap, ◌∙◌, zero-add, arith}
use Rattle.ground.proofs.BufferLaws.{stored_front}
use Rattle.fields.specs.declared.Refusal.{Refusal}
use Rattle.analysis.specs.declared.Analysed.{Analysed}
use Rattle.analysis.specs.Verdict.{verdict_of}
use Rattle.analysis.specs.Held.{analysed_of}
use Rattle.text.specs.declared.Page.{Page}
use Rattle.text.specs.declared.Refused.{Refused}
use Rattle.text.specs.Contract.{Written, HandOver}
use Rattle.text.proofs.PutLaws.{put_long}
use Rattle.listing.specs.Text.{report_of, printed_of, page_most}
use Rattle.listing.specs.Held.{text_held, printed_held}
use Rattle.listing.proofs.HeldLaws.{text_is, text_short}
use Rattle.listing.specs.Contract.{Report}

-- what the analysis says
module _ (bytes : List ℕ) (a : Result Analysed Refusal) (is : a ≡ analysed_of bytes) where
  said : text_held a ≡ report_of (verdict_of bytes)
  said = ap text_held is ∙ (text_is bytes).0

  told : printed_held a ≡ printed_of (verdict_of bytes)
  told = ap printed_held is ∙ (text_is bytes).1

  pub short : length (text_held a) ≤ page_most
  short = rw said (text_short bytes)

  -- and a page, once it is written from the front on
  module _ (before after : Page) (front : before.at ≡ 0) (clear : length before.bytes.now ≡ page_most) (w : Written (text_held a) before after) where
    pub within : after.at ≤ length after.bytes.now
    within = omega (arith, front, clear, short, w.put.next, put_long (text_held a) before.bytes.now before.at w.put)

    front_is : take after.at after.bytes.now ≡ report_of (verdict_of bytes)
    front_is =
        rw (w.put.next, w.put.stored, front, said, zero-add)
        (stored_front (report_of (verdict_of bytes)) before.bytes.now (omega (arith, clear, text_short bytes)))

    -- and handed over
    pub all_said : (r : Result ℕ Refused) {text after' : List ℕ} → r ≡ printed_held a → HandOver (take after.at after.bytes.now) text after'
        → Report bytes text r after'
    all_said r gives h = record { gives = gives ∙ told; leaves = h.leaves ∙ rw front_is }
