-- The record's text is the verdict's: both go by the same two cases of a sheet's bytes; and a report has room on a page.
-- Assumes nothing.
use Rattle.std.specs.Prelude.{ℕ, zero, suc, ◌-◌, ◌≤◌, ◌≡◌, refl, List, [], ◌∷◌, ◌++◌, Result, Ok, Err, map, length, replicate}
use Rattle.std.proofs.Common.{ap, arith}
use Rattle.fields.specs.declared.Refusal.{Refusal}
use Rattle.fields.specs.Refusal.{refusal}
use Rattle.tandem.specs.declared.Flow.{Flow}
use Rattle.tandem.specs.Tandem.{Tandem, Path}
use Rattle.tandem.specs.OfSheet.{tandem_of}
use Rattle.row.specs.Groups.{groups, grouped, reads}
use Rattle.row.specs.OfSheet.{row_of}
use Rattle.text.specs.declared.Refused.{Refused}
use Rattle.text.specs.Lines.{refusal_line, bytes_of}
use Rattle.text.proofs.LinesLaws.{refusal_short}
use Rattle.analysis.specs.declared.Analysed.{Analysed}
use Rattle.analysis.specs.Verdict.{listing_of, Verdict, refused, bounded, verdict_of}
use Rattle.analysis.specs.Held.{filled, analysed_of}
use Rattle.analysis.proofs.VerdictLaws.{Case, refusing, listing, case_of, listing_small}
use Rattle.listing.specs.Text.{group_line, group_lines, report_of, printed_of, page_most}
use Rattle.listing.specs.Contract.{Report}
use Rattle.listing.proofs.TextLaws.{groups_short, figures_short}
use Rattle.listing.specs.Held.{lines_of, groups_held, listing_held, text_held, printed_held}

-- the record's text and what is printed of it, by what the analysis says
pub held_listing : (r : Result Analysed Refusal) (a : Analysed) → r ≡ Ok a → (text_held r ≡ listing_held a) × (printed_held r ≡ Ok (length (text_held r)))
held_listing r a e = (rw e, rw e)

pub held_refusal : (r : Result Analysed Refusal) (x : Refusal) → r ≡ Err x
    → (text_held r ≡ refusal_line (refusal x.why) x.at) × (printed_held r ≡ Err (record { length = length (text_held r) }))
held_refusal r x e = (rw e, rw e)

-- the groups as flows, and the waits filled up with m zeros, say the groups' lines
lines_are : (row : Tandem) (gs : List Path) (none : List Flow) (waits : List ℕ) (m : ℕ)
    → lines_of (length gs) (map (grouped row) gs ++ none) (waits ++ replicate m 0) ≡ group_lines gs waits
unfolding lines_of group_lines grouped
lines_are row [] none waits m = refl
lines_are row (g ∷ gs) none [] zero = ap (λ (l : List ℕ). group_line g.first g.last 0 ++ l) (lines_are row gs none [] zero)
lines_are row (g ∷ gs) none [] (suc m) = ap (λ (l : List ℕ). group_line g.first g.last 0 ++ l) (lines_are row gs none [] m)
lines_are row (g ∷ gs) none (w ∷ waits) m = ap (λ (l : List ℕ). group_line g.first g.last w ++ l) (lines_are row gs none waits m)

groups_are : (xs : List ℕ) → groups_held (filled (row_of xs).groups (listing_of xs)) ≡ group_lines (listing_of xs).paths (listing_of xs).waits
unfolding row_of listing_of reads
groups_are xs = lines_are (tandem_of xs) (groups (tandem_of xs)) _ (listing_of xs).waits (32 - length (listing_of xs).waits)

-- THE LAW: what the analysis holds is said, and told from a refusal, as its verdict is
pub text_is : (bytes : List ℕ) → (text_held (analysed_of bytes) ≡ report_of (verdict_of bytes)) × (printed_held (analysed_of bytes) ≡ printed_of (verdict_of bytes))
unfolding report_of printed_of
text_is bytes = by (case_of bytes)
  where
    by : Case bytes → (text_held (analysed_of bytes) ≡ report_of (verdict_of bytes)) × (printed_held (analysed_of bytes) ≡ printed_of (verdict_of bytes))
    by (refusing w d c v h) = (rw (v, h), rw (v, h))
    by (listing xs s ok p v h) = (rw (v, h, groups_are xs), rw (v, h, groups_are xs))

-- at most 31 groups
pub held_few : (bytes : List ℕ) (a : Analysed) → analysed_of bytes ≡ Ok a → a.count ≤ 31
held_few bytes a e = by (case_of bytes)
  where
    by : Case bytes → a.count ≤ 31
    by (refusing w d c v h) = absurd (cc (e, h))
    by (listing xs s ok p v h) = let q : a ≡ filled (row_of xs).groups (listing_of xs) = cc (e, h) in rw q (listing_small xs ok p).few

-- a report has room on a page
pub text_short : (bytes : List ℕ) → length (report_of (verdict_of bytes)) ≤ page_most
unfolding report_of
text_short bytes = by (case_of bytes)
  where
    by : Case bytes → length (report_of (verdict_of bytes)) ≤ page_most
    by (refusing w d c v h) = rw v (omega (arith, refusal_short (refusal w) d))
    by (listing xs s ok p v h) =
        let l = listing_of xs in
        rw v (omega (
          arith,
          (listing_small xs ok p).few,
          figures_short l.bound l.start l.grid (group_lines l.paths l.waits),
          groups_short l.paths l.waits,
        ))

-- as many bytes are printed as the report has
pub printed_bytes : (v : Verdict) → bytes_of (printed_of v) ≡ length (report_of v)
unfolding printed_of
printed_bytes (refused w d) = refl
printed_bytes (bounded l) = refl

-- so a page has room for what `report` gives to print
pub report_fits : {bytes before after : List ℕ} {r : Result ℕ Refused} → Report bytes before r after → bytes_of r ≤ page_most
report_fits {bytes} h = omega (arith, ap bytes_of h.gives, printed_bytes (verdict_of bytes), text_short bytes)
