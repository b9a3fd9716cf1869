-- Bytes that are put behind one another are put as a whole at the first place; the same of what is written on a page.
-- Assumes nothing.
use Rattle.std.specs.Prelude.{ℕ, ◌+◌, ◌-◌, ◌≤◌, ◌≡◌, refl, List, [], ◌++◌, length, take, drop}
use Rattle.std.proofs.lemmas.List.Edits.{sets, sets-eq}
use borrow.Rule.Slice.PartMut.{put_mid}
use Rattle.std.proofs.Common.{ap, ◌∙◌, append_assoc, arith, length-append, drop-drop}
use Rattle.std.proofs.Math.Seq.{length-sets}
use Rattle.ground.proofs.BufferLaws.{sets_append, stored_front}
use Rattle.text.specs.declared.Page.{Page}
use Rattle.text.specs.Decimal.{decimal}
use Rattle.text.specs.Contract.{DecimalWidth, Put, Room, Written, HandOver}

pub put_then : (a b before : List ℕ) (at : ℕ) {mid after : List ℕ} {p r : ℕ} → Put a before at p mid → Put b mid p r after → Put (a ++ b) before at r after
put_then a b before at {mid} {after} {p} {r} x y =
    record { next = omega (arith, x.next, y.next, length-append a b); stored = rw (sets_append before at a b, ← x.stored, ← x.next) y.stored }

-- bytes in the place of as many in the middle of a list
pub middle : (l word part : List ℕ) (at n : ℕ) → part ≡ word → n ≡ length word → at + length word ≤ length l → put_mid at n l part ≡ sets l at word
middle l word part at n p e h = rw (p, e, sets-eq word l at h, append_assoc (take at l) word (drop (at + length word) l), drop-drop (length word) at l)

-- no bytes
pub put_none : (before : List ℕ) (at : ℕ) → Put [] before at at before
put_none before at = record { next = omega arith; stored = refl }

-- a buffer stays as long as it was
pub put_long : (a before : List ℕ) (at : ℕ) {mid : List ℕ} {p : ℕ} → Put a before at p mid → length mid ≡ length before
put_long a before at {mid} {p} x = ap length x.stored ∙ length-sets before at a

-- where there was room for these bytes and for more, there is room for the others behind them
pub room_behind : (a before : List ℕ) (at others : ℕ) {mid : List ℕ} {p : ℕ} → Put a before at p mid → at + (length a + others) ≤ length before
    → p + others ≤ length mid
room_behind a before at others {mid} {p} x h = omega (arith, x.next, put_long a before at x)

-- a page that has room for two texts has room for the first of them
pub room_first : (a b : List ℕ) (page : Page) → Room (a ++ b) page → Room a page
room_first a b page h = omega (arith, h, length-append a b)

-- once the first is written, there is room for the second
pub room_then : (a b : List ℕ) {page mid : Page} → Written a page mid → Room (a ++ b) page → Room b mid
room_then a b {page} x h = omega (arith, h, length-append a b, x.put.next, put_long a page.bytes.now page.at x.put)

-- two texts that are written one behind the other
pub written_then : {a b : List ℕ} {before mid after : Page} → Written a before mid → Written b mid after → Written (a ++ b) before after
written_then {a} {b} {before} x y = record { put = put_then a b before.bytes.now before.at x.put y.put; same = y.same ∙ x.same; stays = y.stays ∙ x.stays }

-- no text
pub written_none : (page : Page) → Written [] page page
written_none page = record { put = put_none page.bytes.now page.at; same = refl; stays = refl }

-- what a buffer holds that was a page's: a list that is what the page held at last
pub put_into : {bytes : List ℕ} {before after : Page} {held : List ℕ} → Written bytes before after → held ≡ after.bytes.now
    → Put bytes before.bytes.now before.at after.at held
put_into x e = record { next = x.put.next; stored = e ∙ x.put.stored }

-- a number's digits take as many places of a page as its width says
pub decimal_takes : {x : ℕ} {before after : Page} → Written (decimal x) before after → DecimalWidth x (after.at - before.at)
decimal_takes w = record { is = omega (arith, w.put.next) }

-- a page goes on within its buffer
pub within : {bytes : List ℕ} {before after : Page} → Written bytes before after → Room bytes before → after.at ≤ length after.bytes.now
within {bytes} {before} x h = omega (arith, h, x.put.next, put_long bytes before.bytes.now before.at x.put)

-- what was written on an empty page is what is handed over
pub handed : {bytes out out' : List ℕ} {before after : Page} → Written bytes before after → before.at ≡ 0 → Room bytes before
    → HandOver (take after.at after.bytes.now) out out' → HandOver bytes out out'
handed {bytes} {out} {out'} {before} {after} x z h o =
    let n : after.at ≡ length bytes = omega (arith, x.put.next, z) in
    let l : length bytes ≤ length before.bytes.now = omega (arith, h) in
    let front : take after.at after.bytes.now ≡ bytes = rw (n, x.put.stored, z) (stored_front bytes before.bytes.now l) in
    record { leaves = o.leaves ∙ rw front }
