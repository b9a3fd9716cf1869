-- The round trips: reading what was written gives back its numbers, and writing what was read gives back its bytes.
-- Assumes nothing.
use Rattle.std.specs.Prelude.{ℕ, zero, suc, ◌+◌, ◌≤◌, ◌<◌, ◌≡◌, refl, List, ◌++◌, Bool, true, false, Ok, Err, cond, length, get_or, take, drop, ltb}
use Rattle.std.proofs.Common.{sym, ap, ◌∙◌, arith, take-append-drop, drop_of_length-le, drop-cons, take_all, drop-drop, le-ltb, ltb-false}
use Rattle.std.proofs.Math.Seq.{take-append_seam}
use Rattle.numbers.specs.Seven.{encode, number_at}
use Rattle.numbers.proofs.SevenLaws.{read_written, Bytes, WasRead, written_read}
use Rattle.fields.specs.declared.User.TheVariants.{Reader}
use Rattle.fields.specs.Refusal.{refused}
use Rattle.fields.specs.declared.Why.TheVariants.{Short}
use Rattle.fields.specs.Rule.{most, Seen, nothing, seen_after}
use Rattle.ground.specs.Buffer.{holds}
use Rattle.sheet.specs.Sheet.{Found, fail, these, walk, sheet_of, list_of, encode_all, gives, read_gives, read_holds, write_gives, write_holds}
use Rattle.sheet.proofs.WalkLaws.{Walked, gave, ended, walked, walk_none, list_whole}
use Rattle.sheet.proofs.EncodeLaws.{encode_append, length_next}
use Rattle.sheet.specs.Valid.{Valid}
use Rattle.sheet.proofs.ValidLaws.{Source, read_valid, listed_valid, valid_listed, valid_walked}

-- every element is below 2^32
abbrev pub Words : List ℕ → Type 0
Words xs = (i : ℕ) → get_or xs i 0 < 4294967296

-- Written, then read: number i of the list stands behind the bytes of the first i numbers.

module _ (xs : List ℕ) (words : Words xs) where
  abbrev placed : ℕ → ℕ
  placed i = length (encode_all (take i xs))

  parted : (i : ℕ) → i < length xs → encode_all xs ≡ encode_all (take i xs) ++ (encode (get_or xs i 0) ++ encode_all (drop (suc i) xs))
  parted i h = ap encode_all (sym (take-append-drop i xs)) ∙ encode_append (take i xs) (drop i xs) ∙ rw (drop-cons xs i 0 h)

  read_at : (i : ℕ) → i < length xs → number_at (encode_all xs) (placed i) ≡ Ok (get_or xs i 0, placed (i + 1))
  read_at i h = rw (parted i h, length_next xs i h) (read_written (encode_all (take i xs)) (get_or xs i 0) (encode_all (drop (suc i) xs)) (words i))

  -- the bytes of a list give its numbers one by one
  spelled : Source (number_at (encode_all xs)) (length (encode_all xs)) placed xs
  spelled = record { numbers = read_at; end = rw (take_all (length xs) xs (omega arith)) (omega arith) }

-- the bytes of a valid list are read as that list
pub valid_read : (xs : List ℕ) → Words xs → Valid xs → sheet_of (encode_all xs) ≡ these xs
unfolding sheet_of
valid_read xs words v = valid_walked Reader (number_at (encode_all xs)) (length (encode_all xs)) (placed xs words) xs (spelled xs words) v

pub read_back : (xs : List ℕ) → Words xs → list_of xs ≡ these xs → sheet_of (encode_all xs) ≡ these xs
read_back xs words h = valid_read xs words (listed_valid xs xs h)

-- Read, then written.

module _ (s : List ℕ) (bytes : Bytes s) where
  -- the bytes from a number on
  bytes_on : (at x next : ℕ) → WasRead s at x next → encode x ++ drop next s ≡ drop at s
  bytes_on at x next r = sym (sym (take-append-drop (length (encode x)) (drop at s)) ∙ rw (r.bytes, drop-drop, r.place))

  spelt_by : (k at i : ℕ) (e : Seen) (ys : List ℕ) → Walked Reader (number_at s) (length s) k at i e ys
      → ((next : ℕ) (e' : Seen) (zs : List ℕ) → walk Reader (number_at s) (length s) k next (i + 1) e' ≡ these zs → encode_all zs ≡ drop next s)
      → encode_all ys ≡ drop at s
  spelt_by k at i e ys (gave x next zs v y w) go =
      rw (y, go next (seen_after e i x) zs w) (bytes_on at x next (written_read s at x next bytes v.read))
  spelt_by k at i e ys (ended y p h) go = rw (y, drop_of_length-le s h)

  spelt : (k at i : ℕ) (e : Seen) (ys : List ℕ) → walk Reader (number_at s) (length s) k at i e ≡ these ys → encode_all ys ≡ drop at s
  spelt zero at i e ys w = absurd (walk_none Reader (number_at s) (length s) at i e ys w)
  spelt (suc k) at i e ys w = spelt_by k at i e ys (walked Reader (number_at s) (length s) k at i e ys w) (λ next e' zs h. spelt k next (i + 1) e' zs h)

pub write_back : (s xs : List ℕ) → Bytes s → sheet_of s ≡ these xs → encode_all xs ≡ s
unfolding sheet_of
write_back s xs bytes h = spelt s bytes (suc most) 0 0 nothing xs h

-- What was read is taken by the writer, since it is valid.
pub read_listed : (s xs : List ℕ) → sheet_of s ≡ these xs → list_of xs ≡ these xs
read_listed s xs h = valid_listed xs (read_valid s xs h)

-- The round trips of the two functions, where the buffers have room: what one left at the front of its buffer, the other takes.

gives_done : (needed room n : ℕ) → gives needed room ≡ Ok n → (needed ≡ n) × (needed ≤ room)
gives_done needed room n e = by (ltb room needed) refl e
  where
    by : (t : Bool) → ltb room needed ≡ t → cond t (Err (refused Short needed)) (Ok needed) ≡ Ok n → (needed ≡ n) × (needed ≤ room)
    by true l e = absurd (cc)
    by false l e = (cc, ltb-false room needed l)

pub gives_room : (needed room : ℕ) → needed ≤ room → gives needed room ≡ Ok needed
gives_room needed room h = rw (le-ltb room needed h)

pub holds_front : (xs buffer : List ℕ) → length xs ≤ length buffer → take (length xs) (holds xs buffer) ≡ xs
holds_front xs buffer h = rw (le-ltb (length buffer) (length xs) h, take-append_seam)

pub record WasDone (f : Found) (size : List ℕ → ℕ) (room n : ℕ) : Type 0 where
  pub numbers : List ℕ
  pub is : f ≡ these numbers
  pub count : size numbers ≡ n
  pub fits : size numbers ≤ room

pub read_done : (f : Found) (room n : ℕ) → read_gives f room ≡ Ok n → WasDone f length room n
read_done (fail w d) room n e = absurd (cc)
read_done (these xs) room n e = let t = gives_done (length xs) room n e in record { numbers = xs; is = refl; count = t.0; fits = t.1 }

pub write_done : (f : Found) (room n : ℕ) → write_gives f room ≡ Ok n → WasDone f (λ xs. length (encode_all xs)) room n
write_done (fail w d) room n e = absurd (cc)
write_done (these xs) room n e = let t = gives_done (length (encode_all xs)) room n e in record { numbers = xs; is = refl; count = t.0; fits = t.1 }

-- "Reading a written sheet gives back its numbers": the n bytes that `write_sheet` wrote are read as the numbers that it was given.
pub read_written_sheet : (xs buffer list : List ℕ) (n : ℕ) → Words xs → write_gives (list_of xs) (length buffer) ≡ Ok n → length xs ≤ length list
    → let written = sheet_of (take n (write_holds (list_of xs) buffer)) in
    (read_gives written (length list) ≡ Ok (length xs)) × (take (length xs) (read_holds written list) ≡ xs)
read_written_sheet xs buffer list n words e room =
    let d : WasDone (list_of xs) (λ xs. length (encode_all xs)) (length buffer) n = write_done (list_of xs) (length buffer) n e in
    let y : d.numbers ≡ xs = list_whole xs d.numbers d.is in
    let is : list_of xs ≡ these xs = d.is ∙ ap these y in
    let size : length (encode_all xs) ≡ n = ap (λ (l : List ℕ). length (encode_all l)) (sym y) ∙ d.count in
    let front : take n (write_holds (list_of xs) buffer) ≡ encode_all xs =
    rw (is, ← size) (holds_front (encode_all xs) buffer (omega (arith, size, d.count, d.fits))) in
    rw (front, read_back xs words is) (gives_room (length xs) (length list) room, holds_front xs list room)

-- "writing a read sheet gives back its bytes": the n numbers that `read_sheet` read are written as the bytes that it was given.
read_front : (f : Found) (xs list : List ℕ) (n : ℕ) → f ≡ these xs → length xs ≡ n → length xs ≤ length list → take n (read_holds f list) ≡ xs
read_front f xs list n is count room = rw (is, ← count) (holds_front xs list room)

pub written_read_sheet : (s list buffer : List ℕ) (n : ℕ) → Bytes s → read_gives (sheet_of s) (length list) ≡ Ok n → length s ≤ length buffer
    → let read = list_of (take n (read_holds (sheet_of s) list)) in
    (write_gives read (length buffer) ≡ Ok (length s)) × (take (length s) (write_holds read buffer) ≡ s)
written_read_sheet s list buffer n bytes e room =
    let d : WasDone (sheet_of s) length (length list) n = read_done (sheet_of s) (length list) n e in
    let front = read_front (sheet_of s) d.numbers list n d.is d.count d.fits in
    let back : encode_all d.numbers ≡ s = write_back s d.numbers bytes d.is in
    rw (front, read_listed s d.numbers d.is, back) (gives_room (length s) (length buffer) room, holds_front s buffer room)
