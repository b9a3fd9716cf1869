-- How far a refusal's place, the count of a sheet's numbers and the length of its bytes reach: every detail is below 2^32.
-- Assumes nothing.
use Rattle.std.specs.Prelude.{ℕ, zero, suc, ◌+◌, ◌*◌, ◌≤◌, ◌<◌, ◌≡◌, refl, List, [], ◌∷◌, Bool, true, false, Result, Ok, Err, cond, length, ltb}
use Rattle.std.proofs.Common.{mul-suc, arith, length-append}
use Rattle.numbers.specs.Seven.{number_at}
use Rattle.numbers.proofs.SevenLaws.{Bytes, WasRead, written_read, encode_few}
use Rattle.numbers.specs.declared.Fault.{Fault}
use Rattle.fields.specs.Rule.{Seen, most, rule_at, seen_after, nothing}
use Rattle.fields.specs.declared.User.{User}
use Rattle.fields.specs.declared.User.TheVariants.{Reader, Writer}
use Rattle.fields.specs.Refusal.{refused}
use Rattle.fields.specs.declared.Why.{Why}
use Rattle.fields.specs.declared.Why.TheVariants.{Short}
use Rattle.fields.specs.Refusal.{detail}
use Rattle.sheet.specs.Sheet.{Found, fail, these, walk, sheet_of, entry_at, list_of, encode_all, read_gives, write_gives, gives}
use Rattle.fields.proofs.PlaceLaws.{Small, past_late, small_after}
use Rattle.fields.proofs.StepLaws.{step_stopped}
use Rattle.sheet.proofs.EntryLaws.{Entry, entry_was}
use Rattle.sheet.proofs.WalkLaws.{Walked, gave, ended, walked, walk_none, Stopped, behind, here, stopped}

-- How far a number reaches in a source: five bytes at most in a byte string, one entry in a list.

abbrev pub Reaches : ℕ → (ℕ → Result (ℕ × ℕ) Fault) → Type 0
Reaches w source = (at x next : ℕ) → source at ≡ Ok (x, next) → next ≤ at + w

pub bytes_reach : (s : List ℕ) → Bytes s → Reaches 5 (number_at s)
bytes_reach s b at x next e = let r : WasRead s at x next = written_read s at x next b e in omega (arith, r.place, encode_few x)

pub entries_reach : (xs : List ℕ) → Reaches 1 (entry_at xs)
entries_reach xs at x next e = let t : Entry xs at x next = entry_was xs at x next e in omega (arith, t.place)

-- A refusal's place.

-- no number is passed behind the last field
stops_late : (u : User) (source : ℕ → Result (ℕ × ℕ) Fault) (size at i : ℕ) (e : Seen) (w : Why) (d : ℕ) → most ≤ i → Small e → Stopped u source size 0 at i e w d → d ≡ at
stops_late u source size at i e w d l m (behind x next v h) =
    let q : ◌≡◌ {A = Bool} true false = rw (past_late u i e l m) at v.more in
    let z : ◌≡◌ {A = ℕ} 0 1 = cc in
    absurd (omega arith)
stops_late u source size at i e w d l m (here p) = step_stopped (source at) size at (rule_at u i e) w d p

place_by : (n : ℕ) (u : User) (source : ℕ → Result (ℕ × ℕ) Fault) (size k at i : ℕ) (e : Seen) (w : Why) (d : ℕ) → Reaches n source → Small e
    → Stopped u source size (suc k) at i e w d
    → ((next : ℕ) (e' : Seen) → Small e' → walk u source size (suc k) next (i + 1) e' ≡ fail w d → d ≤ next + n * k) → d ≤ at + n * suc k
place_by n u source size k at i e w d r m (behind x next v h) go =
    let l : d ≤ next + n * k = go next (seen_after e i x) (small_after u e i x m v.fine) h in
    omega (arith, l, r at x next v.read, mul-suc n k)
place_by n u source size k at i e w d r m (here p) go = omega (arith, step_stopped (source at) size at (rule_at u i e) w d p)

-- where k more numbers may be passed, the refusal's place is at most k numbers further
pub place_near : (n : ℕ) (u : User) (source : ℕ → Result (ℕ × ℕ) Fault) (size k at i : ℕ) (e : Seen) (w : Why) (d : ℕ) → Reaches n source → i + k ≡ most → Small e
    → walk u source size (suc k) at i e ≡ fail w d → d ≤ at + n * k
place_near n u source size zero at i e w d r c m h = omega (arith, stops_late u source size at i e w d (omega arith) m (stopped u source size 0 at i e w d h))
place_near n u source size (suc k) at i e w d r c m h =
    place_by n u source size k at i e w d r m (stopped u source size (suc k) at i e w d h)
    (λ next e' m' t. place_near n u source size k next (i + 1) e' w d r (omega arith) m' t)

nothing_small : Small nothing
nothing_small = record { servers = omega arith; flows = omega arith }

-- "its offset", "offset of the first": at most 231 numbers of five bytes stand before it
pub read_place : (s : List ℕ) (w : Why) (d : ℕ) → Bytes s → sheet_of s ≡ fail w d → d ≤ 5 * most
unfolding sheet_of
read_place s w d b h = place_near 5 Reader (number_at s) (length s) most 0 0 nothing w d (bytes_reach s b) refl nothing_small h

-- the writer's "offsets count numbers"
pub list_place : (xs : List ℕ) (w : Why) (d : ℕ) → list_of xs ≡ fail w d → d ≤ most
unfolding list_of
list_place xs w d h = place_near 1 Writer (entry_at xs) (length xs) most 0 0 nothing w d (entries_reach xs) refl nothing_small h

-- The count of a sheet's numbers and the length of its bytes.

count_by : (u : User) (source : ℕ → Result (ℕ × ℕ) Fault) (size k at i : ℕ) (e : Seen) (ys : List ℕ) → Walked u source size (suc k) at i e ys
    → ((next : ℕ) (e' : Seen) (zs : List ℕ) → walk u source size (suc k) next (i + 1) e' ≡ these zs → length zs ≤ k) → length ys ≤ suc k
count_by u source size k at i e ys (gave x next zs v y h) go = rw y (omega (arith, go next (seen_after e i x) zs h))
count_by u source size k at i e ys (ended y p l) go = rw y (omega arith)

none_by : (u : User) (source : ℕ → Result (ℕ × ℕ) Fault) (size at i : ℕ) (e : Seen) (ys : List ℕ) → Walked u source size 0 at i e ys → length ys ≤ 0
none_by u source size at i e ys (gave x next zs v y h) = absurd (walk_none u source size next (i + 1) (seen_after e i x) zs h)
none_by u source size at i e ys (ended y p l) = rw y (omega arith)

-- a walk of k + 1 steps gives at most k numbers: its last step sees the end
pub count_few : (u : User) (source : ℕ → Result (ℕ × ℕ) Fault) (size k at i : ℕ) (e : Seen) (ys : List ℕ) → walk u source size (suc k) at i e ≡ these ys → length ys ≤ k
count_few u source size zero at i e ys h = none_by u source size at i e ys (walked u source size 0 at i e ys h)
count_few u source size (suc k) at i e ys h =
    count_by u source size k at i e ys (walked u source size (suc k) at i e ys h) (λ next e' zs t. count_few u source size k next (i + 1) e' zs t)

pub read_count : (s ys : List ℕ) → sheet_of s ≡ these ys → length ys ≤ most
unfolding sheet_of
read_count s ys h = count_few Reader (number_at s) (length s) most 0 0 nothing ys h

pub list_count : (xs ys : List ℕ) → list_of xs ≡ these ys → length ys ≤ most
unfolding list_of
list_count xs ys h = count_few Writer (entry_at xs) (length xs) most 0 0 nothing ys h

pub encode_all_few : (xs : List ℕ) → length (encode_all xs) ≤ 5 * length xs
encode_all_few [] = omega arith
encode_all_few (x ∷ xs) = rw length-append (omega (arith, encode_few x, encode_all_few xs))

-- Every detail is below 2^32, whatever the room.

needed_detail : (t : Bool) (n : ℕ) → detail (cond t (Err (refused Short n)) (Ok n)) ≡ n
needed_detail true n = refl
needed_detail false n = refl

pub gives_detail : (needed room : ℕ) → detail (gives needed room) ≡ needed
gives_detail needed room = needed_detail (ltb room needed) needed

read_by : (f : Found) (s : List ℕ) (room : ℕ) → Bytes s → sheet_of s ≡ f → detail (read_gives f room) < 4294967296
read_by (fail w d) s room b e = omega (arith, read_place s w d b e)
read_by (these ys) s room b e = rw (needed_detail (ltb room (length ys)) (length ys)) (omega (arith, read_count s ys e))

pub read_detail_small : (s : List ℕ) (room : ℕ) → Bytes s → detail (read_gives (sheet_of s) room) < 4294967296
read_detail_small s room b = read_by (sheet_of s) s room b refl

write_by : (f : Found) (xs : List ℕ) (room : ℕ) → list_of xs ≡ f → detail (write_gives f room) < 4294967296
write_by (fail w d) xs room e = omega (arith, list_place xs w d e)
write_by (these ys) xs room e =
    let n = length (encode_all ys) in
    rw (needed_detail (ltb room n) n) (omega (arith, encode_all_few ys, list_count xs ys e))

pub write_detail_small : (xs : List ℕ) (room : ℕ) → detail (write_gives (list_of xs) room) < 4294967296
write_detail_small xs room = write_by (list_of xs) xs room refl
