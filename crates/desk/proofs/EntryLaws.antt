-- What the entries of the reader and the writer give and leave, in document 01's sentences: a refusal is one of those that each gives and writes
-- nothing; the byte strings that are accepted are just the bytes of valid lists, and the lists that are accepted just the valid ones.
-- Assumes nothing.
use Rattle.std.specs.Prelude.{ℕ, ◌≤◌, ◌<◌, ◌≡◌, refl, ◌⊎◌, List, ◌++◌, length, drop}
use Rattle.std.proofs.Common.{ap, ◌∙◌, inl, inr, arith, lt-ltb, le-ltb}
use Rattle.ground.proofs.OrderLaws.{lt_or_ge}
use Rattle.numbers.proofs.SevenLaws.{Bytes}
use Rattle.fields.specs.declared.Why.TheVariants.{Short}
use Rattle.fields.specs.Refusal.{refusal}
use Rattle.sheet.specs.Sheet.{Found, fail, these, sheet_of, list_of, encode_all, read_gives, read_holds, write_gives, write_holds}
use Rattle.sheet.specs.Valid.{Valid, IsSheet}
use Rattle.sheet.proofs.ValidLaws.{listed_valid, valid_listed}
use Rattle.sheet.proofs.WalkLaws.{list_whole}
use Rattle.sheet.proofs.AcceptLaws.{read_is_sheet, sheet_is_read, read_refused, list_refused}
use Rattle.desk.specs.Packed.{as_one, packed}
use Rattle.desk.specs.Says.{Refused}
use Rattle.desk.specs.Contract.{GullbiscuitReadSheet, GullbiscuitWriteSheet}
use Rattle.sheet.proofs.DetailLaws.{read_place, list_place, read_count, list_count, encode_all_few}

-- the reader

module _ (s before : List ℕ) (r : ℕ) (after : List ℕ) (call : GullbiscuitReadSheet s before r after) where
  read_given : (f : Found) → sheet_of s ≡ f → r ≡ packed (read_gives f (length before))
  read_given f e = call.gives ∙ ap (λ (f : Found). packed (read_gives f (length before))) e

  read_held : (f : Found) → sheet_of s ≡ f → after ≡ read_holds f before
  read_held f e = call.holds ∙ ap (λ (f : Found). read_holds f before) e

  read_short : (xs : List ℕ) → sheet_of s ≡ these xs → length before < length xs → (r ≡ as_one (refusal Short) (length xs)) × (after ≡ before)
  read_short xs e l =
      let t = lt-ltb (length before) (length xs) l in
      (rw t at (read_given (these xs) e), rw t at (read_held (these xs) e))

  read_whole : (xs : List ℕ) → sheet_of s ≡ these xs → length xs ≤ length before → (r ≡ as_one 0 (length xs)) × (after ≡ xs ++ drop (length xs) before)
  read_whole xs e l =
      let t = le-ltb (length before) (length xs) l in
      (rw t at (read_given (these xs) e), rw t at (read_held (these xs) e))

  pub read_refuses : Bytes s → 4294967296 ≤ r → Refused before r after
  read_refuses bytes h = by (sheet_of s) refl
    where
      by_room : (xs : List ℕ) → sheet_of s ≡ these xs → (length before < length xs) ⊎ (length xs ≤ length before) → Refused before r after
      by_room xs e (inl l) = record {
        number = refusal Short;
        detail = length xs;
        one = (read_short xs e l).0;
        small = omega (arith, read_count s xs e);
        known = inr refl;
        stays = (read_short xs e l).1;
      }
      by_room xs e (inr l) = absurd (omega (arith, (read_whole xs e l).0, read_count s xs e))

      by : (f : Found) → sheet_of s ≡ f → Refused before r after
      by (fail w d) e = record {
        number = refusal w;
        detail = d;
        one = read_given (fail w d) e;
        small = omega (arith, read_place s w d bytes e);
        known = inl (read_refused s w d e);
        stays = read_held (fail w d) e;
      }
      by (these xs) e = by_room xs e (lt_or_ge (length before) (length xs))

  -- what is accepted is the bytes of a valid list, and that list is written
  pub read_accepts : Bytes s → r < 4294967296 → (xs : List ℕ) × IsSheet s xs × (r ≡ length xs) × (after ≡ xs ++ drop (length xs) before)
  read_accepts bytes h = by (sheet_of s) refl
    where
      by_room : (xs : List ℕ) → sheet_of s ≡ these xs → (length before < length xs) ⊎ (length xs ≤ length before)
          → (xs : List ℕ) × IsSheet s xs × (r ≡ length xs) × (after ≡ xs ++ drop (length xs) before)
      by_room xs e (inl l) = absurd (omega (arith, (read_short xs e l).0))
      by_room xs e (inr l) = (xs, read_is_sheet s xs bytes e, omega (arith, (read_whole xs e l).0), (read_whole xs e l).1)

      by : (f : Found) → sheet_of s ≡ f → (xs : List ℕ) × IsSheet s xs × (r ≡ length xs) × (after ≡ xs ++ drop (length xs) before)
      by (fail w d) e = absurd (omega (arith, read_given (fail w d) e, (read_refused s w d e).0))
      by (these xs) e = by_room xs e (lt_or_ge (length before) (length xs))

  -- and the bytes of every valid list are accepted, where the lent list has room; 10 only where it has not
  pub sheet_accepted : (xs : List ℕ) → IsSheet s xs → length xs ≤ length before → r ≡ length xs
  sheet_accepted xs is l = omega (arith, (read_whole xs (sheet_is_read s xs is) l).0)

  pub sheet_too_long : (xs : List ℕ) → IsSheet s xs → length before < length xs → r ≡ as_one (refusal Short) (length xs)
  sheet_too_long xs is l = (read_short xs (sheet_is_read s xs is) l).0

-- the writer

module _ (xs before : List ℕ) (r : ℕ) (after : List ℕ) (call : GullbiscuitWriteSheet xs before r after) where
  abbrev size : ℕ
  size = length (encode_all xs)

  write_given : (f : Found) → list_of xs ≡ f → r ≡ packed (write_gives f (length before))
  write_given f e = call.gives ∙ ap (λ (f : Found). packed (write_gives f (length before))) e

  write_held : (f : Found) → list_of xs ≡ f → after ≡ write_holds f before
  write_held f e = call.holds ∙ ap (λ (f : Found). write_holds f before) e

  write_short : list_of xs ≡ these xs → length before < size → (r ≡ as_one (refusal Short) size) × (after ≡ before)
  write_short e l =
      let t = lt-ltb (length before) size l in
      (rw t at (write_given (these xs) e), rw t at (write_held (these xs) e))

  write_whole : list_of xs ≡ these xs → size ≤ length before → (r ≡ as_one 0 size) × (after ≡ encode_all xs ++ drop size before)
  write_whole e l =
      let t = le-ltb (length before) size l in
      (rw t at (write_given (these xs) e), rw t at (write_held (these xs) e))

  size_small : list_of xs ≡ these xs → size < 4294967296
  size_small e = omega (arith, encode_all_few xs, list_count xs xs e)

  -- "The writer gives 1, 3, 4, 5 and 10 only"
  pub write_refuses : 4294967296 ≤ r → (f : Refused before r after) × (f.number ≡ 2 → ⊥)
  write_refuses h = by (list_of xs) refl
    where
      by_room : list_of xs ≡ these xs → (length before < size) ⊎ (size ≤ length before) → (f : Refused before r after) × (f.number ≡ 2 → ⊥)
      by_room e (inl l) = (
        record { number = refusal Short; detail = size; one = (write_short e l).0; small = size_small e; known = inr refl; stays = (write_short e l).1 },
        λ t. omega arith,
      )
      by_room e (inr l) = absurd (omega (arith, (write_whole e l).0, size_small e))

      by : (f : Found) → list_of xs ≡ f → (f : Refused before r after) × (f.number ≡ 2 → ⊥)
      by (fail w d) e =
          let known = list_refused xs w d e in (
            record {
              number = refusal w;
              detail = d;
              one = write_given (fail w d) e;
              small = omega (arith, list_place xs w d e);
              known = inl known.0;
              stays = write_held (fail w d) e;
            },
            known.1,
          )
      by (these ys) e = by_room (e ∙ ap these (list_whole xs ys e)) (lt_or_ge (length before) size)

  -- what is accepted is a valid list, and its bytes are written
  pub write_accepts : r < 4294967296 → Valid xs × (r ≡ size) × (after ≡ encode_all xs ++ drop size before)
  write_accepts h = by (list_of xs) refl
    where
      by_room : list_of xs ≡ these xs → (length before < size) ⊎ (size ≤ length before)
          → Valid xs × (r ≡ size) × (after ≡ encode_all xs ++ drop size before)
      by_room e (inl l) = absurd (omega (arith, (write_short e l).0))
      by_room e (inr l) = (listed_valid xs xs e, omega (arith, (write_whole e l).0), (write_whole e l).1)

      by : (f : Found) → list_of xs ≡ f → Valid xs × (r ≡ size) × (after ≡ encode_all xs ++ drop size before)
      by (fail w d) e = absurd (omega (arith, write_given (fail w d) e, (list_refused xs w d e).0.0))
      by (these ys) e = by_room (e ∙ ap these (list_whole xs ys e)) (lt_or_ge (length before) size)

  -- and every valid list is accepted, where the buffer has room; 10 only where it has not
  pub valid_accepted : Valid xs → size ≤ length before → r ≡ size
  valid_accepted v l = omega (arith, (write_whole (valid_listed xs v) l).0)

  pub valid_too_long : Valid xs → length before < size → r ≡ as_one (refusal Short) size
  valid_too_long v l = (write_short (valid_listed xs v) l).0
