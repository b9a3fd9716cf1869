-- Laws of entries that are stored in a buffer.
-- Assumes nothing.
use Rattle.std.specs.Prelude.{ℕ, suc, ◌+◌, ◌≤◌, ◌<◌, ◌≡◌, List, [], ◌∷◌, ◌++◌, length, set, take, drop}
use Rattle.std.proofs.Common.{add-zero, zero-add, ◌∙◌, arith, lt-ltb, le-ltb}
use Rattle.std.proofs.lemmas.List.Edits.{sets, sets-eq}
use Rattle.std.proofs.Math.Seq.{take-append_seam}
use Rattle.ground.specs.Buffer.{holds}

-- entries stored behind others are stored as a whole
pub sets_append : (l : List ℕ) (i : ℕ) (a b : List ℕ) → sets l i (a ++ b) ≡ sets (sets l i a) (i + length a) b
sets_append l i [] b = rw (add-zero i)
sets_append l i (x ∷ a) b = let e : suc i + length a ≡ i + suc (length a) = omega arith in sets_append (set l i x) (suc i) a b ∙ rw e

-- entries stored at the front of a buffer that has room for them
pub stored : (xs l : List ℕ) → length xs ≤ length l → sets l 0 xs ≡ xs ++ drop (length xs) l
stored xs l h = sets-eq xs l 0 (omega arith) ∙ rw zero-add

pub stored_front : (xs l : List ℕ) → length xs ≤ length l → take (length xs) (sets l 0 xs) ≡ xs
stored_front xs l h = rw (stored xs l h) (take-append_seam xs (drop (length xs) l))

-- what a buffer holds, by whether it has room
pub holds_room : (xs l : List ℕ) → length xs ≤ length l → holds xs l ≡ sets l 0 xs
holds_room xs l h = rw (le-ltb (length l) (length xs) h, stored xs l h)

pub holds_short : (xs l : List ℕ) → length l < length xs → holds xs l ≡ l
holds_short xs l h = rw (lt-ltb (length l) (length xs) h)
