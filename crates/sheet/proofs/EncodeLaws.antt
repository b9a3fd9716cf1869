-- Laws of the bytes of a list of numbers.
-- Assumes nothing.
use Rattle.std.specs.Prelude.{ℕ, ◌+◌, ◌<◌, ◌≡◌, refl, List, [], ◌∷◌, ◌++◌, length, get_or, take, drop}
use Rattle.std.proofs.Common.{append_assoc, append-nil, add-one, length-append, take-suc, drop-cons}
use Rattle.numbers.specs.Seven.{encode}
use Rattle.sheet.specs.Sheet.{encode_all}

pub encode_append : (xs ys : List ℕ) → encode_all (xs ++ ys) ≡ encode_all xs ++ encode_all ys
encode_append [] ys = refl
encode_append (x ∷ xs) ys = rw (encode_append xs ys, append_assoc)

-- the bytes from one number on, and those of one number more
pub encode_next : (xs : List ℕ) (i : ℕ) → i < length xs → encode_all (drop i xs) ≡ encode (get_or xs i 0) ++ encode_all (drop (i + 1) xs)
encode_next xs i h = rw (add-one i, drop-cons xs i 0 h)

pub length_next : (xs : List ℕ) (i : ℕ) → i < length xs
    → length (encode_all (take (i + 1) xs)) ≡ length (encode_all (take i xs)) + length (encode (get_or xs i 0))
length_next xs i h = rw (add-one i, take-suc xs i 0 h, encode_append, append-nil, length-append)
