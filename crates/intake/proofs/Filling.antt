-- Reading on: what two reads in a row took from a reader, and what stands at the front of the buffer after them.
-- Assumes nothing.
use Rattle.std.proofs.Common.{ℕ, ◌+◌, ◌≡◌, ◌≤◌, List, [], ◌++◌, length, take, refl, sym, ap, subst, ◌∙◌, append_assoc, arith}
use Rattle.std.specs.declared.option.Option.{Option}
use Rattle.std.specs.declared.option.Option.TheVariants.{None, Some}
use Rattle.std.specs.Io.KnownBytes.{Consumes}
use Rattle.std.proofs.Math.Seq.{take-append-add}
use Rattle.std.proofs.lemmas.List.{take-append-le, length-take-le}
use borrow.Rule.Slice.PartMut.{put_mid, post_of}

-- before the first read nothing was taken
pub consumes_none : (a : Option (List ℕ)) → Consumes a a []
consumes_none None = record {}
consumes_none (Some xs) = refl

-- a reader that gave some bytes and then others gave both, one behind the other
pub consumes_more : (a b c : Option (List ℕ)) (s t : List ℕ) → Consumes a b s → Consumes b c t → Consumes a c (s ++ t)
consumes_more None b c s t f g = record {}
consumes_more (Some xs) None c s t f g = absurd f
consumes_more (Some xs) (Some ys) None s t f g = absurd g
consumes_more (Some xs) (Some ys) (Some zs) s t f g = f ∙ ap (λ (l : List ℕ). s ++ l) g ∙ sym (append_assoc s t zs)

-- the front of a buffer, once m bytes were read into what lies behind its first n
pub front : (n m k : ℕ) (xs ys : List ℕ) → n ≤ length xs → m ≤ length ys → take (n + m) (put_mid n k xs ys) ≡ take n xs ++ take m ys
front n m k xs ys h l =
    ap (λ (i : ℕ). take (i + m) (put_mid n k xs ys)) (sym (length-take-le n xs h)) ∙ take-append-add (take n xs) (ys ++ post_of n k xs) m
    ∙ ap (λ (t : List ℕ). take n xs ++ t) (take-append-le m ys (post_of n k xs) l)

-- what was taken once m bytes more were read
pub read_on : (a b c : Option (List ℕ)) (n m k : ℕ) (xs ys : List ℕ) → n ≤ length xs → m ≤ length ys → Consumes a b (take n xs) → Consumes b c (take m ys)
    → Consumes a c (take (n + m) (put_mid n k xs ys))
read_on a b c n m k xs ys h l f g = subst (λ (t : List ℕ). Consumes a c t) (sym (front n m k xs ys h l)) (consumes_more a b c (take n xs) (take m ys) f g)

-- and where none was read
pub read_none : (a b c : Option (List ℕ)) (n m k : ℕ) (xs ys : List ℕ) → n ≤ length xs → m ≤ length ys → Consumes a b (take n xs) → Consumes b c (take m ys)
    → m ≡ 0 → Consumes a c (take n (put_mid n k xs ys))
read_none a b c n m k xs ys h l f g z =
    let e : n + m ≡ n = omega (arith, z) in subst (λ (i : ℕ). Consumes a c (take i (put_mid n k xs ys))) e (read_on a b c n m k xs ys h l f g)
