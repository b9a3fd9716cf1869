-- What holds of each entry of a list: at every place, of its parts, of what is made of it.
-- Assumes nothing.
use Rattle.std.specs.Prelude.{ℕ, zero, suc, ◌<◌, List, [], ◌∷◌, ◌++◌, map, length, get_or, take}
use Rattle.std.proofs.Common.{le_of_suc-le-suc, not-suc-le-zero}
use Rattle.ground.specs.Each.{Each}

pub each_at : {A : Type 0} (P : A → Type 0) (l : List A) (d : A) → Each P l → (k : ℕ) → k < length l → P (get_or l k d)
each_at P [] d h k l = absurd (not-suc-le-zero l)
each_at P (x ∷ xs) d h zero l = h.0
each_at P (x ∷ xs) d h (suc k) l = each_at P xs d h.1 k (le_of_suc-le-suc l)

pub each_in : {A : Type 0} (P : A → Type 0) (l : List A) (x : A) (m : List A) → Each P (l ++ (x ∷ m)) → P x
each_in P [] x m h = h.0
each_in P (y ∷ l) x m h = each_in P l x m h.1

pub each_append : {A : Type 0} (P : A → Type 0) (l m : List A) → Each P l → Each P m → Each P (l ++ m)
each_append P [] m h k = k
each_append P (x ∷ l) m h k = (h.0, each_append P l m h.1 k)

pub each_front : {A : Type 0} (P : A → Type 0) (l m : List A) → Each P (l ++ m) → Each P l
each_front P [] m h = tt
each_front P (x ∷ l) m h = (h.0, each_front P l m h.1)

pub each_back : {A : Type 0} (P : A → Type 0) (l m : List A) → Each P (l ++ m) → Each P m
each_back P [] m h = h
each_back P (x ∷ l) m h = each_back P l m h.1

pub each_map : {A : Type 0} (P Q : A → Type 0) (l : List A) → ((x : A) → P x → Q x) → Each P l → Each Q l
each_map P Q [] f h = tt
each_map P Q (x ∷ l) f h = (f x h.0, each_map P Q l f h.1)

pub each_mapped : {A B : Type 0} (P : B → Type 0) (f : A → B) (l : List A) → Each (λ x. P (f x)) l → Each P (map f l)
each_mapped P f [] e = tt
each_mapped P f (x ∷ l) e = (e.0, each_mapped P f l e.1)

pub each_both : {A : Type 0} (P Q R : A → Type 0) (l : List A) → ((x : A) → P x → Q x → R x) → Each P l → Each Q l → Each R l
each_both P Q R [] f h k = tt
each_both P Q R (x ∷ l) f h k = (f x h.0 k.0, each_both P Q R l f h.1 k.1)

-- of the first n, at a place among them
pub each_within : {A : Type 0} (P : A → Type 0) (l : List A) (n i : ℕ) (d : A) → Each P (take n l) → i < n → i < length l → P (get_or l i d)
each_within P [] n i d h p q = absurd (not-suc-le-zero q)
each_within P (x ∷ l) zero i d h p q = absurd (not-suc-le-zero p)
each_within P (x ∷ l) (suc n) zero d h p q = h.0
each_within P (x ∷ l) (suc n) (suc i) d h p q = each_within P l n i d h.1 (le_of_suc-le-suc p) (le_of_suc-le-suc q)
