-- Of a reader whose bytes are known, two fillings of a buffer with that room give equally many bytes, and the same.
-- Assumes nothing.
use Rattle.std.proofs.Common.{ℕ, ◌≡◌, ◌<◌, List, [], ◌++◌, length, take, Ok, sym, ap, ◌∙◌, arith}
use Rattle.std.specs.declared.option.Option.TheVariants.{Some}
use Rattle.std.proofs.lemmas.List.{take_at, length-append}
use Rattle.intake.specs.Contract.{Fill}

-- one that gives fewer bytes than another had come to the end before it
fewer : {E : Type 0} (xs ys zs : List ℕ) (room m n : ℕ) (a b : List ℕ) → Fill {E = E} (Some xs) (Some ys) room (Ok m) a
    → Fill {E = E} (Some xs) (Some zs) room (Ok n) b → m < n → ⊥
fewer xs ys zs room m n a b f g h =
    let e : ys ≡ [] = f.whole (omega (arith, h, g.within.0, g.long)) in
    omega (arith, h, f.within.1, g.within.1, ap length (sym f.taken ∙ g.taken), length-append (take m a) ys, length-append (take n b) zs, ap length e)

pub fill_unique : {E : Type 0} (xs ys zs : List ℕ) (room m n : ℕ) (a b : List ℕ) → Fill {E = E} (Some xs) (Some ys) room (Ok m) a
    → Fill {E = E} (Some xs) (Some zs) room (Ok n) b → (m ≡ n) × (take m a ≡ take n b)
fill_unique xs ys zs room m n a b f g =
    let e : m ≡ n = omega (arith, fewer xs ys zs room m n a b f g, fewer xs zs ys room n m b a g f) in (
      e,
      sym (take_at (take m a) ys m (sym f.within.1)) ∙ ap (take m) (sym f.taken ∙ g.taken) ∙ ap (λ (i : ℕ). take i (take n b ++ zs)) e
          ∙ take_at (take n b) zs n (sym g.within.1),
    )
