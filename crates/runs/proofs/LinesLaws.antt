-- Laws of lists of bytes: those that pass a test, fronts of a list, and what a line has taken in by a slot.
-- Assumes nothing.
use Rattle.std.specs.Prelude.{◌≡◌, Bool, ◌||◌, ◌⊎◌}
use Rattle.std.proofs.Math.Path.{refl, ap}
use Rattle.std.proofs.Common.{sym, ◌∙◌, subst, true≢false, inl, inr, length-append, eq-eqb}
use Rattle.std.proofs.Math.Bool.{true, false}
use mathlib.Core.List.{List, [], ◌∷◌, ◌++◌, append_assoc, append-nil, head-eq_of_cons-eq, tail-eq_of_cons-eq}
use mathlib.Core.List.Memᴰ
use mathlib.Core.List.{Memᴰ}
use Prim.Native.Nat.{ℕ, zero, suc, ◌+◌, ◌≤◌, ◌<◌}
use native.Mathlib.Omega.{arith}
use Rattle.std.proofs.Math.Dec.{eqb}
use Rattle.std.proofs.Math.ListN.{length}
use Rattle.ground.proofs.OrderLaws.{le_or_lt}
use Rattle.tandem.specs.Sums.{weigh, total}
use Rattle.row.specs.Groups.{put}
use Rattle.tandem.proofs.SumLaws.{total_mono, total_add, total_at}
use Rattle.ground.specs.Each.{Each}
use Rattle.ground.proofs.EachLaws.{each_append, each_front}
use Rattle.runs.specs.Lines.{keep, by, Prefix}

module _ {B : Type 0} where
  put_append : (b : Bool) (x : B) (l m : List B) → put b x (l ++ m) ≡ put b x l ++ m
  put_append true x l m = refl
  put_append false x l m = refl

  pub keep_append : (p : B → Bool) (l m : List B) → keep p (l ++ m) ≡ keep p l ++ keep p m
  unfolding keep
  keep_append p [] m = refl
  keep_append p (x ∷ xs) m = ap (put (p x) x) (keep_append p xs m) ∙ put_append (p x) x (keep p xs) (keep p m)

  -- a test that is at least as strict, taken after another
  pub keep_keep : (p q : B → Bool) → ((b : B) → p b ≡ true → q b ≡ true) → (l : List B) → keep p (keep q l) ≡ keep p l
  unfolding keep
  keep_keep p q h [] = refl
  keep_keep p q h (x ∷ xs) = go (p x) (q x) refl refl (keep_keep p q h xs)
    where
      go : (a c : Bool) → p x ≡ a → q x ≡ c → keep p (keep q xs) ≡ keep p xs → keep p (put (q x) x (keep q xs)) ≡ put (p x) x (keep p xs)
      go a true e d r = rw d (ap (put (p x) x) r)
      go true false e d r = absurd (true≢false (sym (h x e) ∙ d))
      go false false e d r = rw (e, d) r

  pub keep_all : (p : B → Bool) (l : List B) → Each (λ b. p b ≡ true) l → keep p l ≡ l
  unfolding keep
  keep_all p [] h = refl
  keep_all p (x ∷ xs) h = rw h.0 (ap (λ (r : List B). x ∷ r) (keep_all p xs h.1))

  -- two tests that never both pass
  pub keep_or : (p q : B → Bool) → ((b : B) → p b ≡ true → q b ≡ false) → (l : List B)
      → length (keep (λ b. p b || q b) l) ≡ length (keep p l) + length (keep q l)
  unfolding keep
  keep_or p q h [] = refl
  keep_or p q h (x ∷ xs) = go (p x) (q x) refl refl (keep_or p q h xs)
    where
      go : (a c : Bool) → p x ≡ a → q x ≡ c → length (keep (λ b. p b || q b) xs) ≡ length (keep p xs) + length (keep q xs)
          → length (put (p x || q x) x (keep (λ b. p b || q b) xs)) ≡ length (put (p x) x (keep p xs)) + length (put (q x) x (keep q xs))
      go true true e d r = absurd (true≢false (sym d ∙ h x e))
      go true false e d r = rw (e, d) (omega arith)
      go false true e d r = rw (e, d) (omega arith)
      go false false e d r = rw (e, d) (omega arith)

  pub mem_keep : (p : B → Bool) (b : B) (l : List B) → p b ≡ true → Memᴰ b l → Memᴰ b (keep p l)
  unfolding keep
  mem_keep p b [] h m = elim m [ ]
  mem_keep p b (x ∷ xs) h (Memᴰ.head e) = rw (ap p (sym e) ∙ h) (Memᴰ.head e)
  mem_keep p b (x ∷ xs) h (Memᴰ.tail m) = go (p x) (mem_keep p b xs h m)
    where
      go : (a : Bool) → Memᴰ b (keep p xs) → Memᴰ b (put a x (keep p xs))
      go true k = Memᴰ.tail k
      go false k = k

  pub mem_of_keep : (p : B → Bool) (b : B) (l : List B) → Memᴰ b (keep p l) → Memᴰ b l
  unfolding keep
  mem_of_keep p b [] m = m
  mem_of_keep p b (x ∷ xs) m = go (p x) m (mem_of_keep p b xs)
    where
      go : (a : Bool) → Memᴰ b (put a x (keep p xs)) → (Memᴰ b (keep p xs) → Memᴰ b xs) → Memᴰ b (x ∷ xs)
      go true (Memᴰ.head e) f = Memᴰ.head e
      go true (Memᴰ.tail k) f = Memᴰ.tail (f k)
      go false k f = Memᴰ.tail (f k)

  pub prefix_refl : (l : List B) → Prefix l l
  prefix_refl l = record { rest = []; whole = append-nil l }

  pub prefix_trans : {l m n : List B} → Prefix l m → Prefix m n → Prefix l n
  prefix_trans {l} h k = record {
    rest = h.rest ++ k.rest;
    whole = sym (append_assoc l h.rest k.rest) ∙ ap (λ (r : List B). r ++ k.rest) h.whole ∙ k.whole;
  }

  pub prefix_keep : (p : B → Bool) {l m : List B} → Prefix l m → Prefix (keep p l) (keep p m)
  prefix_keep p {l} h = record { rest = keep p h.rest; whole = sym (keep_append p l h.rest) ∙ ap (keep p) h.whole }

  pub prefix_length : {l m : List B} → Prefix l m → length l ≤ length m
  prefix_length {l} h = omega (arith, length-append l h.rest, ap length h.whole)

  pub prefix_mem : {l m : List B} (b : B) → Prefix l m → Memᴰ b l → Memᴰ b m
  prefix_mem b h k = subst (Memᴰ b) h.whole (Memᴰ.append_left h.rest k)

  shorter : (x y s t : List B) → x ++ s ≡ y ++ t → length x ≤ length y → Prefix x y
  shorter [] y s t e h = record { rest = y; whole = refl }
  shorter (a ∷ x) [] s t e h = absurd (omega arith)
  shorter (a ∷ x) (b ∷ y) s t e h =
      let r = shorter x y s t (tail-eq_of_cons-eq e) (omega arith) in
      record { rest = r.rest; whole = cc (head-eq_of_cons-eq e, r.whole) }

  -- of two prefixes of one list the shorter is a prefix of the longer
  pub prefix_both : {x y z : List B} → Prefix x z → Prefix y z → length x ≤ length y → Prefix x y
  prefix_both {x} {y} h k l = shorter x y h.rest k.rest (h.whole ∙ sym k.whole) l

  pub by_prefix : (f : ℕ → List B) (a b : ℕ) → a ≤ b → Prefix (by f a) (by f b)
  unfolding by
  by_prefix f a zero h = let e : a ≡ 0 = omega arith in rw e (prefix_refl (by f 0))
  by_prefix f a (suc b) h = go (le_or_lt a b) (by_prefix f a b)
    where
      go : (a ≤ b) ⊎ (b < a) → (a ≤ b → Prefix (by f a) (by f b)) → Prefix (by f a) (by f (suc b))
      go (inl k) r = prefix_trans (r k) (record { rest = f (suc b); whole = refl })
      go (inr k) r = let e : a ≡ suc b = omega arith in rw e (prefix_refl (by f (suc b)))

  pub by_each : (P : B → Type 0) (f : ℕ → List B) (H : ℕ) → ((t : ℕ) → 0 < t → t ≤ H → Each P (f t)) → (t : ℕ) → t ≤ H → Each P (by f t)
  unfolding by
  by_each P f H h zero k = tt
  by_each P f H h (suc t) k = each_append P (by f t) (f (suc t)) (by_each P f H h t (omega arith)) (h (suc t) (omega arith) k)

  pub by_same : (p : B → Bool) (f g : ℕ → List B) (H : ℕ) → ((t : ℕ) → 0 < t → t ≤ H → keep p (f t) ≡ keep p (g t))
      → (t : ℕ) → t ≤ H → keep p (by f t) ≡ keep p (by g t)
  unfolding by
  by_same p f g H h zero k = refl
  by_same p f g H h (suc t) k =
      rw (keep_append p (by f t) (f (suc t)), keep_append p (by g t) (g (suc t)), by_same p f g H h t (omega arith), h (suc t) (omega arith) k)

  pub each_prefix : (P : B → Type 0) {l m : List B} → Prefix l m → Each P m → Each P l
  each_prefix P {l} {m} h k = each_front P l h.rest (subst (Each P) (sym h.whole) k)

  pub keep_length_mono : (p : B → Bool) (f : ℕ → List B) (a b : ℕ) → a ≤ b → length (keep p (by f a)) ≤ length (keep p (by f b))
  keep_length_mono p f a b h = prefix_length (prefix_keep p (by_prefix f a b h))

-- bytes counted flow by flow

module _ {B : Type 0} (flow : B → ℕ) where
  length_put : (b : Bool) (x : B) (l : List B) → length (put b x l) ≡ weigh b 1 + length l
  length_put true x l = omega arith
  length_put false x l = omega arith

  one_le : (n : ℕ) (G : ℕ → Bool) (y : ℕ) → (G y ≡ true → y < n) → weigh (G y) 1 ≤ total n (λ f. weigh (G f) (weigh (eqb f y) 1))
  one_le n G y h = go (G y) refl
    where
      go : (a : Bool) → G y ≡ a → weigh (G y) 1 ≤ total n (λ f. weigh (G f) (weigh (eqb f y) 1))
      go false e = rw e (omega arith)
      go true e =
          let k : weigh (G y) (weigh (eqb y y) 1) ≤ total n (λ f. weigh (G f) (weigh (eqb f y) 1)) =
          total_at n y (λ f. weigh (G f) (weigh (eqb f y) 1)) (h e) in
          let d : weigh (G y) 1 ≤ weigh (G y) (weigh (eqb y y) 1) = rw (e, eq-eqb y y refl) (omega arith) in
          omega (arith, k, d)

  -- the bytes of a set of flows are at most those of its flows, added up
  pub number_le : (n : ℕ) (G : ℕ → Bool) → ((y : ℕ) → G y ≡ true → y < n) → (l : List B)
      → length (keep (λ b. G (flow b)) l) ≤ total n (λ f. weigh (G f) (length (keep (λ b. eqb f (flow b)) l)))
  unfolding keep
  number_le n G h [] = omega arith
  number_le n G h (x ∷ xs) =
      let a = length_put (G (flow x)) x (keep (λ b. G (flow b)) xs) in
      let i = number_le n G h xs in
      let o = one_le n G (flow x) (h (flow x)) in
      let s = total_add n (λ f. weigh (G f) (weigh (eqb f (flow x)) 1)) (λ f. weigh (G f) (length (keep (λ b. eqb f (flow b)) xs))) in
      let m : total n (λ f. weigh (G f) (weigh (eqb f (flow x)) 1) + weigh (G f) (length (keep (λ b. eqb f (flow b)) xs)))
      ≤ total n (λ f. weigh (G f) (length (put (eqb f (flow x)) x (keep (λ b. eqb f (flow b)) xs)))) =
      total_mono n (λ f. weigh (G f) (weigh (eqb f (flow x)) 1) + weigh (G f) (length (keep (λ b. eqb f (flow b)) xs)))
      (λ f. weigh (G f) (length (put (eqb f (flow x)) x (keep (λ b. eqb f (flow b)) xs))))
      (λ f l. each (G f) (eqb f (flow x)) (keep (λ b. eqb f (flow b)) xs)) in
      omega (arith, a, i, o, s, m)
    where
      each : (g c : Bool) (l : List B) → weigh g (weigh c 1) + weigh g (length l) ≤ weigh g (length (put c x l))
      each true true l = omega arith
      each true false l = omega arith
      each false c l = omega arith
