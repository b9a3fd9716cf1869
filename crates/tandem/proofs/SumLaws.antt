-- Laws of sums over the first n numbers, and of tests over them.
-- Assumes nothing.
use Rattle.std.specs.Prelude.{◌≡◌, refl, Bool, true, false, ◌||◌, ◌&&◌, ◌⊎◌, ℕ, zero, suc, ◌+◌, ◌*◌, ◌≤◌, ◌<◌, eqb}
use Rattle.std.proofs.Common.{sym, ◌∙◌, true≢false, inl, inr, arith, eq-eqb, eqb-true}
use Rattle.std.proofs.lemmas.Bool.{false≢true}
use Rattle.tandem.specs.Sums.{weigh, total, any}
use Rattle.ground.proofs.OrderLaws.{le_or_lt}
use Rattle.tandem.proofs.TestLaws.{not_passed, or_left, or_right, or_cases}

pub total_mono : (n : ℕ) (g h : ℕ → ℕ) → ((f : ℕ) → f < n → g f ≤ h f) → total n g ≤ total n h
unfolding total
total_mono zero g h k = omega arith
total_mono (suc n) g h k = omega (arith, total_mono n g h (λ f l. k f (omega arith)), k n (omega arith))

pub total_add : (n : ℕ) (g h : ℕ → ℕ) → total n (λ f. g f + h f) ≡ total n g + total n h
unfolding total
total_add zero g h = refl
total_add (suc n) g h = omega (arith, total_add n g h)

pub total_at : (n y : ℕ) (g : ℕ → ℕ) → y < n → g y ≤ total n g
unfolding total
total_at zero y g h = absurd (omega arith)
total_at (suc n) y g h = go (le_or_lt n y) (total_at n y g)
  where
    go : (n ≤ y) ⊎ (y < n) → (y < n → g y ≤ total n g) → g y ≤ total n g + g n
    go (inl k) r = let e : y ≡ n = omega arith in rw e (omega arith)
    go (inr k) r = omega (arith, r k)

pub total_scale : (n d : ℕ) (P : ℕ → Bool) (s r : ℕ → ℕ)
    → total n (λ f. weigh (P f) (s f + r f * d)) ≡ total n (λ f. weigh (P f) (s f)) + total n (λ f. weigh (P f) (r f)) * d
unfolding total
total_scale zero d P s r = omega arith
total_scale (suc n) d P s r = go (P n) (total_scale n d P s r)
  where
    go : (b : Bool) → total n (λ f. weigh (P f) (s f + r f * d)) ≡ total n (λ f. weigh (P f) (s f)) + total n (λ f. weigh (P f) (r f)) * d
        → total n (λ f. weigh (P f) (s f + r f * d)) + weigh b (s n + r n * d)
        ≡ total n (λ f. weigh (P f) (s f)) + weigh b (s n) + (total n (λ f. weigh (P f) (r f)) + weigh b (r n)) * d
    go true h = omega arith
    go false h = omega arith

-- over two sets that share no flow
pub total_or : (n : ℕ) (P G : ℕ → Bool) (r : ℕ → ℕ) → ((f : ℕ) → P f ≡ true → G f ≡ false)
    → total n (λ f. weigh (P f || G f) (r f)) ≡ total n (λ f. weigh (P f) (r f)) + total n (λ f. weigh (G f) (r f))
unfolding total
total_or zero P G r h = refl
total_or (suc n) P G r h = go (P n) (G n) refl refl (total_or n P G r h)
  where
    go : (a b : Bool) → P n ≡ a → G n ≡ b
        → total n (λ f. weigh (P f || G f) (r f)) ≡ total n (λ f. weigh (P f) (r f)) + total n (λ f. weigh (G f) (r f))
        → total n (λ f. weigh (P f || G f) (r f)) + weigh (P n || G n) (r n)
        ≡ total n (λ f. weigh (P f) (r f)) + weigh (P n) (r n) + (total n (λ f. weigh (G f) (r f)) + weigh (G n) (r n))
    go true true e d k = absurd (true≢false (sym d ∙ h n e))
    go true false e d k = rw (e, d) (omega arith)
    go false true e d k = rw (e, d) (omega arith)
    go false false e d k = rw (e, d) (omega arith)

pub total_subset : (n : ℕ) (P G : ℕ → Bool) (r : ℕ → ℕ) → ((f : ℕ) → P f ≡ true → G f ≡ true)
    → total n (λ f. weigh (P f) (r f)) ≤ total n (λ f. weigh (G f) (r f))
total_subset n P G r h = total_mono n (λ f. weigh (P f) (r f)) (λ f. weigh (G f) (r f)) (λ f l. go f (P f) refl)
  where
    go : (f : ℕ) (a : Bool) → P f ≡ a → weigh (P f) (r f) ≤ weigh (G f) (r f)
    go f true e = rw (e, h f e) (omega arith)
    go f false e = rw e (omega arith)

pub total_zero : (n : ℕ) (h : ℕ → ℕ) → ((f : ℕ) → f < n → h f ≡ 0) → total n h ≡ 0
unfolding total
total_zero zero h k = refl
total_zero (suc n) h k = omega (arith, total_zero n h (λ f l. k f (omega arith)), k n (omega arith))

pub total_same : (n : ℕ) (g h : ℕ → ℕ) → ((f : ℕ) → f < n → g f ≡ h f) → total n g ≡ total n h
unfolding total
total_same zero g h k = refl
total_same (suc n) g h k = omega (arith, total_same n g h (λ f l. k f (omega arith)), k n (omega arith))

pub total_swap : (n m : ℕ) (h : ℕ → ℕ → ℕ) → total n (λ f. total m (h f)) ≡ total m (λ k. total n (λ f. h f k))
unfolding total
total_swap zero m h = sym (total_zero m (λ k. 0) (λ k l. refl))
total_swap (suc n) m h = omega (arith, total_swap n m h, total_add m (λ k. total n (λ f. h f k)) (h n))

-- one number is counted once
pub total_pick : (m y x : ℕ) → y < m → total m (λ k. weigh (eqb k y) x) ≡ x
unfolding total
total_pick zero y x h = absurd (omega arith)
total_pick (suc m) y x h = go (le_or_lt m y) (total_pick m y x)
  where
    other : (k : ℕ) → k < y ⊎ y < k → weigh (eqb k y) x ≡ 0
    other k l = rw (not_passed (eqb k y) (λ e. turn l (eqb-true k y e)))
      where
        turn : k < y ⊎ y < k → k ≡ y → ⊥
        turn (inl l) e = omega arith
        turn (inr l) e = omega arith

    go : (m ≤ y) ⊎ (y < m) → (y < m → total m (λ k. weigh (eqb k y) x) ≡ x) → total m (λ k. weigh (eqb k y) x) + weigh (eqb m y) x ≡ x
    go (inl l) r =
        let e : m ≡ y = omega arith in
        let z = total_zero m (λ k. weigh (eqb k y) x) (λ k b. other k (inl (omega arith))) in
        rw (eq-eqb m y e) (omega (arith, z))
    go (inr l) r = omega (arith, r l, other m (inr l))

-- the first summand apart
pub total_front : (n : ℕ) (g : ℕ → ℕ) → total (suc n) g ≡ g 0 + total n (λ k. g (suc k))
unfolding total
total_front zero g = omega arith
total_front (suc n) g = omega (arith, total_front n g)

-- each summand at most x
pub total_most : (n x : ℕ) (g : ℕ → ℕ) → ((k : ℕ) → k < n → g k ≤ x) → total n g ≤ n * x
unfolding total
total_most zero x g h = omega arith
total_most (suc n) x g h = omega (arith, total_most n x g (λ k l. h k (omega arith)), h n (omega arith))

pub total_le : (n : ℕ) (g : ℕ → ℕ) → ((k : ℕ) → k < n → g k ≤ 1) → total n g ≤ n
unfolding total
total_le zero g h = omega arith
total_le (suc n) g h = omega (arith, total_le n g (λ k l. h k (omega arith)), h n (omega arith))

-- at most one passes
pub total_one : (n : ℕ) (P : ℕ → Bool) → ((i h : ℕ) → i < n → h < n → P i ≡ true → P h ≡ true → i ≡ h) → total n (λ i. weigh (P i) 1) ≤ 1
unfolding total
total_one zero P u = omega arith
total_one (suc n) P u = go (P n) refl (total_one n P (λ i h a b. u i h (omega arith) (omega arith)))
  where
    go : (b : Bool) → P n ≡ b → total n (λ i. weigh (P i) 1) ≤ 1 → total n (λ i. weigh (P i) 1) + weigh (P n) 1 ≤ 1
    go false e r = rw e (omega arith)
    go true e r =
        let z = total_zero n (λ i. weigh (P i) 1) (λ i l. rw (not_passed (P i) (λ k. let d = u i n (omega arith) (omega arith) k e in omega arith))) in
        rw e (omega (arith, z))

-- a sum over a set, by the value of a key
pub total_by_key : (n m : ℕ) (P : ℕ → Bool) (key r : ℕ → ℕ) → ((f : ℕ) → f < n → P f ≡ true → key f < m)
    → total n (λ f. weigh (P f) (r f)) ≡ total m (λ k. total n (λ f. weigh (P f && eqb k (key f)) (r f)))
total_by_key n m P key r small =
    total_same n (λ f. weigh (P f) (r f)) (λ f. total m (λ k. weigh (P f && eqb k (key f)) (r f))) (λ f l. each f (P f) refl (small f l))
    ∙ total_swap n m (λ f k. weigh (P f && eqb k (key f)) (r f))
  where
    each : (f : ℕ) (b : Bool) → P f ≡ b → (P f ≡ true → key f < m) → weigh (P f) (r f) ≡ total m (λ k. weigh (P f && eqb k (key f)) (r f))
    each f true e h = rw e (sym (total_pick m (key f) (r f) (h e)))
    each f false e h = rw e (sym (total_zero m (λ k. 0) (λ k l. refl)))

pub any_at : (n f : ℕ) (p : ℕ → Bool) → f < n → p f ≡ true → any n p ≡ true
unfolding any
any_at zero f p h e = absurd (omega arith)
any_at (suc n) f p h e = go (le_or_lt n f) (any_at n f p)
  where
    go : (n ≤ f) ⊎ (f < n) → (f < n → p f ≡ true → any n p ≡ true) → (any n p || p n) ≡ true
    go (inl k) r = let d : n ≡ f = omega arith in or_right (any n p) (p n) (rw d e)
    go (inr k) r = or_left (any n p) (p n) (r k e)

pub any_found : (n : ℕ) (p : ℕ → Bool) → any n p ≡ true → (f : ℕ) × (f < n) × (p f ≡ true)
unfolding any
any_found zero p h = absurd (false≢true h)
any_found (suc n) p h = go (or_cases (any n p) (p n) h) (any_found n p)
  where
    go : (any n p ≡ true) ⊎ (p n ≡ true) → (any n p ≡ true → (f : ℕ) × (f < n) × (p f ≡ true)) → (f : ℕ) × (f < suc n) × (p f ≡ true)
    go (inl k) r = let x = r k in (x.0, omega (arith, x.1), x.2)
    go (inr k) r = (n, omega arith, k)

pub none_of : (n : ℕ) (p : ℕ → Bool) → any n p ≡ false → (f : ℕ) → f < n → p f ≡ false
none_of n p h f k = not_passed (p f) (λ e. true≢false (sym (any_at n f p k e) ∙ h))

pub none_passes : (n : ℕ) (p : ℕ → Bool) → ((f : ℕ) → f < n → p f ≡ false) → any n p ≡ false
none_passes n p h = not_passed (any n p) (λ e. let x = any_found n p e in true≢false (sym x.2 ∙ h x.0 x.1))

-- a sum of numbers that are all above 0 where the test passes is above 0 exactly if one passes
pub some_weight : (n : ℕ) (P : ℕ → Bool) (r : ℕ → ℕ) → ((f : ℕ) → f < n → P f ≡ true → 0 < r f) → any n P ≡ true → 0 < total n (λ f. weigh (P f) (r f))
some_weight n P r h e =
    let x = any_found n P e in
    let t : weigh (P x.0) (r x.0) ≤ total n (λ f. weigh (P f) (r f)) = total_at n x.0 (λ f. weigh (P f) (r f)) x.1 in
    let l : weigh (P x.0) (r x.0) ≡ r x.0 = rw x.2 in
    omega (arith, t, l, h x.0 x.1 x.2)

pub no_weight : (n : ℕ) (P : ℕ → Bool) (r : ℕ → ℕ) → any n P ≡ false → total n (λ f. weigh (P f) (r f)) ≡ 0
no_weight n P r e = total_zero n (λ f. weigh (P f) (r f)) (λ f l. rw (none_of n P e f l))

pub weigh_most : (b : Bool) (x : ℕ) → weigh b x ≤ x
weigh_most true x = omega arith
weigh_most false x = omega arith
