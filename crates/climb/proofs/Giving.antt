-- Whether stages give what is wanted of them: what is found of the parts of two lists side by side is what the definition says of a part of the
-- curve's stages.
-- Assumes nothing.
use mathlib.Core.Path.{◌≡◌, refl, sym, ap, ◌∙◌}
use mathlib.Core.Bool.{Bool, true, false, ◌&&◌, ◌||◌, not}
use mathlib.Core.List.{List, [], ◌∷◌}
use Prim.Native.Nat.{ℕ, suc, ◌+◌, ◌-◌, ◌≤◌, ◌<◌}
use native.Mathlib.Omega.{arith}
use lib.Dec.{leb}
use lib.ListN.{length, take, drop, get_or, length-take, length-drop}
use lib.Seq.{slice, take-take}
use Rattle.std.specs.List.{list_all, zip}
use Rattle.std.proofs.Common.{get_or-take, get_or-drop}
use Rattle.std.proofs.lemmas.Slice.{between_is}
use Rattle.curves.specs.declared.Stage.{Stage}
use Rattle.curves.specs.Curve.{line}
use Rattle.keys.specs.State.{gives}
use Rattle.climb.specs.Branch.{want_in}

-- the numbers ws are what is wanted of server j and of those behind it
module _ (rest : ℕ) where
  all_give : (wants : ℕ → ℕ) (j : ℕ) (l : List Stage) (ws : List ℕ) → length l ≤ length ws → ((i : ℕ) → i < length l → get_or ws i 0 ≡ wants (j + i))
      → list_all (λ p. leb p.1 (line rest p.0)) (zip l ws) ≡ gives wants rest j l
  unfolding gives
  all_give wants j [] ws h e = refl
  all_give wants j (s ∷ l) [] h e = absurd (omega arith)
  all_give wants j (s ∷ l) (w ∷ ws) h e =
      let here : w ≡ wants j = e 0 (omega arith) ∙ ap wants (omega arith) in
      rw (here, all_give wants (suc j) l ws (omega arith) (λ i p. e (suc i) (omega arith) ∙ ap wants (omega arith)))

-- an entry of a part is the list's
part_entry : (a b i : ℕ) (l : List ℕ) → i < length (take (b - a) (drop a l)) → get_or (take (b - a) (drop a l)) i 0 ≡ get_or l (a + i) 0
part_entry a b i l h = let short = length-take (b - a) (drop a l) in get_or-take (b - a) (drop a l) i 0 (omega arith) ∙ get_or-drop a l i 0

-- what is asked of the servers from place a up to before place b, of the first n, with x slots, which are `rest`
module _ (x rest : ℕ) (same : x ≡ rest) (wants : List ℕ) (n : ℕ) (l : List Stage) (full : length (take n l) ≡ n) where
  pub part_gives : (a b : ℕ) → b ≤ n → b ≤ length wants
      → list_all (λ p. leb p.1 (line x p.0)) (zip (take (b - a) (drop a l)) (take (b - a) (drop a wants))) ≡ gives (want_in wants) rest a (slice a b (take n l))
  part_gives a b p q =
      let stages : length (take (b - a) (drop a l)) ≡ b - a = omega (arith, length-take (b - a) (drop a l), length-drop a l, length-take n l, full) in
      let numbers : length (take (b - a) (drop a wants)) ≡ b - a = omega (arith, length-take (b - a) (drop a wants), length-drop a wants) in
      rw same
      (all_give rest (want_in wants) a _ _ (omega arith) (λ i h. part_entry a b i wants (omega arith))
      ∙ ap (λ (m : List Stage). gives (want_in wants) rest a m) (between_is l a b ∙ ap (drop a) (sym (take-take b n l p))))

  pub first_gives : (b : ℕ) → b ≤ n → b ≤ length wants
      → list_all (λ p. leb p.1 (line x p.0)) (zip (take b l) (take b wants)) ≡ gives (want_in wants) rest 0 (slice 0 b (take n l))
  first_gives b p q = let e : b - 0 ≡ b = omega arith in rw e at (part_gives 0 b p q)

  pub last_gives : (a : ℕ) → n ≤ length wants
      → list_all (λ p. leb p.1 (line x p.0)) (zip (take (n - a) (drop a l)) (take (n - a) (drop a wants))) ≡ gives (want_in wants) rest a (slice a (length (take n l)) (take n l))
  last_gives a q = rw full (part_gives a n (omega arith) q)

-- those of the servers before the path and behind it, by what is found of either
module _ (late b c p : Bool) (o : late ≡ false) (e : p ≡ b) where
  pub past_before : p ≡ false → not p ≡ (late || not (b && c))
  past_before h = rw (o, ← e, h)

  pub past_behind : (q : Bool) → q ≡ c → p ≡ true → not q ≡ (late || not (b && c))
  past_behind q f h = rw (o, ← e, ← f, h)
