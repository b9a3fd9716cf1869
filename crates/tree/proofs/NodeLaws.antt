-- The nodes of a plan from node k on: each is worked out of those behind it, piece by piece along its path.
-- Assumes nothing.
use Rattle.std.specs.Prelude.{◌≡◌, refl, List, [], ◌∷◌, ℕ, zero, suc, ◌-◌, ◌≤◌, ◌<◌, length, take, drop, get_or}
use Rattle.std.proofs.Common.{ap, arith, lt-ltb, le-ltb, drop-cons, get_or-take}
use Rattle.std.proofs.Math.Seq.{drop-nil}
use Rattle.tandem.specs.Tandem.{no_flow}
use Rattle.curves.specs.Curve.{Shape, joined}
use Rattle.tandem.specs.declared.Server.{Server}
use Rattle.tandem.specs.declared.Flow.{Flow}
use Rattle.tree.specs.Plan.{Node, Top, alone, over, server_curve, along, node_curve, node_of, head_of, tail_of, plan}
use Rattle.tree.specs.Fine.{Fine, AllFine}

-- the nodes from k on, and the curve and the node of k
abbrev pub plan_from : List Server → List Flow → List ℕ → ℕ → List Node
plan_from ss gs xs k = plan ss (drop k gs) (drop k xs)

abbrev pub curve_at : List Server → List Flow → List ℕ → ℕ → Shape
curve_at ss gs xs k = node_curve ss (get_or gs k no_flow) (drop (suc k) gs) (plan_from ss gs xs (suc k))

abbrev pub node_at : List Server → List Flow → List ℕ → ℕ → Node
node_at ss gs xs k = node_of (curve_at ss gs xs k) (get_or gs k no_flow) (get_or xs k 0)

head_drop : (xs : List ℕ) (k : ℕ) → head_of (drop k xs) ≡ get_or xs k 0
head_drop [] zero = refl
head_drop [] (suc k) = refl
head_drop (x ∷ xs) zero = refl
head_drop (x ∷ xs) (suc k) = head_drop xs k

tail_drop : (xs : List ℕ) (k : ℕ) → tail_of (drop k xs) ≡ drop (suc k) xs
tail_drop [] zero = refl
tail_drop [] (suc k) = refl
tail_drop (x ∷ xs) zero = refl
tail_drop (x ∷ xs) (suc k) = tail_drop xs k

pub plan_length : (ss : List Server) (gs : List Flow) (xs : List ℕ) → length (plan ss gs xs) ≡ length gs
unfolding plan
plan_length ss [] xs = refl
plan_length ss (g ∷ gs) xs = ap suc (plan_length ss gs (tail_of xs))

fine_drop : (ss : List Server) (gs : List Flow) (xs : List ℕ) (k : ℕ) → AllFine (plan ss gs xs) gs
    → AllFine (plan ss (drop k gs) (drop k xs)) (drop k gs)
unfolding plan
fine_drop ss gs xs zero h = h
fine_drop ss [] xs (suc k) h = tt
fine_drop ss (g ∷ gs) [] (suc k) h = rw (drop-nil {A = ℕ} k) at (fine_drop ss gs [] k h.1)
fine_drop ss (g ∷ gs) (x ∷ xs) (suc k) h = fine_drop ss gs xs k h.1

-- the extra of node k, whose number the code counts from 0 behind the watched flow
pub extra_at : (n : ℕ) (es : List ℕ) (k : ℕ) → 0 < k → k ≤ n → get_or (0 ∷ take n es) k 0 ≡ get_or es (k - 1) 0
extra_at n es zero p q = absurd (omega arith)
extra_at n es (suc i) p q = let b : suc i - 1 ≡ i = omega arith in rw b (get_or-take n es i 0 (omega arith))

module _ (ss : List Server) (gs : List Flow) (xs : List ℕ) where
  pub plan_at : (k : ℕ) → k < length gs → plan_from ss gs xs k ≡ node_at ss gs xs k ∷ plan_from ss gs xs (suc k)
  unfolding plan
  plan_at k p = rw (drop-cons gs k no_flow p, head_drop, tail_drop)

  pub fine_at : (k : ℕ) → k < length gs → AllFine (plan ss gs xs) gs → Fine (node_at ss gs xs k) (get_or gs k no_flow)
  unfolding plan
  fine_at k p h = (rw (drop-cons gs k no_flow p, head_drop, tail_drop) at (fine_drop ss gs xs k h)).0

-- a walk along a path, by what begins at server j

pub along_alone : (ss : List Server) (top : ℕ → Top) (n : ℕ) (c : Shape) (j e : ℕ) → j ≤ e → top j ≡ alone
    → along ss top (suc n) c j e ≡ along ss top n (joined c (server_curve ss j)) (suc j) e
unfolding along
along_alone ss top n c j e h t = rw (le-ltb e j h, t)

pub along_over : (ss : List Server) (top : ℕ → Top) (n : ℕ) (c d : Shape) (j l e : ℕ) → j ≤ e → top j ≡ over d l
    → along ss top (suc n) c j e ≡ along ss top n (joined c d) (suc l) e
unfolding along
along_over ss top n c d j l e h t = rw (le-ltb e j h, t)

pub along_end : (ss : List Server) (top : ℕ → Top) (n : ℕ) (c : Shape) (j e : ℕ) → e < j → along ss top n c j e ≡ c
unfolding along
along_end ss top zero c j e h = refl
along_end ss top (suc n) c j e h = rw (lt-ltb e j h)
