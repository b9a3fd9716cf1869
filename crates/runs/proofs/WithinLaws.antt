-- Laws of a watched flow's delay between two servers: each byte is out, the bytes are out in the order in which they joined, and delays of
-- consecutive stretches add up.
-- Assumes nothing.
use Rattle.std.specs.Prelude.{◌≡◌, Bool, true, ℕ, zero, suc, ◌+◌, ◌≤◌, ◌<◌, length, get_or}
use Rattle.std.proofs.Common.{sym, ap, ◌∙◌, arith, eqb-true, eq-eqb}
use mathlib.Core.List.{Memᴰ}
use Rattle.std.proofs.Math.ListN.{get_or-append}
use Rattle.tandem.specs.Tandem.{Tandem, size, crosses}
use Rattle.tandem.specs.Sound.{Sound}
use Rattle.tandem.proofs.TandemLaws.{is_crosses}
use Rattle.runs.specs.Lines.{keep, Prefix}
use Rattle.runs.specs.Run.{Run, Keeps, joined_by, left_by, of_flow}
use Rattle.runs.specs.Demand.{Within}
use Rattle.runs.proofs.LinesLaws.{keep_keep, prefix_keep, prefix_trans, prefix_mem, by_same, mem_keep, mem_of_keep}

-- each watched byte that joined server a by slot t has left server e by slot t + d
pub within_out : {B : Type 0} (run : Run B) (H a e d : ℕ) → Within run H a e d → (t : ℕ) → t + d ≤ H → (x : B) → run.of x ≡ 0
    → Memᴰ x (joined_by run a t) → Memᴰ x (left_by run e (t + d))
within_out run H a e d w t h x z m =
    mem_of_keep (of_flow run 0) x (left_by run e (t + d))
    (prefix_mem x (w t h) (mem_keep (of_flow run 0) x (joined_by run a t) (eq-eqb 0 (run.of x) (sym z)) m))

-- and byte for byte, in order: the watched byte that was the k-th to join server a by slot t is the k-th to leave server e, counted from 0
pub within_each : {B : Type 0} (run : Run B) (H a e d : ℕ) → Within run H a e d → (t : ℕ) → t + d ≤ H → (k : ℕ) (none : B)
    → k < length (keep (of_flow run 0) (joined_by run a t))
    → get_or (keep (of_flow run 0) (left_by run e (t + d))) k none ≡ get_or (keep (of_flow run 0) (joined_by run a t)) k none
within_each run H a e d w t h k none l =
    let p = w t h in
    rw (← p.whole) (get_or-append (keep (of_flow run 0) (joined_by run a t)) p.rest none k l)

-- "The watched flow crosses all of them."
pub watched_crosses : (row : Tandem) → Sound row → (j : ℕ) → 0 < j → j ≤ size row → crosses row 0 j ≡ true
watched_crosses row sound j a b = is_crosses row 0 j sound.some (omega (arith, sound.enters)) (omega (arith, sound.leaves))

module _ (row : Tandem) {B : Type 0} (run : Run B) (H : ℕ) (keeps : Keeps row run H) where
  -- flows that cross server j and the next: what leaves the one joins the other
  pub handed : (p : B → Bool) (j : ℕ) → 0 < j → j < size row
      → ((b : B) → p b ≡ true → (crosses row (run.of b) j ≡ true) × (crosses row (run.of b) (suc j) ≡ true))
      → (t : ℕ) → t ≤ H → keep p (left_by run j t) ≡ keep p (joined_by run (suc j) t)
  handed p j hj hn c = by_same p (run.leave j) (run.join (suc j)) H step
    where
      step : (t : ℕ) → 0 < t → t ≤ H → keep p (run.leave j t) ≡ keep p (run.join (suc j) t)
      step t h k =
          sym (keep_keep p (λ b. crosses row (run.of b) (suc j)) (λ b e. (c b e).1) (run.leave j t))
          ∙ ap (keep p) (sym (keeps.relay j t hj (omega arith) h k))
          ∙ keep_keep p (λ b. crosses row (run.of b) j) (λ b e. (c b e).0) (run.join (suc j) t)

  module _ (sound : Sound row) where
    -- the watched bytes that leave a server are, in order, those that join the next
    pub watched_handed : (j : ℕ) → 0 < j → j < size row → (t : ℕ) → t ≤ H
        → keep (of_flow run 0) (left_by run j t) ≡ keep (of_flow run 0) (joined_by run (suc j) t)
    watched_handed j hj hn = handed (of_flow run 0) j hj hn both
      where
        both : (b : B) → of_flow run 0 b ≡ true → (crosses row (run.of b) j ≡ true) × (crosses row (run.of b) (suc j) ≡ true)
        both b k =
            let e = eqb-true 0 (run.of b) k in
            (rw e at (watched_crosses row sound j hj (omega arith)), rw e at (watched_crosses row sound (suc j) (omega arith) hn))

    -- one stretch after another, from server a to server e and on to server l: the delays add up
    pub within_series : (a e l c d : ℕ) → 0 < e → e < size row → Within run H a e c → Within run H (suc e) l d → Within run H a l (c + d)
    within_series a e l c d he hn x y t h =
        let r : t + (c + d) ≡ t + c + d = omega arith in
        rw r (prefix_trans (x t (omega arith)) (rw (watched_handed e he hn (t + c) (omega arith)) (y (t + c) (omega arith))))

    -- watched bytes leave each server in the order in which they entered the row, and none before it entered
    pub never_early : (j : ℕ) → j < size row → (t : ℕ) → t ≤ H
        → Prefix (keep (of_flow run 0) (left_by run (suc j) t)) (keep (of_flow run 0) (joined_by run 1 t))
    never_early zero hn t h = prefix_keep (of_flow run 0) (keeps.order 1 t (omega arith) hn h)
    never_early (suc j) hn t h =
        prefix_trans (prefix_keep (of_flow run 0) (keeps.order (suc (suc j)) t (omega arith) hn h))
        (rw (← (watched_handed (suc j) (omega arith) hn t h)) (never_early j (omega arith) t h))
