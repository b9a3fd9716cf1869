-- What a run that keeps the premises guarantees piece by piece: no server, one server, two stretches in series; and the bucket of a set of flows.
-- Assumes nothing.
use Rattle.std.specs.Prelude.{◌≡◌, false, ◌||◌, ◌⊎◌}
use Rattle.std.proofs.Math.Path.{sym, ap, subst}
use Rattle.std.proofs.Common.{◌∙◌, inl, inr, arith, add-suc, add_assoc}
use Rattle.std.proofs.Math.Bool.{Bool, true}
use mathlib.Core.List.{List}
use Prim.Native.Nat.{ℕ, zero, suc, ◌+◌, ◌*◌, ◌-◌, ◌≤◌, ◌<◌}
use Rattle.std.proofs.Math.Nat.{add-zero}
use Rattle.std.proofs.Math.ListN.{length}
use Rattle.curves.specs.Slots.{serve}
use Rattle.curves.specs.Curve.{Shape, Under, neutral, joined}
use Rattle.curves.specs.Curve.{server as serverShape}
use Rattle.ground.proofs.OrderLaws.{le_or_lt}
use Rattle.tandem.specs.Tandem.{Tandem, Path, size, server, flow, crosses, on, bursts, rates}
use Rattle.tree.specs.Stretch.{Stretch, span}
use Rattle.tree.specs.Fits.{Fits}
use Rattle.tandem.proofs.SumLaws.{total_or}
use Rattle.tandem.proofs.TandemLaws.{on_is}
use Rattle.tree.proofs.StretchLaws.{spans}
use Rattle.ground.specs.Each.{Each}
use Rattle.ground.proofs.EachLaws.{each_map}
use Rattle.runs.specs.Lines.{keep, by, Prefix}
use Rattle.runs.specs.Run.{Run, Keeps, Bucketed}
use Rattle.runs.specs.Served.{Serves, past, among, come, gone, Good}
use Rattle.runs.proofs.LinesLaws.{keep_keep, keep_all, by_each, by_same, each_prefix}
use Rattle.runs.proofs.LinesLaws.{prefix_refl, prefix_trans}
use Rattle.runs.proofs.BucketLaws.{sum_bucket}
use Rattle.runs.proofs.LeftoverLaws.{series, serves_neutral}

-- flows that cross every server of a stretch, and the next one
pub reach : (row : Tandem) (P : ℕ → Bool) (i : ℕ) (p : Stretch) → Fits row P i p
    → ((f : ℕ) → P f ≡ true → crosses row f (i + span p) ≡ true)
    → (f : ℕ) → P f ≡ true → (m : ℕ) → m ≤ span p → crosses row f (i + m) ≡ true
reach row P i p h n f e m l = go (le_or_lt (span p) m)
  where
    go : (span p ≤ m) ⊎ (m < span p) → crosses row f (i + m) ≡ true
    go (inl k) = let d : m ≡ span p = omega arith in rw d (n f e)
    go (inr k) = spans row P i p h f e m k

-- the flows of G are the row's and enter at server i
abbrev pub Enters : Tandem → (ℕ → Bool) → ℕ → Type 0
Enters row G i = (f : ℕ) → G f ≡ true → (f < length row.flows) × ((flow row f).first ≡ i)

pub on_enters : (row : Tandem) (g : Path) (i : ℕ) → g.first ≡ i → Enters row (on row g) i
on_enters row g i e f h = let r = on_is row g f h in (r.1, r.2 ∙ e)

-- no flow of P is in G
abbrev pub Apart : (ℕ → Bool) → (ℕ → Bool) → Type 0
Apart P G = (f : ℕ) → P f ≡ true → G f ≡ false

pub rates_or : (row : Tandem) (P G : ℕ → Bool) → Apart P G → rates row (λ f. P f || G f) ≡ rates row P + rates row G
unfolding rates
rates_or row P G h = total_or (length row.flows) P G (λ f. (flow row f).rate) h

-- the curve of server j
abbrev pub server_curve : Tandem → ℕ → Shape
server_curve row j = serverShape (server row j).rate (server row j).latency

module _ (row : Tandem) {B : Type 0} (run : Run B) where
  past_add : (i m n : ℕ) → 0 < n → past run i (m + n) ≡ past run (i + m) n
  unfolding past
  past_add i m zero h = absurd (omega arith)
  past_add i m (suc n) h = ap (past run i) (add-suc m n) ∙ ap run.leave (sym (add_assoc i m n))

  past_one : (i : ℕ) → past run i 1 ≡ run.leave i
  unfolding past
  past_one i = ap run.leave (add-zero i)

  gone_add : (P : ℕ → Bool) (i m n t : ℕ) → 0 < n → gone run P i (m + n) t ≡ gone run P (i + m) n t
  unfolding gone
  gone_add P i m n t h = rw (past_add i m n h)

  module _ (H : ℕ) (keeps : Keeps row run H) where
    -- what has passed n servers is what joins the next, as far as flows go that cross them all
    pub meet : (P : ℕ → Bool) (i n : ℕ) → 0 < i → i + n ≤ size row
        → ((f : ℕ) → P f ≡ true → (m : ℕ) → m ≤ n → crosses row f (i + m) ≡ true)
        → (t : ℕ) → t ≤ H → gone run P i n t ≡ come run P (i + n) t
    unfolding past come gone
    meet P i zero hi hn c t ht = rw add-zero
    meet P i (suc n) hi hn c t ht = rw (add-suc i n) (by_same (among run P) (run.leave (i + n)) (run.join (suc (i + n))) H step t ht)
      where
        here : (b : B) → among run P b ≡ true → crosses row (run.of b) (i + n) ≡ true
        here b e = c (run.of b) e n (omega arith)

        next : (b : B) → among run P b ≡ true → crosses row (run.of b) (suc (i + n)) ≡ true
        next b e = rw add-suc at (c (run.of b) e (suc n) (omega arith))

        step : (t : ℕ) → 0 < t → t ≤ H → keep (among run P) (run.leave (i + n) t) ≡ keep (among run P) (run.join (suc (i + n)) t)
        step t h k =
            sym (keep_keep (among run P) (λ b. crosses row (run.of b) (suc (i + n))) next (run.leave (i + n) t))
            ∙ ap (keep (among run P)) (sym (keeps.relay (i + n) t (omega arith) (omega arith) h k))
            ∙ keep_keep (among run P) (λ b. crosses row (run.of b) (i + n)) here (run.join (suc (i + n)) t)

    pub good_none : (P : ℕ → Bool) (i : ℕ) → Good run H P i 0 neutral
    unfolding past come gone neutral
    good_none P i = record { lines = λ t h. prefix_refl _; serves = serves_neutral H (λ t. length (come run P i t)) }

    -- two in series
    pub good_series : (P : ℕ → Bool) (i m n : ℕ) (c d : Shape) → 0 < n
        → ((t : ℕ) → t ≤ H → gone run P i m t ≡ come run P (i + m) t)
        → Good run H P i m c → Good run H P (i + m) n d → Good run H P i (m + n) (joined c d)
    unfolding joined
    good_series P i m n c d hn same x y = record { lines = lines; serves = serves }
      where
        lines : (t : ℕ) → t ≤ H → Prefix (gone run P i (m + n) t) (come run P i t)
        lines t h =
            rw (gone_add P i m n t hn)
            (prefix_trans (y.lines t h) (subst (λ (l : List B). Prefix l (come run P i t)) (same t h) (x.lines t h)))

        serves : Serves H (joined c d) (λ t. length (come run P i t)) (λ t. length (gone run P i (m + n) t))
        serves t h =
            rw (gone_add P i m n t hn)
            (series H c d (λ t. length (come run P i t)) (λ t. length (gone run P i m t)) (λ t. length (come run P (i + m) t))
            (λ t. length (gone run P (i + m) n t)) (λ t k. ap length (same t k)) x.serves y.serves t h)

    -- one server, which every flow that crosses it crosses whole
    pub good_server : (P : ℕ → Bool) (j : ℕ) → 0 < j → j ≤ size row → ((f : ℕ) → crosses row f j ≡ P f) → Good run H P j 1 (server_curve row j)
    unfolding come gone serverShape serve
    good_server P j hj hn e = record { lines = lines; serves = serves }
      where
        all_in : (t : ℕ) → t ≤ H → Each (λ b. among run P b ≡ true) (by (run.join j) t)
        all_in =
            by_each (λ b. among run P b ≡ true) (run.join j) H
            (λ t h k. each_map (λ b. crosses row (run.of b) j ≡ true) (λ b. among run P b ≡ true) (run.join j t)
            (λ b x. sym (e (run.of b)) ∙ x) (keeps.paths j t hj hn h k))

        came : (t : ℕ) → t ≤ H → come run P j t ≡ by (run.join j) t
        came t h = keep_all (among run P) (by (run.join j) t) (all_in t h)

        left : (t : ℕ) → t ≤ H → gone run P j 1 t ≡ by (run.leave j) t
        left t h =
            rw (past_one j)
            (keep_all (among run P) (by (run.leave j) t) (each_prefix (λ b. among run P b ≡ true) (keeps.order j t hj hn h) (all_in t h)))

        lines : (t : ℕ) → t ≤ H → Prefix (gone run P j 1 t) (come run P j t)
        lines t h = rw (left t h, came t h) (keeps.order j t hj hn h)

        serves : Serves H (server_curve row j) (λ t. length (come run P j t)) (λ t. length (gone run P j 1 t))
        serves t h =
            let g = keeps.serves j t hj hn h in
            (g.0, g.1, λ v k. step g.0 v g.1 g.2 k)
          where
            step : (s v : ℕ) → s ≤ t → length (by (run.join j) s) + (server row j).rate * (t - s - (server row j).latency) ≤ length (by (run.leave j) t)
                → Under (server_curve row j) (t - s) v → length (come run P j s) + v ≤ length (gone run P j 1 t)
            step s v hs k (inl z) = omega (arith, ap length (came s (omega arith)), ap length (left t h))
            step s v hs k (inr z) = omega (arith, ap length (came s (omega arith)), ap length (left t h), z.1.0)

    -- flows that enter at server i keep the sum of their buckets there
    pub set_bucket : (G : ℕ → Bool) (i : ℕ) → Enters row G i → Bucketed H (among run G) (run.join i) (bursts row G) (rates row G)
    unfolding bursts rates
    set_bucket G i h =
        sum_bucket run.of H (length row.flows) G (λ f. (flow row f).burst) (λ f. (flow row f).rate) (run.join i) (λ f e. (h f e).0)
        (λ f e. rw (h f e).1 at (keeps.buckets f (h f e).0))
