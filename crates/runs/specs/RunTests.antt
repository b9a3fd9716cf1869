-- The premises as tests of a record whose bytes are numbers: an explicit record is seen to keep them by computation.
-- Assumes nothing.
use Rattle.std.specs.Prelude.{ℕ, zero, suc, ◌+◌, ◌-◌, Bool, true, false, ◌&&◌, ◌||◌, List, [], ◌∷◌, leb, eqb, length}
use Rattle.curves.specs.Slots.{bucket, serve}
use Rattle.tandem.specs.Sums.{any}
use Rattle.tandem.specs.Tandem.{Tandem, size, server, flow, crosses}
use Rattle.runs.specs.Lines.{keep}
use Rattle.runs.specs.Run.{Run, joined_by, left_by, of_flow}

-- each of 0 .. n - 1 passes
unfoldable pub each : ℕ → (ℕ → Bool) → Bool
each zero p = true
each (suc n) p = each n p && p n

-- each number of a list passes
unfoldable pub each_of : (ℕ → Bool) → List ℕ → Bool
each_of p [] = true
each_of p (x ∷ xs) = p x && each_of p xs

-- m begins with l
unfoldable pub begins : List ℕ → List ℕ → Bool
begins [] m = true
begins (x ∷ l) [] = false
begins (x ∷ l) (y ∷ m) = eqb x y && begins l m

-- l and m are one list
unfoldable pub same : List ℕ → List ℕ → Bool
same [] [] = true
same [] (y ∷ m) = false
same (x ∷ l) [] = false
same (x ∷ l) (y ∷ m) = eqb x y && same l m

-- x stands in the list
unfoldable pub has : ℕ → List ℕ → Bool
has x [] = false
has x (y ∷ l) = eqb x y || has x l

-- the premises, one by one

unfoldable pub on_path : Tandem → Run ℕ → ℕ → Bool
on_path row run H = each (size row) (λ j. each H (λ t. each_of (λ b. crosses row (run.of b) (suc j)) (run.join (suc j) (suc t))))

unfoldable pub in_order : Tandem → Run ℕ → ℕ → Bool
in_order row run H = each (size row) (λ j. each (suc H) (λ t. begins (left_by run (suc j) t) (joined_by run (suc j) t)))

unfoldable pub relayed : Tandem → Run ℕ → ℕ → Bool
relayed row run H =
    each (size row - 1)
    (λ j. each H
    (λ t. same (keep (λ b. crosses row (run.of b) (suc j)) (run.join (suc (suc j)) (suc t)))
    (keep (λ b. crosses row (run.of b) (suc (suc j))) (run.leave (suc j) (suc t)))))

abbrev pub count : Run ℕ → ℕ → ℕ → ℕ → ℕ
count run f j t = length (keep (of_flow run f) (joined_by run j t))

unfoldable pub keeps_buckets : Tandem → Run ℕ → ℕ → Bool
keeps_buckets row run H =
    each (length row.flows)
    (λ f. each (suc H)
    (λ a. each (suc H)
    (λ b. leb (count run f (flow row f).first b) (count run f (flow row f).first a + bucket (flow row f).burst (flow row f).rate (b - a)))))

unfoldable pub guarantees : Tandem → Run ℕ → ℕ → Bool
guarantees row run H =
    each (size row)
    (λ j. each (suc H)
    (λ t. any (suc t)
    (λ s. leb (length (joined_by run (suc j) s) + serve (server row (suc j)).rate (server row (suc j)).latency (t - s)) (length (left_by run (suc j) t)))))

-- all of them
unfoldable pub keeps_all : Tandem → Run ℕ → ℕ → Bool
keeps_all row run H = on_path row run H && (in_order row run H && (relayed row run H && (keeps_buckets row run H && guarantees row run H)))
