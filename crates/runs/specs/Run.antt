-- THE MODEL: a recorded run on a row, and what demand 3 asks of it (document 01, "The row being judged" and "Curves").
-- "Time is whole slots, data whole bytes." A record has H slots. For each server it has the bytes that join the server's line in each
-- slot and the bytes that leave it in each slot, both in order. The order is of bytes in a line, not of slots: among the bytes of one slot,
-- too, the one that stands before another leaves before it.
-- Assumes nothing.
use Rattle.std.specs.Prelude.{ℕ, suc, ◌+◌, ◌-◌, ◌≤◌, ◌<◌, ◌≡◌, Bool, true, List, eqb, length}
use Rattle.curves.specs.Slots.{bucket, serve}
use Rattle.tandem.specs.Tandem.{Tandem, size, server, flow, crosses}
use Rattle.ground.specs.Each.{Each}
use Rattle.runs.specs.Lines.{keep, by, Prefix}

-- a record: of each byte its flow, where flow 0 is the watched one; the bytes that join the line of server j in slot t; and those that leave it
pub record Run (B : Type 0) : Type 0 where
  pub of : B → ℕ
  pub join : ℕ → ℕ → List B
  pub leave : ℕ → ℕ → List B

-- all bytes that joined server j by slot t, and all that left it by slot t, in order
abbrev pub joined_by : {B : Type 0} → Run B → ℕ → ℕ → List B
joined_by run j t = by (run.join j) t

abbrev pub left_by : {B : Type 0} → Run B → ℕ → ℕ → List B
left_by run j t = by (run.leave j) t

-- the byte is of flow f
abbrev pub of_flow : {B : Type 0} → Run B → ℕ → B → Bool
of_flow run f b = eqb f (run.of b)

-- the bytes of a line that pass a test keep to the bucket (σ, ρ) up to the end of slot H: in slots a + 1 to b there are at most as many of
-- them as "A token bucket (σ, ρ) allows" over b − a slots
abbrev pub Bucketed : {B : Type 0} → ℕ → (B → Bool) → (ℕ → List B) → ℕ → ℕ → Type 0
Bucketed H p line σ ρ = (a b : ℕ) → a ≤ b → b ≤ H → length (keep p (by line b)) ≤ length (keep p (by line a)) + bucket σ ρ (b - a)

-- THE PREMISES, for every server j of the row and every slot t of the record

-- only bytes of flows that cross server j join its line: "A cross flow enters at its first server and leaves after its last."
abbrev pub OnPath : Tandem → {B : Type 0} → Run B → ℕ → Type 0
OnPath row run H = (j t : ℕ) → 0 < j → j ≤ size row → 0 < t → t ≤ H → Each (λ b. crosses row (run.of b) j ≡ true) (run.join j t)

-- "No byte leaves a server before it has joined it", and "The order is of bytes in a line": all that has left server j by slot t is the front
-- of all that has joined it by slot t
abbrev pub InOrder : Tandem → {B : Type 0} → Run B → ℕ → Type 0
InOrder row run H = (j t : ℕ) → 0 < j → j ≤ size row → t ≤ H → Prefix (left_by run j t) (joined_by run j t)

-- the bytes that go on from server j join the next server in the same slot and in the same order. "Fresh bytes may join anywhere among those of
-- their slot": of the bytes that join server j + 1 in slot t, those whose flow crosses server j too are, in order, those that leave server j in
-- slot t and whose flow crosses server j + 1 too
abbrev pub Relayed : Tandem → {B : Type 0} → Run B → ℕ → Type 0
Relayed row run H =
    (j t : ℕ) → 0 < j → j < size row → 0 < t → t ≤ H
    → keep (λ b. crosses row (run.of b) j) (run.join (suc j) t) ≡ keep (λ b. crosses row (run.of b) (suc j)) (run.leave j t)

-- every flow keeps to its token bucket where it enters, at its first server
abbrev pub KeepsBuckets : Tandem → {B : Type 0} → Run B → ℕ → Type 0
KeepsBuckets row run H =
    (f : ℕ) → f < length row.flows → Bucketed H (of_flow run f) (run.join (flow row f).first) (flow row f).burst (flow row f).rate

-- "for every t there is some s ≤ t such that all bytes that left by slot t number at least those that arrived by slot s, plus β(t − s)": all bytes
-- at the server together
abbrev pub Guarantees : Tandem → {B : Type 0} → Run B → ℕ → Type 0
Guarantees row run H =
    (j t : ℕ) → 0 < j → j ≤ size row → t ≤ H
    → (s : ℕ) × (s ≤ t) × (length (joined_by run j s) + serve (server row j).rate (server row j).latency (t - s) ≤ length (left_by run j t))

-- the run keeps the premises up to the end of slot H. That every line starts empty is in the definition of "by slot t" (`by` of Lines.antt).
pub record Keeps (row : Tandem) {B : Type 0} (run : Run B) (H : ℕ) : Type 0 where
  pub paths : OnPath row run H
  pub order : InOrder row run H
  pub relay : Relayed row run H
  pub buckets : KeepsBuckets row run H
  pub serves : Guarantees row run H
