-- What a stretch guarantees at each slot, as a function of slots: convolutions of what its servers guarantee and of what its groups leave
-- (document 01, "Curves" and "Groups, tree and grid").
-- Assumes nothing.
use Rattle.std.specs.Prelude.{ℕ}
use Rattle.curves.specs.Slots.{serve, conv, left}
use Rattle.tandem.specs.Tandem.{Tandem, server, on, bursts, rates}
use Rattle.tree.specs.Stretch.{Stretch, none, then_server, then_group, group_wait, curve}

-- f is the stretch's function: one piece more, with the function g, stands behind it in series, or alone where there is nothing before it
abbrev pub behind : Stretch → (ℕ → ℕ) → (ℕ → ℕ) → ℕ → ℕ
behind none f g = g
behind (then_server p j) f g = conv f g
behind (then_group p k h q) f g = conv f g

-- "A server (R, T) guarantees β(t)"; "Joining two curves in series is the min-plus convolution"; "What is left after a cross group (σ, ρ)
-- with wait θ"; a stretch without pieces guarantees nothing
unfoldable pub meaning : Tandem → (ℕ → ℕ) → Stretch → ℕ → ℕ
meaning row extra none = λ t. 0
meaning row extra (then_server p j) = behind p (meaning row extra p) (serve (server row j).rate (server row j).latency)
meaning row extra (then_group p k g q) =
    behind p (meaning row extra p)
    (left (meaning row extra q) (bursts row (on row g)) (rates row (on row g)) (group_wait row g (curve row extra q) (extra k)))
