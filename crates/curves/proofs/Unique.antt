-- Each public function leaves one possible result: two results that both meet its contract are equal.
-- Assumes nothing.
use Rattle.std.specs.Prelude.{◌≡◌, List, ℕ}
use Rattle.ground.proofs.ValueLaws.{one_value}
use Rattle.curves.specs.declared.Stage.{Stage}
use Rattle.curves.specs.declared.Curve.{Curve}
use Rattle.curves.specs.Contract.{Change, CatchUp, After, None, Join, Lag, Left, LeastWait, Remainder, Delay, Backlog}

pub change_unique : (T : Type 0) (gives : T → T → Type 0) (from to : ℕ) (before a b : List T) → Change gives from to before a → Change gives from to before b → a ≡ b
change_unique T gives from to before a b h k = one_value (h.is h.acts.0 h.acts.1) (k.is h.acts.0 h.acts.1)

pub catch_up_unique : (s : Stage) (σ most : ℕ) (a b : ℕ) → CatchUp s σ most a → CatchUp s σ most b → a ≡ b
catch_up_unique s σ most a b h k = one_value h.is k.is

pub after_unique : (s : Stage) (σ ρ x : ℕ) (a b : Stage) → After s σ ρ x a → After s σ ρ x b → a ≡ b
after_unique s σ ρ x a b h k = one_value h.is k.is

pub none_unique : (a b : Curve) → None a → None b → a ≡ b
none_unique a b h k = one_value h.is k.is

pub join_unique : (c d : Curve) (a b : Curve) → Join c d a → Join c d b → a ≡ b
join_unique c d a b h k = one_value h.is k.is

pub lag_unique : (c : Curve) (from to σ : ℕ) (a b : ℕ) → Lag c from to σ a → Lag c from to σ b → a ≡ b
lag_unique c from to σ a b h k = one_value h.is k.is

pub left_unique : (c : Curve) (from to σ ρ x : ℕ) (a b : Curve) → Left c from to σ ρ x a → Left c from to σ ρ x b → a ≡ b
left_unique c from to σ ρ x a b h k = one_value h.is k.is

pub least_wait_unique : (c : Curve) (σ : ℕ) (a b : ℕ) → LeastWait c σ a → LeastWait c σ b → a ≡ b
least_wait_unique c σ a b h k = one_value h.is k.is

pub remainder_unique : (c : Curve) (σ ρ θ : ℕ) (a b : Curve) → Remainder c σ ρ θ a → Remainder c σ ρ θ b → a ≡ b
remainder_unique c σ ρ θ a b h k = one_value h.is k.is

pub delay_unique : (c : Curve) (σ ρ : ℕ) (a b : ℕ) → Delay c σ ρ a → Delay c σ ρ b → a ≡ b
delay_unique c σ ρ a b h k = one_value h.is k.is

pub backlog_unique : (c : Curve) (σ ρ : ℕ) (a b : ℕ) → Backlog c σ ρ a → Backlog c σ ρ b → a ≡ b
backlog_unique c σ ρ a b h k = one_value h.is k.is
