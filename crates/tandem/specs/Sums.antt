-- Sums over the first n numbers, and tests over them.
-- Assumes nothing.
use Rattle.std.specs.Prelude.{ℕ, zero, suc, ◌+◌, Bool, true, false, ◌||◌}

-- x where the test passes, else 0
abbrev pub weigh : Bool → ℕ → ℕ
weigh true x = x
weigh false x = 0

-- g 0 + .. + g (n - 1)
unfoldable pub total : ℕ → (ℕ → ℕ) → ℕ
total zero g = 0
total (suc n) g = total n g + g n

-- one of 0 .. n - 1 passes
unfoldable pub any : ℕ → (ℕ → Bool) → Bool
any zero p = false
any (suc n) p = any n p || p n
