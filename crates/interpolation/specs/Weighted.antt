-- Sums over all points of a table of coefficient times weight.
-- Assumes nothing.
use Rattle.std.specs.Prelude.{ℕ, suc, ℤ, pos, ◌*ℤ◌}
use Rattle.integers.specs.Total.{total}

-- What point number p adds: its coefficient, which stands at code p + 1, times its weight.
unfoldable pub weighted : (ℕ → ℤ) → (ℕ → ℕ) → ℕ → ℤ
weighted c w p = c (suc p) *ℤ pos (w p)

-- The sum over the first m points.
unfoldable pub weighted_sum : ℕ → (ℕ → ℤ) → (ℕ → ℕ) → ℤ
weighted_sum m c w = total (weighted c w) m
