-- Finite sums of whole numbers.
-- Assumes nothing.
use Rattle.std.specs.Prelude.{ℕ, zero, suc, ℤ, pos, ◌+ℤ◌}

-- f 0 + f 1 + … + f (m − 1)
unfoldable pub total : (ℕ → ℤ) → ℕ → ℤ
total f zero = pos 0
total f (suc m) = total f m +ℤ f m
