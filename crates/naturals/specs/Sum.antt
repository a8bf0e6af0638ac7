-- Finite sums and products of natural numbers.
-- Assumes nothing.
use Rattle.std.specs.Prelude.{ℕ, zero, suc, ◌+◌, ◌*◌}

-- f 0 + f 1 + … + f (m − 1)
unfoldable pub sum_to : (ℕ → ℕ) → ℕ → ℕ
sum_to f zero = zero
sum_to f (suc m) = sum_to f m + f m

-- f 0 × f 1 × … × f (m − 1)
unfoldable pub prod_to : (ℕ → ℕ) → ℕ → ℕ
prod_to f zero = 1
prod_to f (suc m) = prod_to f m * f m
