-- Division of whole numbers, rounded down.
-- Assumes nothing.
use Rattle.std.specs.Prelude.{ℕ, ◌-◌, ◌/◌, ◌%◌, ℤ, pos, negsuc}

-- A whole number divided by m and rounded down, also below zero: −1 divided by 2 is −1.
unfoldable pub floor : ℕ → ℤ → ℤ
floor m (pos n) = pos (n / m)
floor m (negsuc n) = negsuc (n / m)

-- What is left of it, from 0 to m − 1.
unfoldable pub remainder : ℕ → ℤ → ℕ
remainder m (pos n) = n % m
remainder m (negsuc n) = m - 1 - n % m
