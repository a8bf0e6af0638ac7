-- A test of every place below a bound.
-- Assumes nothing.
use Rattle.std.specs.Prelude.{Bool, true, ◌&&◌, ℕ, zero, suc}

-- f 0, f 1, …, f (m − 1) all pass
unfoldable pub all : (ℕ → Bool) → ℕ → Bool
all f zero = true
all f (suc m) = all f m && f m
