-- The unit before document 02, e), and lists of coordinates multiplied.
-- Assumes nothing.
use Rattle.std.specs.Prelude.{List, map, ℕ, ◌*◌}

-- Coordinates and weights were counted in 65,536ths.
unfoldable pub old_unit : ℕ
old_unit = 65536

-- Each coordinate times f.
unfoldable pub each_times : ℕ → List ℕ → List ℕ
each_times f xs = map (λ (x : ℕ). x * f) xs
