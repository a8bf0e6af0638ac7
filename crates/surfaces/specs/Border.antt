-- The border, where the surface of a table with a zero border is 0 (document 01, "Terms and limits").
-- Assumes nothing.
use Rattle.std.specs.Prelude.{◌≡◌, ◌⊎◌, ℕ}

-- In the unit u, the coordinate on axis t is 0 or 1: as a whole number, 0 or the unit.
abbrev pub OnBorder : ℕ → (ℕ → ℕ) → ℕ → Type 0
OnBorder u x t = (x t ≡ 0) ⊎ (x t ≡ u)
