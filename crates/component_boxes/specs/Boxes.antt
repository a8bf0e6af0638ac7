-- The points of a box, and that a box lies in the grid as the splits make it.
-- Assumes nothing.
use Rattle.std.specs.Prelude.{◌≡◌, ℕ, zero, suc, ◌+◌, ◌%◌, ◌^◌, ◌≤◌, ◌<◌}
use Rattle.component_grids.specs.Component.{points_to, place_at}

module _ (d : ℕ) (tops k : ℕ → ℕ) (c : ℕ) where
  -- Position p is in the box of levels k with the middle point at position c: on each axis fewer than 2^k places away.
  pub record Near (p : ℕ) : Type 0 where
    pub inside : p < points_to tops d
    pub low : (t : ℕ) → t < d → place_at tops c t < place_at tops p t + 2 ^ k t
    pub high : (t : ℕ) → t < d → place_at tops p t < place_at tops c t + 2 ^ k t

  -- The same of a code.
  abbrev pub Box : ℕ → Type 0
  Box zero = ⊥
  Box (suc p) = Near p

  -- The middle point lies in the grid, no level is above the top level, and the middle point's place on each axis is a multiple of 2^k.
  pub record Fits : Type 0 where
    pub inside : c < points_to tops d
    pub within : (t : ℕ) → t < d → k t ≤ tops t
    pub aligned : (t : ℕ) → t < d → place_at tops c t % 2 ^ k t ≡ 0
