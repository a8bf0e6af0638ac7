-- What the calls on points hand on: a point by value.
-- Assumes nothing.
use Rattle.std.specs.Prelude.{List, ◌≡◌, ℕ, ◌≤◌, length}
use Rattle.numbering.specs.Point.{at, IsPoint}

-- A point of d axes and top level n in two lists of eight places, those past axis d zero.
pub record PointIn (d n : ℕ) (ls is : List ℕ) : Type 0 where
  pub long_levels : length ls ≡ 8
  pub long_indices : length is ≡ 8
  pub point : IsPoint d n (at ls) (at is)
  pub no_level : (t : ℕ) → d ≤ t → at ls t ≡ 0
  pub no_index : (t : ℕ) → d ≤ t → at is t ≡ 0
