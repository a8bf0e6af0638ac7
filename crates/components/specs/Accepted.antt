-- What the promises of the call speak of: rates accepted on a component grid.
-- Assumes nothing.
use Rattle.std.specs.Prelude.{true, List, ◌≡◌, ℕ, ◌<◌, ℤ, pos, length, get_or, Ok}
use Rattle.integers.specs.Half.{is_rate}
use Rattle.components.specs.Components.{grid_points, check_grid}

-- Rates are accepted where the grid is not refused and there are as many numbers as points, each a rate.
pub record AcceptedOn (ls : List ℕ) (rs : List ℤ) : Type 0 where
  pub grid : check_grid ls ≡ Ok tt
  pub long : length rs ≡ grid_points ls
  pub each : (p : ℕ) → p < grid_points ls → is_rate (get_or rs p (pos 0)) ≡ true
