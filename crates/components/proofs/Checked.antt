-- What a passed check of a grid tells: 1 to 8 axes, top levels of at most 8, and at most 32,768 points, which the count then counts. The checks are tests of just this.
-- Assumes nothing.
use Rattle.std.specs.Prelude.{Ok}
use mathlib.Core.Path.{◌≡◌}
use mathlib.Core.Bool.{true, ◌&&◌}
use mathlib.Core.List.{List}
use Prim.Native.Nat.{ℕ, ◌≤◌, min}
use native.Mathlib.Omega.{arith}
use lib.Dec.{leb}
use lib.ListN.{length, get_or-eq_default}
use borrow.Author.Tests.{leb-true}
use Rattle.naturals.specs.Test.{all}
use Rattle.naturals.proofs.Cases.{le_or_lt}
use Rattle.naturals.proofs.Tests.{and_left, and_right, all_at}
use Rattle.refusals.specs.declared.Refusal.TheVariants.{Axes, Level, TooManyPoints}
use Rattle.refusals.specs.Checks.{unless}
use Rattle.refusals.proofs.Passing.{first_passed, next_passed, test_passed}
use Rattle.component_grids.specs.Component.{points_to}
use Rattle.shapes.specs.Shapes.{most_points}
use Rattle.components.specs.Components.{tops_in, low_at, check_levels, grid_points, check_grid}

pub record LevelsIn (ls : List ℕ) : Type 0 where
  pub low : 1 ≤ length ls
  pub high : length ls ≤ 8
  pub tops : (t : ℕ) → tops_in ls t ≤ 8

module _ (ls : List ℕ) where
  low_level : (t : ℕ) → low_at ls t ≡ true → tops_in ls t ≤ 8
  unfolding low_at
  low_level t low = leb-true (tops_in ls t) 8 low

  pub levels_passed : check_levels ls ≡ Ok tt → LevelsIn ls
  unfolding check_levels
  levels_passed e =
      let few = leb 1 (length ls) && leb (length ls) 8 in
      let axes = unless few Axes in
      let levels = unless (all (low_at ls) (length ls)) Level in
      let between = test_passed few Axes (first_passed axes levels e) in
      record {
        low = leb-true 1 (length ls) (and_left (leb 1 (length ls)) (leb (length ls) 8) between);
        high = leb-true (length ls) 8 (and_right (leb 1 (length ls)) (leb (length ls) 8) between);
        tops = at_axis (test_passed (all (low_at ls) (length ls)) Level (next_passed axes levels e));
      }
    where
      at_axis : all (low_at ls) (length ls) ≡ true → (t : ℕ) → tops_in ls t ≤ 8
      at_axis each t =
          le_or_lt (length ls) t
          (λ past. omega (arith, get_or-eq_default ls 0 past))
          (λ h. low_level t (all_at (low_at ls) (length ls) each t h))

  module _ (e : check_grid ls ≡ Ok tt) where
    pub grid_levels : check_levels ls ≡ Ok tt
    unfolding check_grid
    grid_levels = first_passed (check_levels ls) (unless (leb (grid_points ls) most_points) TooManyPoints) e

    pub grid_small : grid_points ls ≤ most_points
    unfolding check_grid
    grid_small =
        leb-true (grid_points ls) most_points
        (test_passed (leb (grid_points ls) most_points) TooManyPoints
        (next_passed (check_levels ls) (unless (leb (grid_points ls) most_points) TooManyPoints) e))

    -- Then the count is the number of points.
    pub count_exact : (points : ℕ) → points ≡ min (points_to (tops_in ls) (length ls)) 18446744073709551615 → points ≡ grid_points ls
    unfolding grid_points
    count_exact points is = omega (arith, is, grid_small)
