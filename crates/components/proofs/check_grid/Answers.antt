-- `components::check_grid` meets its contract: the refusals of the levels come first, and a count that stops at the width is above 32,768 exactly where the grid's points are.
-- Assumes nothing.
use Rattle.std.specs.Prelude.{Ok}
use mathlib.Core.Path.{◌≡◌, refl, sym}
use native.Mathlib.Omega.{arith}
use borrow.Author.Tests.{le-leb, lt-leb}
use Rattle.shapes.specs.Shapes.{most_points}
use Rattle.components.specs.Components.{check_levels, grid_points, check_grid}
use Rattle.components.proofs.Checked.{levels_passed}
use Rattle.components.proofs.check_grid.Goals.{In_ok-check_levels}
use Rattle.components.proofs.check_grid.Goals as goal

-- the levels passed
passed : (c : In_ok-check_levels) → check_levels c.args.levels.now ≡ Ok tt
passed c = sym c.in_ok-check_levels.ensures

pub count_points-requires : goal.count_points-requires
count_points-requires c = (levels_passed _ (passed (goal.at.count_points-requires c).In_ok-check_levels)).tops

pub returns-then-count_points-gt-MOST_POINTS : goal.returns-then-count_points-gt-MOST_POINTS
unfolding check_grid grid_points
returns-then-count_points-gt-MOST_POINTS c =
    rw (
      passed (goal.at.returns-then-count_points-gt-MOST_POINTS c).In_ok-check_levels,
      lt-leb (grid_points c.args.levels.now) most_points (omega (arith, c.count_points.ensures, c.if-count_points-gt-MOST_POINTS.true)),
    )
    refl

pub returns : goal.returns
unfolding check_grid grid_points
returns c =
    rw (
      passed (goal.at.returns c).In_ok-check_levels,
      le-leb (grid_points c.args.levels.now) most_points (omega (arith, c.count_points.ensures, c.if-count_points-gt-MOST_POINTS.false)),
    )
    refl
