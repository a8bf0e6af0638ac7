-- `components::check_component` meets its contract: the refusals of the grid come first, then that of the table's length, and then those of its rates.
-- Assumes nothing.
use Rattle.std.specs.Prelude.{Ok}
use mathlib.Core.Path.{◌≡◌, sym}
use native.Mathlib.Omega.{arith}
use borrow.Author.Tests.{eq-eqb, ne_eqb}
use lib.ListN.{length}
use Rattle.components.specs.Components.{grid_points, check_grid, check_component}
use Rattle.components.proofs.Checked.{levels_passed, grid_levels, count_exact}
use Rattle.components.proofs.check_component.Goals.{In_ok-check_grid}
use Rattle.components.proofs.check_component.Goals as goal

-- the grid passed
passed : (c : In_ok-check_grid) → check_grid c.args.levels.now ≡ Ok tt
passed c = sym c.in_ok-check_grid.ensures

pub count_points-requires : goal.count_points-requires
count_points-requires c = (levels_passed _ (grid_levels _ (passed (goal.at.count_points-requires c).In_ok-check_grid))).tops

pub returns-then-table-count_points : goal.returns-then-table-count_points
unfolding check_component
returns-then-table-count_points c =
    let a = c.args in
    let exact = count_exact a.levels.now (passed (goal.at.returns-then-table-count_points c).In_ok-check_grid) _ c.count_points.ensures in
    rw (
      passed (goal.at.returns-then-table-count_points c).In_ok-check_grid,
      ne_eqb (length a.table.now) (grid_points a.levels.now) (λ e. omega (arith, e, exact, c.if-table-count_points.true)),
    )

pub returns : goal.returns
unfolding check_component
returns c =
    let a = c.args in
    let exact = count_exact a.levels.now (passed (goal.at.returns c).In_ok-check_grid) _ c.count_points.ensures in
    rw (
      passed (goal.at.returns c).In_ok-check_grid,
      eq-eqb (length a.table.now) (grid_points a.levels.now) (omega (arith, exact, c.if-table-count_points.false)),
    )
    c.check_rates.ensures
