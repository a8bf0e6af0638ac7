-- A box has no more points than the grid.
-- Assumes nothing.
use mathlib.Core.List.{List}
use Prim.Native.Nat.{ℕ, ◌≤◌, ◌<◌}
use native.Mathlib.Omega.{arith}
use Rattle.numbering.specs.Point.{at}
use Rattle.shapes.specs.Shapes.{most_points}
use Rattle.component_grids.specs.Component.{points_to}
use Rattle.component_boxes.proofs.Falling.{points_before, no_more_points}
use Rattle.component_sweeps.specs.declared.grid.Layout.{Layout}
use Rattle.component_sweeps.specs.declared.grid.GridBox.{GridBox}
use Rattle.component_sweeps.specs.Steps.{tops_of}

pub few_points : (b : GridBox) → points_to (at b.levels) b.grid.now.axes ≤ most_points
few_points b =
    let g = b.grid.now in omega (arith, no_more_points (at b.levels) (tops_of g) g.axes b.fits.within, g.small)

-- Nor have the first axes, of any levels that are at most the tops.
pub few_on : (g : Layout) (ls : List ℕ) → ((t : ℕ) → t < g.axes → at ls t ≤ tops_of g t) → (t : ℕ) → t ≤ g.axes → points_to (at ls) t ≤ most_points
few_on g ls within t le =
    omega (arith, points_before (at ls) t g.axes le, no_more_points (at ls) (tops_of g) g.axes within, g.small)
