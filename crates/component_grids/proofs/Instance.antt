-- Component grids are grids: neighbours are points or none, the level falls, and axes commute, since positions are a numbering of their points.
-- Assumes nothing.
use Prim.Native.Nat.{ℕ}
use Rattle.hierarchy.specs.Grid.{Grid}
use Rattle.numbered.proofs.Instance.{numbered_grid}
use Rattle.component_grids.specs.Component.{points_to, neighbour, depth}
use Rattle.component_grids.proofs.Numbering.{numbering}

pub grid : (d : ℕ) (tops : ℕ → ℕ) → Grid (points_to tops d) (neighbour d tops) (depth d tops)
unfolding neighbour depth
grid d tops = numbered_grid (numbering d tops)
