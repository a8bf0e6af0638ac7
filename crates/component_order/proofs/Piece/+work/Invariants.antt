-- `Piece::work` meets its contract, by the number of points left, which falls at each call. A box of few points is swept; the four calls on the parts of a larger
-- one find what they ask for, and together they are its order.
-- Assumes nothing.
use Rattle.numbering.specs.Point.{at}
use Rattle.component_grids.specs.Component.{points_to}
use Rattle.component_order.proofs.Piece.+work.Given as goal

abbrev pub decreases-work : goal.decreases-work
decreases-work l = points_to (at l.self.now.of.levels) l.self.now.of.grid.now.axes
