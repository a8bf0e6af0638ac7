-- `Piece::points_left` meets its contract: the box has no more points than the grid, far from the width.
-- Assumes nothing.
use Rattle.std.proofs.Common.{arith}
use Rattle.component_boxes.proofs.Products.{points_taken}
use Rattle.component_order.proofs.Counting.{few_points}
use Rattle.component_order.proofs.Piece.points_left.Goals as goal

pub returns : goal.returns
returns c =
    let b = c.args.self.now.of in
    omega (arith, c.count_points.ensures, points_taken b.levels b.grid.now.axes, few_points b)
