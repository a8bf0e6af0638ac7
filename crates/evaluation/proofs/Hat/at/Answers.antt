-- `evaluation::Hat::at` meets its contract: the cell is one of its level, and its index one of the level's.
-- Assumes nothing.
use Rattle.evaluation.proofs.Tabulating.{hat_inside}
use Rattle.evaluation.proofs.Hat.at.Goals as goal

pub returns : goal.returns
returns c = hat_inside c.args.coordinate.x c.args.level c.cell-cell.ensures c.weight-weight.ensures c.from.ensures
