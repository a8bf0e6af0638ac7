-- `evaluation::Hat::on_border` meets its contract.
-- Assumes nothing.
use Rattle.evaluation.proofs.Tabulating.{hat_on_border}
use Rattle.evaluation.proofs.Hat.on_border.Goals as goal

pub returns : goal.returns
returns c = hat_on_border c.args.coordinate.x c.args.mark c.requires c.border_weight-weight.ensures c.from.ensures
