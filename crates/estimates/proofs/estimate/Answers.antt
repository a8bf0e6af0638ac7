-- `estimates::estimate` meets its contract: past the checks the sum may be asked, and it is the estimate.
-- Assumes nothing.
use mathlib.Core.Path.{sym}
use Rattle.estimates.proofs.Answering.{evaluable}
use Rattle.estimates.proofs.estimate.Goals as goal

pub evaluate-requires : goal.evaluate-requires
evaluate-requires c =
    let a = c.args in
    evaluable a.state a.table.now a.coordinates.now (sym c.in_ok-check.ensures)
