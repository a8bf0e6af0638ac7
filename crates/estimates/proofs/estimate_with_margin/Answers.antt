-- `estimates::estimate_with_margin` meets its contract: past the checks the sums may be asked, and a shape that passed has 1 to 8 axes.
-- Assumes nothing.
use mathlib.Core.Path.{sym}
use Rattle.estimates.proofs.Answering.{in_range, evaluable}
use Rattle.estimates.proofs.estimate_with_margin.Goals as goal

pub evaluate_with_sum-found-requires : goal.evaluate_with_sum-found-requires
evaluate_with_sum-found-requires c =
    let a = c.args in
    evaluable a.state a.table.now a.coordinates.now (sym c.in_ok-check.ensures)

pub margin-requires : goal.margin-requires
margin-requires c =
    let a = c.args in
    let range = in_range a.state a.table.now a.coordinates.now (sym c.in_ok-check.ensures) in
    (range.low, range.high, c.evaluate_with_sum-found.ensures.room)
