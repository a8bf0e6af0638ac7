-- `lists::edge_run` meets its contract: across the border lies a run of points, or nothing is added.
-- Assumes nothing.
use Rattle.lists.proofs.Running.{same_run, nothing_across, something_across}
use Rattle.lists.proofs.edge_run.Goals as goal

pub returns-in-Some : goal.returns-in-Some
returns-in-Some g c =
    let a = c.args in
    same_run (λ i h. something_across a.table.now a.side a.rims c.in-Some.rims c.on.result a.near i c.in-Some.is c.on.ensures) c.run_between.ensures

pub returns-in-None : goal.returns-in-None
returns-in-None g c =
    let a = c.args in
    rw c.in-None.is (same_run (λ i h. nothing_across a.table.now a.side a.near i) c.run_by_border.ensures)
