-- `lists::all_blocks` meets its contract: after each turn of the loop the blocks before the present one are stepped.
-- Assumes nothing.
use Rattle.lists.specs.Steps.{Stepped}
use Rattle.lists.proofs.Lists.{block_at}
use Rattle.lists.proofs.all_blocks.Given as goal

abbrev pub invariant-loop-beyond : goal.invariant-loop-beyond
invariant-loop-beyond g l =
    Stepped g.D.Direction.ahead l.v.facet.line.shape l.v.facet.line.place l.v.start (block_at l.v l.beyond) l.fn.table l.odd l.table
