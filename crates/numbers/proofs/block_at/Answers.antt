-- `numbers::block_at` meets its contract: a place that is before the end of a block lies in it, and one that is past all others in the last.
-- Assumes nothing.
use Rattle.numbers.proofs.Searched.{searched_starts, searched_steps, searched_ends, searched_through}
use Rattle.numbers.proofs.block_at.Goals as goal

pub loop-block-init : goal.loop-block-init
loop-block-init g c = λ f sizes inside. searched_starts f _ _ inside

pub returns-then-rest-places : goal.returns-then-rest-places
returns-then-rest-places g c =
    λ f sizes inside.
    searched_ends
    (c.loop-block.invariant f sizes inside)
    (sizes _ _ c.loop-block-test.true c.size-places.ensures)
    c.if-rest-places.true

pub loop-block-preserved : goal.loop-block-preserved
loop-block-preserved g c =
    λ f sizes inside.
    searched_steps
    (c.loop-block.invariant f sizes inside)
    (sizes _ _ c.loop-block-test.true c.size-places.ensures)
    c.if-rest-places.false

pub returns : goal.returns
returns g c = λ f sizes inside. searched_through (c.loop-block.invariant f sizes inside) c.loop-block-test.false
