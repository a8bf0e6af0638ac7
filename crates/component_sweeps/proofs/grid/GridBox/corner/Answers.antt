-- `GridBox::corner` meets its contract: the middle point's place on each axis is at least half the box's width, so that it can step down so far.
-- Assumes nothing.
use Rattle.std.proofs.Common.{arith}
use Rattle.component_sweeps.proofs.Cornering.{span_within, corner_is}
use Rattle.component_sweeps.proofs.grid.GridBox.corner.Goals as goal

pub half_span-requires : goal.half_span-requires
half_span-requires c = λ t axis. c.args.self.now.fits.within t axis

pub overflow_sub-result : goal.overflow_sub-result
overflow_sub-result c = omega (arith, c.half_span.ensures, span_within c.args.self.now)

pub returns : goal.returns
returns c = rw c.half_span.ensures (corner_is c.args.self.now)
