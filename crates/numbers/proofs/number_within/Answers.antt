-- `numbers::number_within` meets its contract: without axes the number is 0.
-- Assumes nothing.
use mathlib.Core.Path.{sym}
use Rattle.numbering.specs.Point.{at}
use Rattle.numbers.proofs.OnFaces.{no_axes}
use Rattle.numbers.proofs.number_within.Goals as goal

pub returns-then-axes-eq0 : goal.returns-then-axes-eq0
returns-then-axes-eq0 c = rw c.if-axes-eq0.true (sym (no_axes (at c.args.p.levels) (at c.args.p.indices)))
