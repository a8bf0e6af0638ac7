-- `numbers::point_within` meets its contract: without axes there is nothing on any.
-- Assumes nothing.
use mathlib.Core.Path.{refl}
use Rattle.numbering.specs.Inverse.{level_at, index_at, level_of}
use Rattle.points.specs.Points.{eight}
use Rattle.numbers.proofs.point_within.Goals as goal

pub returns-then-axes-eq0 : goal.returns-then-axes-eq0
unfolding level_at index_at level_of eight
returns-then-axes-eq0 c = rw c.if-axes-eq0.true refl
