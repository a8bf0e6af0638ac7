-- `integers::in_limit` meets its contract: the two comparisons of the range are the test of the size.
-- Assumes nothing.
use Rattle.std.proofs.Common.{◌∙◌, w64}
use mir.ValLaws.{to_z-of_z}
use Rattle.integers.proofs.Ranges.{limit_range}
use Rattle.integers.proofs.in_limit.Goals as goal

pub returns : goal.returns
returns c =
    c.contains.ensures.value
    ∙ rw (c.new.ensures.start, c.new.ensures.end, c.new.ensures.exhausted, to_z-of_z w64 c.args.v c.ranges.v) (limit_range c.args.v)
