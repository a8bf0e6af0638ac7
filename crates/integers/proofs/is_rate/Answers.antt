-- `integers::is_rate` meets its contract: the two comparisons of the range are those of the definition.
-- Assumes nothing.
use Rattle.std.proofs.Common.{◌∙◌, w64}
use mir.ValLaws.{to_z-of_z}
use Rattle.integers.proofs.Ranges.{rate_range}
use Rattle.integers.proofs.is_rate.Goals as goal

pub returns : goal.returns
returns c =
    c.contains.ensures.value
    ∙ rw (c.new.ensures.start, c.new.ensures.end, c.new.ensures.exhausted, to_z-of_z w64 c.args.v c.ranges.v) (rate_range c.args.v)
