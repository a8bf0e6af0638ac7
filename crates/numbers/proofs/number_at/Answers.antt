-- `numbers::number_at` meets its contract: the number is the first number of the level vector and the position there, and it is below 2^32.
-- Assumes nothing.
use mathlib.Core.Path.{◌≡◌}
use Prim.Native.Nat.{◌+◌}
use native.Mathlib.Omega.{arith}
use Rattle.numbering.specs.Point.{at}
use Rattle.numbering.specs.Number.{number}
use Rattle.numbers.proofs.Parts.{number_small, number_of_parts}
use Rattle.numbers.proofs.number_at.Goals.{After-position_at}
use Rattle.numbers.proofs.number_at.Goals as goal

pub of-vector-requires : goal.of-vector-requires
of-vector-requires c = (c.requires.0, c.requires.1, c.requires.2.point.sum, c.requires.2.no_level)

-- the sum that the code forms is the number
whole : (c : After-position_at) →
    c.first_in.result + c.position_at.result
    ≡ number
    c.args.axes
    (at c.args.p.levels)
    (at c.args.p.indices)
whole c =
    let first = rw (c.of-vector.ensures.0, c.of-vector.ensures.1) at c.first_in.ensures in
    let position = rw (c.of-vector.ensures.0, c.of-vector.ensures.1) at c.position_at.ensures in
    number_of_parts _ _ _ first position

pub overflow_add-result : goal.overflow_add-result
overflow_add-result c =
    omega (arith, whole (goal.at.overflow_add-result c).After-position_at, number_small c.requires.2.point c.requires.0 c.requires.1)

pub returns : goal.returns
returns c = whole (goal.at.returns c).After-position_at
