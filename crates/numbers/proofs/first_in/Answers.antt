-- `numbers::first_in` meets its contract: the first number of the level sum and the shifted rank sum to it, and it is below 2^32.
-- Assumes nothing.
use mathlib.Core.Path.{◌≡◌, sym}
use Prim.Native.Nat.{◌+◌, ◌*◌, ◌%◌, ◌^◌, ◌≤◌}
use native.Mathlib.Omega.{arith}
use Rattle.naturals.specs.Sum.{sum_to}
use Rattle.numbering.specs.Point.{at}
use Rattle.numbering.specs.Number.{first_of}
use Rattle.numbers.proofs.Parts.{first_small, first_of_parts}
use Rattle.numbers.proofs.first_in.Goals.{After-start}
use Rattle.numbers.proofs.first_in.Goals as goal

few : (c : After-start) → let v = c.args.vector.now in sum_to (at v.levels) v.axes ≤ 8
few c = omega (arith, c.requires, c.args.vector.now.vector.total)

-- the sum that the code forms is the first number
whole : (c : After-start) →
    let v = c.args.vector.now in
    c.start.result + c.vector_rank-rank.result * 2 ^ v.sum % 2 ^ 64 ≡ first_of v.axes (at v.levels)
whole c =
    let v = c.args.vector.now in
    first_of_parts v.axes (at v.levels) v.some v.few (few c) c.start.ensures (sym v.vector.total) c.vector_rank-rank.ensures

pub overflow_add-result : goal.overflow_add-result
overflow_add-result c =
    let v = c.args.vector.now in
    let rank = (goal.at.overflow_add-result c).After-start in
    omega (arith, whole rank, first_small v.axes (at v.levels) v.some v.few (few rank))

pub returns : goal.returns
returns c = whole (goal.at.returns c).After-start
