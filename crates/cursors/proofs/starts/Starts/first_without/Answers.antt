-- `Starts::first_without` meets its contract: the lists before this one with the same level on the axis come before it without the axis too.
-- Assumes nothing.
use mathlib.Core.Path.{◌≡◌}
use Prim.Native.Nat.{suc, ◌+◌, ◌-◌, ◌*◌}
use native.Mathlib.Numerals.{add-one}
use native.Mathlib.Omega.{arith}
use Rattle.numbering.specs.Point.{at}
use Rattle.numbering.specs.Number.{first_of}
use Rattle.neighbours.specs.Facets.{without}
use Rattle.cursors.proofs.Across.{count, own_low, count_small, same_level, first_left, left_small}
use Rattle.cursors.proofs.starts.Starts.first_without.Goals.{After-passed-2, After-start}
use Rattle.cursors.proofs.starts.Starts.first_without.Goals as goal

pub overflow_add-v : goal.overflow_add-v
overflow_add-v c =
    let v = c.args.v in
    record { fits = omega (arith, own_low v, v.inside, v.facet.line.top) }

-- those that reach one more
more : (c : After-passed-2) → c.passed-2.result ≡ count c.args.v (suc c.args.v.own)
more c = rw add-one at c.passed-2.ensures

pub overflow_mul-same : goal.overflow_mul-same
overflow_mul-same c =
    let v = c.args.v in
    record { fits = omega (arith, more (goal.at.overflow_mul-same c).After-passed-2, same_level v, count_small v) }

pub overflow_sub-same : goal.overflow_sub-same
overflow_sub-same c = omega (arith, more (goal.at.overflow_sub-same c).After-passed-2, same_level c.args.v, c.passed.ensures)

pub overflow_sub-v-2 : goal.overflow_sub-v-2
overflow_sub-v-2 c = own_low c.args.v

whole : (c : After-start) →
    let v = c.args.v in
    c.start.result + (c.passed.result - 2 * c.passed-2.result) ≡ first_of (v.facet.axes - 1) (without v.facet.place (at v.vector.levels))
whole c =
    omega (arith, c.start.ensures, c.passed.ensures, more (goal.at.After-start c).After-passed-2, first_left c.args.v)

pub overflow_add-result : goal.overflow_add-result
overflow_add-result c = record { fits = omega (arith, whole (goal.at.overflow_add-result c).After-start, left_small c.args.v) }

pub returns : goal.returns
returns c = whole (goal.at.returns c).After-start
