-- `numbers::position_at` meets its contract: each turn takes the level and the index of the next axis.
-- Assumes nothing.
use Rattle.std.proofs.Common.{◌≡◌, ◌<◌, ◌∙◌, ap, length, length-append, take, length-take-le, get_or-take, arith}
use Rattle.std.specs.Iterator.Adapters.{zip_first, zip_second}
use Rattle.std.specs.Slice.Iter.{iter_rest}
use Rattle.std.proofs.lemmas.Slice.Zip.{zip_turn, zip_end}
use Rattle.naturals.proofs.Summed.{summed_fits}
use Rattle.numbering.specs.Point.{at}
use Rattle.numbers.proofs.Packed.{packed_starts, packed_fits, packed_steps}
use Rattle.numbers.proofs.position_at.Goals.{At-loop-bits, In-Some}
use Rattle.numbers.proofs.position_at.Goals as goal

pub loop-bits-init : goal.loop-bits-init
loop-bits-init c = packed_starts _ _ _

-- what is walked: the levels of the axes, and the indices
levels : (c : At-loop-bits) → iter_rest (zip_first c.into_iter-bits-iterator.result) ≡ take c.args.vector.now.axes c.args.vector.now.levels
levels c =
    rw c.into_iter-bits-iterator.ensures.into_iter_gives
    (ap iter_rest c.zip-bits-items.ensures.first ∙ c.iter.ensures.rest)

indices : (c : At-loop-bits) → iter_rest (zip_second c.into_iter-bits-iterator.result) ≡ c.args.indices.now
indices c = rw c.into_iter-bits-iterator.ensures.into_iter_gives c.zip-bits-items.ensures.second.0

many : (c : At-loop-bits) → length (take c.args.vector.now.axes c.args.vector.now.levels) ≡ c.args.vector.now.axes
many c =
    let v = c.args.vector.now in
    length-take-le v.axes v.levels (omega (arith, v.few, v.vector.long))

-- the pair of a turn is that of the next axis
pair : (c : In-Some) →
    let v = c.args.vector.now in
    let t = length c.loop-bits.yielded in
    (t < v.axes) × (c.in-Some.bits.now ≡ at v.levels t) × (c.in-Some.index.now ≡ at c.args.indices.now t)
pair c =
    let v = c.args.vector.now in
    let t = length c.loop-bits.yielded in
    let turn =
    zip_turn (take v.axes v.levels) c.args.indices.now c.loop-bits.yielded c.into_iter-bits-iterator.result c.loop-bits.bits-iterator c.next.new.self _
    (levels c.before.before.before) (indices c.before.before.before) c.loop-bits.yielded_by _ c.in-Some.is c.next.ensures.steps in
    let within : t < v.axes = omega (arith, turn.0, many c.before.before.before) in
    (within, turn.2 0 ∙ get_or-take v.axes v.levels t 0 within, turn.3 0)

pub overflow_shl-position : goal.overflow_shl-position
overflow_shl-position c =
    let p = pair (goal.at.overflow_shl-position c).In-Some in
    omega (arith, summed_fits c.loop-bits.invariant.sums p.0, c.requires.sum)

pub overflow_add-position : goal.overflow_add-position
overflow_add-position c =
    let p = pair (goal.at.overflow_add-position c).In-Some in
    rw (c.from.ensures, p.2) (omega (arith, packed_fits c.requires c.loop-bits.invariant p.0))

pub overflow_add-sum : goal.overflow_add-sum
overflow_add-sum c =
    let p = pair (goal.at.overflow_add-sum c).In-Some in
    omega (arith, summed_fits c.loop-bits.invariant.sums p.0, c.requires.sum, p.1)

pub loop-bits-preserved : goal.loop-bits-preserved
loop-bits-preserved c =
    let p = pair (goal.at.loop-bits-preserved c).In-Some in
    rw (c.from.ensures, length-append, p.2, p.1) (packed_steps c.requires c.loop-bits.invariant p.0)

pub returns : goal.returns
returns c =
    let v = c.args.vector.now in
    let all =
    zip_end (take v.axes v.levels) c.args.indices.now c.loop-bits.yielded c.into_iter-bits-iterator.result c.loop-bits.bits-iterator c.next.new.self _
    (levels c.before.before.before) (indices c.before.before.before) c.loop-bits.yielded_by c.in-None.is c.next.ensures.steps in
    let last : length c.loop-bits.yielded ≡ v.axes = omega (arith, all, many c.before.before.before, v.few) in
    rw last at c.loop-bits.invariant.packs
