use mathlib.Core.Path.{refl, ◌∙◌}
use Rattle.shapes.proofs.Checked.{passed_in_range}
use Rattle.grids.proofs.Turned.{turned_length}
use Rattle.whole.proofs.Climbing.{up_more, up_ends, room_first, room_next, room_there}
use Rattle.whole.proofs.climb.Goals as goal

pub loop-k-init : goal.loop-k-init
loop-k-init c =
    let a = c.args in
    (c.requires.long, room_first a.shape a.from a.table.now c.requires, refl)

pub lower-requires : goal.lower-requires
lower-requires c =
    let loop = c.loop-k in
    let shape = c.args.shape in
    let range = passed_in_range shape c.requires.shape in
    (loop.invariant.0, room_there shape loop.k loop.table range c.loop-k-test.true loop.invariant.1)

pub invariant_of-line : goal.invariant_of-line
invariant_of-line c =
    let range = passed_in_range c.args.shape c.requires.shape in
    record { few = range.high; top = range.top; most = range.most; small = range.small; axis = c.loop-k-test.true }

pub loop-k-preserved : goal.loop-k-preserved
loop-k-preserved c =
    let loop = c.loop-k in
    let shape = c.args.shape in
    rw c.lower.ensures.turned (
      turned_length shape loop.k loop.table,
      room_next shape loop.k loop.table loop.invariant.0 loop.invariant.1,
      up_more shape loop.k loop.table c.loop-k-test.true ∙ loop.invariant.2,
    )

pub returns : goal.returns
returns c =
    let loop = c.loop-k in
    up_ends c.args.shape loop.k loop.table c.loop-k-test.false ∙ loop.invariant.2
