use Rattle.std.proofs.Common.{ap, sym, ◌∙◌, arith}
use Rattle.numbering.specs.Point.{at}
use Rattle.component_boxes.specs.Order.{widest}
use Rattle.component_boxes.proofs.Widest.{widest_start}
use Rattle.component_boxes.proofs.Seeking.{widest_inside, widest_wider, widest_same}
use Rattle.component_boxes.proofs.widest_axis.Goals as goal
use Rattle.component_boxes.proofs.widest_axis.Goals.{then-levels-most, else-levels-most}

pub loop-t-init : goal.loop-t-init
loop-t-init c = sym (widest_start (at c.args.levels.now))

pub offset_bounds-levels-most : goal.offset_bounds-levels-most
offset_bounds-levels-most c = omega (arith, widest_inside c.args.levels.now c.loop-t.t c.loop-t.most c.loop-t.invariant)

pub bounds-levels-most : goal.bounds-levels-most
bounds-levels-most c = omega (arith, widest_inside c.args.levels.now c.loop-t.t c.loop-t.most c.loop-t.invariant)

pub loop-t-preserved : goal.loop-t-preserved
loop-t-preserved c =
    let inv = c.loop-t.invariant in
    elim c.if-levels-most.branch [
      | then-levels-most w ↦ rw w.most-is (widest_wider c.args.levels.now c.loop-t.t c.loop-t.most inv w.if-levels-most.true)
      | else-levels-most w ↦ rw w.most-is (widest_same c.args.levels.now c.loop-t.t c.loop-t.most inv w.if-levels-most.false)
    ]

pub returns : goal.returns
returns c = c.loop-t.invariant ∙ ap (widest (at c.args.levels.now)) (omega arith)
