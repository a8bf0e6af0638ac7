-- `numbers::number_of_point` meets its contract: the check of the point decides the refusal, and what it passes is a point of the shape, numbered as its sort is.
-- Assumes nothing.
use Rattle.std.specs.Prelude.{Ok}
use mathlib.Core.Path.{sym, ap, ◌∙◌}
use Rattle.numbering.specs.Point.{at}
use Rattle.grids.proofs.Points.{number_bordered, number_plain}
use Rattle.shapes.proofs.Layers.{most_bordered}
use Rattle.points.proofs.Handed.{point_checked, handed}
use Rattle.points.proofs.Passed.{marks_by_value}
use Rattle.numbers.proofs.Parts.{at_most_eight}
use Rattle.numbers.specs.Numbers.{number_of_point}
use Rattle.numbers.proofs.number_of_point.Goals as goal

pub border_number-requires : goal.border_number-requires
border_number-requires c =
    let p = handed _ _ _ _ (sym c.in_ok-p.ensures) in
    let marks = ap at c.padded-marks.ensures ∙ marks_by_value p.passes in
    (most_bordered p.passes.shape c.if-shape.true, p.passes.shape.top, rw (marks, p.levels, p.indices) p.passes.named.marked)

pub returns-then-shape : goal.returns-then-shape
unfolding number_of_point
returns-then-shape c =
    let given = sym c.in_ok-p.ensures in
    let p = handed _ _ _ _ given in
    let marks = ap at c.padded-marks.ensures ∙ marks_by_value p.passes in
    rw (point_checked _ _ _ _ given, ← p.levels, ← p.indices, ← marks)
    (ap Ok (c.border_number.ensures ∙ sym (number_bordered c.args.shape c.if-shape.true _ _ _)))

pub number_at-requires : goal.number_at-requires
number_at-requires c =
    let p = handed _ _ _ _ (sym c.in_ok-p.ensures) in
    (p.passes.shape.low, p.passes.shape.high, at_most_eight p.inside p.passes.shape.top)

pub returns : goal.returns
unfolding number_of_point
returns c =
    let given = sym c.in_ok-p.ensures in
    let p = handed _ _ _ _ given in
    rw (point_checked _ _ _ _ given, ← p.levels, ← p.indices)
    (ap Ok (c.number_at.ensures ∙ sym (number_plain c.args.shape c.if-shape.false _ _ _)))
