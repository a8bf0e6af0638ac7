-- `numbers::point_of_number` meets its contract: the check of the shape and then the count of its points decide the refusal, and the point is found as its sort is
-- numbered.
-- Assumes nothing.
use mathlib.Core.Path.{sym, ap, ◌∙◌}
use Prim.Native.Nat.{◌<◌}
use native.Mathlib.Omega.{arith}
use Rattle.shapes.specs.Shapes.{points_of}
use Rattle.shapes.proofs.Checked.{InRange, checked_in_range}
use Rattle.shapes.proofs.Layers.{points_plain, points_bordered, most_bordered}
use Rattle.points.specs.declared.Point.{Point}
use Rattle.points.specs.Points.{eight}
use Rattle.numbers.proofs.Answers.{point_found, point_plain, point_bordered}
use Rattle.numbers.proofs.point_of_number.Goals.{Else-points-number}
use Rattle.numbers.proofs.point_of_number.Goals as goal

-- the shape is in range, and the number below its count
range : (c : Else-points-number) → InRange c.args.shape
range c = rw c.in_ok-checked.ensures.shape at (checked_in_range c.in_ok-checked.checked)

below : (c : Else-points-number) → c.args.number < points_of c.args.shape
below c = omega (arith, c.points.ensures, ap points_of c.in_ok-checked.ensures.shape, c.if-points-number.false)

pub border_point-requires : goal.border_point-requires
border_point-requires c =
    let here = (goal.at.border_point-requires c).Else-points-number in
    let shape = c.args.shape in
    (most_bordered (range here) c.if-shape.true, (range here).top, omega (arith, below here, points_bordered shape c.if-shape.true))

pub returns-then-shape : goal.returns-then-shape
returns-then-shape c =
    let here = (goal.at.returns-then-shape c).Else-points-number in
    sym
    (point_found c.args.shape c.args.number (range here) (below here)
    (c.border_point.ensures ∙ point_bordered c.args.shape c.args.number c.if-shape.true))

pub point_at-requires : goal.point_at-requires
point_at-requires c =
    let here = (goal.at.point_at-requires c).Else-points-number in
    let shape = c.args.shape in (
      (range here).low,
      (range here).high,
      (range here).top,
      omega (arith, below here, points_plain shape c.if-shape.false),
    )

pub returns : goal.returns
unfolding eight
returns c =
    let here = (goal.at.returns c).Else-points-number in
    sym
    (point_found c.args.shape c.args.number (range here) (below here)
    (ap (λ (p : Point). record { marks = _; point = p }) c.point_at.ensures ∙ point_plain c.args.shape c.args.number c.if-shape.false))
