-- `CheckedShape::check_length` meets its contract: the one test is that the places are as many as `points` says.
-- Assumes nothing.
use native.Mathlib.Omega.{arith}
use borrow.Author.Tests.{eq-eqb, ne_eqb}
use Rattle.shapes.specs.Shapes.{points_of, check_length}
use Rattle.shapes.proofs.CheckedShape.check_length.Goals as goal

pub returns-then-places-points : goal.returns-then-places-points
unfolding check_length
returns-then-places-points c =
    let a = c.args in
    rw (ne_eqb a.places (points_of a.self.shape) (λ e. omega (arith, e, c.points.ensures, c.if-places-points.true)))

pub returns : goal.returns
unfolding check_length
returns c =
    let a = c.args in
    rw (eq-eqb a.places (points_of a.self.shape) (omega (arith, c.points.ensures, c.if-places-points.false)))
