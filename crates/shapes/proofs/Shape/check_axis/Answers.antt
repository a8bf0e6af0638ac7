-- `Shape::check_axis` meets its contract: the one test decides.
-- Assumes nothing.
use Rattle.std.proofs.Common.{◌≡◌, refl, ◌&&◌, rules, tests, sym}
use lib.Dec.{leb}
use Rattle.shapes.specs.Shapes.{check_axis}
use Rattle.shapes.proofs.Shape.check_axis.Goals.{After-contains}
use Rattle.shapes.proofs.Shape.check_axis.Goals as goal

-- the axis is tested
tested : (c : After-contains) → c.contains.result ≡ (leb 1 c.args.axis && leb c.args.axis c.args.self.axes)
tested c = search (rules, tests)

pub returns-then-not-contains : goal.returns-then-not-contains
unfolding check_axis
returns-then-not-contains c = rw (sym (tested (goal.at.returns-then-not-contains c).After-contains), c.if-not-contains.true) refl

pub returns : goal.returns
unfolding check_axis
returns c = rw (sym (tested (goal.at.returns c).After-contains), c.if-not-contains.false) refl
