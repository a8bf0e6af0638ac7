-- `Shape::check_limits` meets its contract: each return is decided by the tests on the way to it.
-- Assumes nothing.
use Rattle.std.proofs.Common.{◌≡◌, refl, ◌&&◌, rules, tests, sym, arith}
use lib.Dec.{leb}
use borrow.Author.Tests.{le-leb, lt-leb}
use Rattle.shapes.specs.Shapes.{most_axes, check_limits}
use Rattle.shapes.proofs.Shape.check_limits.Goals.{After-contains}
use Rattle.shapes.proofs.Shape.check_limits.Goals as goal

-- the number of axes is tested
few : (c : After-contains) → c.contains.result ≡ (leb 1 c.args.self.axes && leb c.args.self.axes (most_axes c.args.self.border))
few c = rw (sym c.most_axes.ensures) (search (rules, tests))

pub returns-then-not-contains-clause-verdict : goal.returns-then-not-contains-clause-verdict
unfolding check_limits
returns-then-not-contains-clause-verdict c =
    rw (sym (few (goal.at.returns-then-not-contains-clause-verdict c).After-contains), c.if-not-contains.true) refl

pub returns-then-level-gt8-clause-verdict : goal.returns-then-level-gt8-clause-verdict
unfolding check_limits
returns-then-level-gt8-clause-verdict c =
    rw (
      sym (few (goal.at.returns-then-level-gt8-clause-verdict c).After-contains),
      c.if-not-contains.false,
      lt-leb c.args.self.level 8 (omega arith),
    )
    refl

pub returns-clause-verdict : goal.returns-clause-verdict
unfolding check_limits
returns-clause-verdict c =
    rw (
      sym (few (goal.at.returns-clause-verdict c).After-contains),
      c.if-not-contains.false,
      le-leb c.args.self.level 8 (omega arith),
    )
    refl
