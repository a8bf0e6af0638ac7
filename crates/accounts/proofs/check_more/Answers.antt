-- `accounts::check_more` meets its contract: the one test decides.
-- Assumes nothing.
use mathlib.Core.Path.{refl}
use borrow.Author.Tests.{le-leb, lt-leb}
use Rattle.std.proofs.Common.{arith, ◌+◌}
use lib.ListN.{set}
use Rattle.numbering.specs.Point.{at}
use Rattle.accounts.specs.Accounts.{common_points}
use Rattle.accounts.specs.Steps.{common_over, check_more}
use Rattle.accounts.proofs.check_more.Goals as goal

pub returns-then-common_of-gt-COMMON_POINTS : goal.returns-then-common_of-gt-COMMON_POINTS
unfolding check_more
returns-then-common_of-gt-COMMON_POINTS c =
    let a = c.args in
    let o = a.slot.office in
    rw (lt-leb (common_over (set a.held o (at a.held o + a.points))) common_points (omega arith)) refl

pub returns : goal.returns
unfolding check_more
returns c =
    let a = c.args in
    let o = a.slot.office in
    rw (le-leb (common_over (set a.held o (at a.held o + a.points))) common_points (omega arith)) refl
