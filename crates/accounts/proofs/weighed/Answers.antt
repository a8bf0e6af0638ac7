-- The answers for `accounts::weighed`: each turn adds what one slot weighs, and eight of them are far below the width.
-- Assumes nothing.
use mathlib.Core.Path.{◌≡◌, sym}
use native.Mathlib.Numerals.{add-one}
use Rattle.std.proofs.Common.{rules, arith, suc, ◌+◌, ◌<◌}
use Rattle.naturals.proofs.Sums.{sum_to_zero, sum_to_suc}
use Rattle.accounts.specs.Accounts.{account_of, tags}
use Rattle.accounts.specs.Steps.{weight_under, weighed}
use Rattle.accounts.proofs.Weights.{weighed_small}
use Rattle.accounts.proofs.weighed.Goals.{After-weight-points}
use Rattle.accounts.proofs.weighed.Goals as goal

pub loop-tag-init : goal.loop-tag-init
loop-tag-init c = sym (sum_to_zero (weight_under (account_of c.args.slots.now) c.args.office))

-- one slot more
next : (c : After-weight-points) → c.weight-points.result ≡ weight_under (account_of c.args.slots.now) c.args.office c.loop-tag.tag
unfolding weight_under
next c = c.weight-points.ensures

pub overflow_add-points : goal.overflow_add-points
overflow_add-points c =
    let a = account_of c.args.slots.now in
    let tag = c.loop-tag.tag in
    let one = next (goal.at.overflow_add-points c).After-weight-points in
    let more = sum_to_suc (weight_under a c.args.office) tag in
    let small : c.loop-tag.points + c.weight-points.result < 4294967296 =
    omega (arith, c.loop-tag.invariant, one, more, weighed_small a c.args.office (suc tag), c.loop-tag-test.true) in
    search rules

pub loop-tag-preserved : goal.loop-tag-preserved
loop-tag-preserved c =
    let one = next (goal.at.loop-tag-preserved c).After-weight-points in
    let more = sum_to_suc (weight_under (account_of c.args.slots.now) c.args.office) c.loop-tag.tag in
    rw add-one (omega (arith, c.loop-tag.invariant, one, more))

pub returns : goal.returns
unfolding weighed
returns c =
    let end : c.loop-tag.tag ≡ tags = omega (arith, c.loop-tag-test.false, c.loop-tag.auto.tag-end) in
    rw end at c.loop-tag.invariant
