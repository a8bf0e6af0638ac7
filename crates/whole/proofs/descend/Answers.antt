use mathlib.Core.Path.{◌≡◌, ap₂, ◌∙◌}
use Prim.Native.Nat.{◌+◌, ◌-◌}
use native.Mathlib.Omega.{arith}
use Rattle.shapes.proofs.Checked.{passed_in_range}
use Rattle.turns.proofs.Trying.{back_was_done, back_was_refused}
use Rattle.whole.specs.Steps.{gone}
use Rattle.whole.proofs.Descending.{former_inside, down_done, down_refused, down_ends}
use Rattle.whole.proofs.descend.Goals as goal

pub invariant_of-line : goal.invariant_of-line
invariant_of-line c =
    let range = passed_in_range c.args.shape c.requires.shape in
    record { few = range.high; top = range.top; most = range.most; small = range.small; axis = omega (arith, c.loop-k.auto.k, c.loop-k-test.true) }

pub returns-then-not-try_on : goal.returns-then-not-try_on
returns-then-not-try_on c =
    let loop = c.loop-k in
    let shape = c.args.shape in
    let was = back_was_refused shape (loop.k - 1) loop.table c.try_on.new.table (rw c.if-not-try_on.true at c.try_on.ensures) in
    let same : loop.k - 1 + 1 ≡ loop.k = omega (arith, c.loop-k-test.true) in
    ap₂ gone same was.1
    ∙ down_refused shape loop.k loop.table c.loop-k-test.true was.0
    ∙ loop.invariant.1

pub loop-k-preserved : goal.loop-k-preserved
loop-k-preserved c =
    let loop = c.loop-k in
    let shape = c.args.shape in
    let was = back_was_done shape (loop.k - 1) loop.table c.try_on.new.table (rw c.if-not-try_on.false at c.try_on.ensures) in
    rw was.1 (
      former_inside shape (loop.k - 1) loop.table loop.invariant.0 was.0,
      down_done shape loop.k loop.table c.loop-k-test.true was.0 ∙ loop.invariant.1,
    )

pub returns : goal.returns
returns c =
    let loop = c.loop-k in
    down_ends c.args.shape loop.k loop.table c.loop-k-test.false ∙ loop.invariant.1
