-- `numbers::gathered` meets its contract: each turn takes the next axis.
-- Assumes nothing.
use native.Mathlib.Omega.{arith}
use Rattle.numbers.proofs.InnerAxes.{gathering_starts, inner_small, gathering_inner, gathering_border, gathering_count, gathering_ends}
use Rattle.numbers.proofs.gathered.Goals.{then-marks-t-eq0, else-marks-t-eq0}
use Rattle.numbers.proofs.gathered.Goals as goal

pub loop-t-init : goal.loop-t-init
loop-t-init c = gathering_starts _ _ _

pub bounds-values-inner : goal.bounds-values-inner
bounds-values-inner c = omega (arith, inner_small c.loop-t.invariant c.loop-t-test.true, c.loop-t-test.true, c.requires)

pub overflow_add-inner : goal.overflow_add-inner
overflow_add-inner c = omega (arith, inner_small c.loop-t.invariant c.loop-t-test.true, c.loop-t-test.true, c.requires)

pub loop-t-preserved : goal.loop-t-preserved
loop-t-preserved c =
    elim c.if-marks-t-eq0.branch [
      | then-marks-t-eq0 w ↦ rw (w.inner-is, w.values-is) (gathering_inner c.loop-t.invariant c.loop-t-test.true c.requires w.if-marks-t-eq0.true)
      | else-marks-t-eq0 w ↦ rw (w.inner-is, w.values-is) (gathering_border c.loop-t.invariant c.loop-t-test.true w.if-marks-t-eq0.false)
    ]

pub returns : goal.returns
returns c = (gathering_count c.loop-t.invariant c.loop-t-test.false, gathering_ends c.loop-t.invariant c.loop-t-test.false)
