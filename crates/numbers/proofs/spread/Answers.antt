-- `numbers::spread` meets its contract: each turn writes the next axis.
-- Assumes nothing.
use native.Mathlib.Omega.{arith}
use Rattle.numbers.proofs.InnerAxes.{spreading_starts, place_small, spreading_inner, spreading_border, spreading_ends}
use Rattle.numbers.proofs.spread.Goals.{then-marks-t-eq0, else-marks-t-eq0}
use Rattle.numbers.proofs.spread.Goals as goal

pub loop-t-init : goal.loop-t-init
loop-t-init c = spreading_starts _ _ _ _

pub bounds-values-inner : goal.bounds-values-inner
bounds-values-inner c = omega (arith, place_small c.loop-t.invariant c.loop-t-test.true c.requires, c.loop-t-test.true, c.requires)

pub overflow_add-inner : goal.overflow_add-inner
overflow_add-inner c = omega (arith, place_small c.loop-t.invariant c.loop-t-test.true c.requires, c.loop-t-test.true, c.requires)

pub loop-t-preserved : goal.loop-t-preserved
loop-t-preserved c =
    elim c.if-marks-t-eq0.branch [
      | then-marks-t-eq0 w ↦ rw (w.inner-is, w.list-is) (spreading_inner c.loop-t.invariant c.loop-t-test.true c.requires w.if-marks-t-eq0.true)
      | else-marks-t-eq0 w ↦ rw (w.inner-is, w.list-is) (spreading_border c.loop-t.invariant c.loop-t-test.true c.requires w.if-marks-t-eq0.false)
    ]

pub returns : goal.returns
returns c = spreading_ends c.loop-t.invariant c.loop-t-test.false
