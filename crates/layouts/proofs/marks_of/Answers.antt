-- `layouts::marks_of` meets its contract: the mark on the last axis that is left is the block that the rank lies in.
-- Assumes nothing.
use native.Mathlib.Omega.{arith}
use Rattle.layouts.proofs.Marks.{marks_start, marks_few, marks_bit, marks_step, marks_end}
use Rattle.layouts.proofs.marks_of.Goals as goal

pub loop-k-init : goal.loop-k-init
loop-k-init c = marks_start _ _ _ c.requires.2

pub last_mark-mark-requires : goal.last_mark-mark-requires
last_mark-mark-requires c = (omega (arith, c.loop-k.invariant.high, c.requires.0), marks_few c.loop-k.invariant c.loop-k-test.true)

pub overflow_sub-left : goal.overflow_sub-left
overflow_sub-left c = marks_bit c.loop-k.invariant c.loop-k-test.true c.bit-left.ensures c.last_mark-mark.ensures.0

pub loop-k-preserved : goal.loop-k-preserved
loop-k-preserved c =
    marks_step c.loop-k.invariant c.loop-k-test.true
    (omega (arith, c.loop-k.invariant.high, c.requires.0))
    c.bit-left.ensures
    c.last_mark-mark.ensures.0
    c.last_mark-mark.ensures.1

pub returns : goal.returns
returns c = marks_end c.loop-k.invariant c.loop-k-test.false
