-- `inner_before` meets its contract: each turn counts one place more.
-- Assumes nothing.
use mathlib.Core.Path.{sym}
use native.Mathlib.Omega.{arith}
use native.Mathlib.Numerals.{add-one}
use Rattle.numbering.specs.Point.{at}
use Rattle.faces.proofs.Packing.{before_zero, before_inner, before_border, before_borders}
use Rattle.neighbours.proofs.facets.inner_before.Goals.{then-marks-t-eq0, else-marks-t-eq0}
use Rattle.neighbours.proofs.facets.inner_before.Goals as goal

pub loop-t-init : goal.loop-t-init
loop-t-init c = sym (before_zero (at c.args.marks.now))

pub overflow_add-inner : goal.overflow_add-inner
overflow_add-inner c =
    omega (arith, c.loop-t.invariant, before_borders (at c.args.marks.now) c.loop-t.t, c.loop-t-test.true, c.requires)

pub loop-t-preserved : goal.loop-t-preserved
loop-t-preserved c =
    let m = at c.args.marks.now in
    let t = c.loop-t.t in
    elim c.if-marks-t-eq0.branch [
      | then-marks-t-eq0 w ↦ rw add-one (omega (arith, w.inner-is, c.loop-t.invariant, before_inner m t (omega (arith, w.if-marks-t-eq0.true))))
      | else-marks-t-eq0 w ↦ rw add-one (omega (arith, w.inner-is, c.loop-t.invariant, before_border m t (omega (arith, w.if-marks-t-eq0.false))))
    ]
