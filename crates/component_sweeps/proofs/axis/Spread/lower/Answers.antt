use native.Mathlib.Omega.{arith}
use Rattle.component_sweeps.proofs.Lowering.{band_inside, band_can, band_steps}
use Rattle.component_sweeps.proofs.axis.Spread.lower.Goals as goal

pub overflow_mul-l : goal.overflow_mul-l
overflow_mul-l c = omega (arith, band_inside _ _ _ _ c.requires _ c.loop-l-test.true _ c.loop-l.invariant)

pub overflow_add-first : goal.overflow_add-first
overflow_add-first c = omega (arith, band_inside _ _ _ _ c.requires _ c.loop-l-test.true _ c.loop-l.invariant)

pub lower_run-requires : goal.lower_run-requires
lower_run-requires c = band_can _ _ _ _ c.requires _ c.loop-l-test.true _ c.loop-l.invariant

pub loop-l-preserved : goal.loop-l-preserved
loop-l-preserved c =
    band_steps _ _ _ _ c.requires _ c.loop-l-test.true _ c.loop-l.invariant _ c.lower_run.ensures
