use Rattle.std.proofs.Common.{arith}
use Rattle.component_sweeps.proofs.Lowering.{run_first, run_starts, run_step, run_steps, run_next}
use Rattle.component_sweeps.proofs.axis.Spread.lower_run.Goals as goal

pub loop-i-init : goal.loop-i-init
loop-i-init c = (run_first _ _ _ _ c.requires, run_starts _ _ _ _ c.requires)

pub step-requires : goal.step-requires
step-requires c = rw c.loop-i.invariant.0 (run_step _ _ _ _ c.requires _ c.loop-i-test.true _ c.loop-i.invariant.1)

pub overflow_add-p : goal.overflow_add-p
overflow_add-p c =
    omega (
      arith,
      c.requires.room,
      c.loop-i.invariant.0,
      (run_step _ _ _ _ c.requires _ c.loop-i-test.true _ c.loop-i.invariant.1).inside,
      c.loop-i.invariant.1.long,
    )

pub loop-i-preserved : goal.loop-i-preserved
loop-i-preserved c = (
  run_next _ _ _ _ c.requires _ _ c.loop-i.invariant.0,
  rw (c.step.ensures, c.loop-i.invariant.0) (run_steps _ _ _ _ c.requires _ c.loop-i-test.true _ c.loop-i.invariant.1),
)
