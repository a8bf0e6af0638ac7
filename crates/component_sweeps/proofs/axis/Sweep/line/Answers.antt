use native.Mathlib.Omega.{arith}
use Rattle.component_sweeps.proofs.Refining.{half_fits, own_most, far_most, middle_most, first_most, refining_starts, refining_class, refining_steps, last_can, line_ends, line_still}
use Rattle.component_sweeps.proofs.axis.Sweep.line.Goals as goal

pub loop-level-init : goal.loop-level-init
loop-level-init c = refining_starts _ _ _ c.requires

pub class-requires : goal.class-requires
class-requires c = refining_class _ _ _ c.requires _ _ c.loop-level.invariant (omega (arith, c.args.self.now.level_is, c.loop-level-test.true))

pub loop-level-preserved : goal.loop-level-preserved
loop-level-preserved c =
    refining_steps _ _ _ c.requires _ _ c.loop-level.invariant (omega (arith, c.args.self.now.level_is, c.loop-level-test.true)) _ c.class.ensures

pub overflow_add-self : goal.overflow_add-self
overflow_add-self c = omega (arith, own_most _ _ _ c.requires, half_fits _ _ _ c.requires)

pub returns-then-self-2 : goal.returns-then-self-2
returns-then-self-2 c =
    line_still _ _ _ c.requires _ _ c.loop-level.invariant (omega (arith, c.args.self.now.level_is)) c.if-self.true c.if-self-2.true

pub overflow_mul-self : goal.overflow_mul-self
overflow_mul-self c = omega (arith, middle_most _ _ _ c.requires)

pub overflow_add-q : goal.overflow_add-q
overflow_add-q c = omega (arith, middle_most _ _ _ c.requires, first_most _ _ _ c.requires)

pub parents-requires : goal.parents-requires
parents-requires c = (
  omega (arith, far_most _ _ _ c.requires),
  omega (arith, own_most _ _ _ c.requires, half_fits _ _ _ c.requires),
)

pub lower-requires : goal.lower-requires
lower-requires c = last_can _ _ _ c.requires _ _ c.loop-level.invariant (omega (arith, c.args.self.now.level_is)) _ c.parents.ensures

pub returns : goal.returns
returns c =
    line_ends _ _ _ c.requires _ _ c.loop-level.invariant (omega (arith, c.args.self.now.level_is)) _ c.parents.ensures _ c.lower.ensures
