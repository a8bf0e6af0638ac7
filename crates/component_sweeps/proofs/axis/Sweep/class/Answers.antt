use native.Mathlib.Omega.{arith}
use Rattle.component_sweeps.proofs.Classes.{level_small, reach_shifted, half_fits, reach_most, high_most, far_most, first_most, passing_most, passing_starts, passing_can, passing_steps, passing_ends}
use Rattle.component_sweeps.proofs.axis.Sweep.class.Goals as goal

pub overflow_shl-reach : goal.overflow_shl-reach
overflow_shl-reach c = omega (arith, level_small c.requires)

pub overflow_sub-low : goal.overflow_sub-low
overflow_sub-low c = half_fits _ _ _ _ _ (reach_shifted c.requires) c.requires

pub overflow_step-x : goal.overflow_step-x
overflow_step-x c = omega (arith, reach_most _ _ _ _ _ (reach_shifted c.requires) c.requires, high_most _ _ _ _ _ (reach_shifted c.requires) c.requires)

pub loop-x-init : goal.loop-x-init
loop-x-init c = passing_starts _ _ _ _ _ (reach_shifted c.requires) c.requires

pub overflow_add-high : goal.overflow_add-high
overflow_add-high c = omega (arith, high_most _ _ _ _ _ (reach_shifted c.requires) c.requires)

pub overflow_mul-x : goal.overflow_mul-x
overflow_mul-x c = omega (arith, passing_most _ _ _ _ _ (reach_shifted c.requires) c.requires _ _ c.loop-x.invariant c.loop-x-test.true)

pub overflow_add-q : goal.overflow_add-q
overflow_add-q c =
    omega (arith, passing_most _ _ _ _ _ (reach_shifted c.requires) c.requires _ _ c.loop-x.invariant c.loop-x-test.true, first_most _ _ _ _ _ (reach_shifted c.requires) c.requires)

pub parents-requires : goal.parents-requires
parents-requires c = (
  omega (arith, far_most _ _ _ _ _ (reach_shifted c.requires) c.requires),
  omega (arith, reach_most _ _ _ _ _ (reach_shifted c.requires) c.requires, high_most _ _ _ _ _ (reach_shifted c.requires) c.requires, c.loop-x-test.true),
)

pub lower-requires : goal.lower-requires
lower-requires c = passing_can _ _ _ _ _ (reach_shifted c.requires) c.requires _ _ c.loop-x.invariant c.loop-x-test.true _ c.parents.ensures

pub loop-x-preserved : goal.loop-x-preserved
loop-x-preserved c =
    passing_steps _ _ _ _ _ (reach_shifted c.requires) c.requires _ _ c.loop-x.invariant c.loop-x-test.true _ c.parents.ensures _ c.lower.ensures

pub returns : goal.returns
returns c = passing_ends _ _ _ _ _ (reach_shifted c.requires) c.requires _ _ c.loop-x.invariant (omega arith)

-- The last place: the next would be the box's end or beyond it.
pub returns-2 : goal.returns-2
returns-2 c =
    passing_ends _ _ _ _ _ (reach_shifted c.requires) c.requires _ _
    (passing_steps _ _ _ _ _ (reach_shifted c.requires) c.requires _ _ c.loop-x.invariant c.loop-x-test.true _ c.parents.ensures _ c.lower.ensures) (omega arith)
