use mathlib.Core.Path.{refl, ap, ◌∙◌}
use native.Mathlib.Omega.{arith}
use Rattle.numbering.specs.Point.{at}
use Rattle.points.proofs.Eight.{padded_at}
use Rattle.components.proofs.Checked.{levels_passed, grid_levels}
use Rattle.components.proofs.Counting.{counted_fits}
use Rattle.components.proofs.Strides.{strided_starts, strided_steps, low_tops, few_points, strides_laid}
use Rattle.components.proofs.layout_of.Goals as goal

pub loop-t-init : goal.loop-t-init
loop-t-init c = strided_starts _ _ refl

pub bounds-strides-t : goal.bounds-strides-t
bounds-strides-t c = omega (arith, (levels_passed _ (grid_levels _ c.requires)).high)

pub points_across-points-requires : goal.points_across-points-requires
points_across-points-requires c = (levels_passed _ (grid_levels _ c.requires)).tops c.loop-t.t

pub overflow_mul-points : goal.overflow_mul-points
overflow_mul-points c =
    let loop = c.loop-t in
    omega (
      arith,
      counted_fits loop.invariant.counted c.points_across-points.result c.points_across-points.ensures
          ((levels_passed _ (grid_levels _ c.requires)).tops loop.t),
    )

pub loop-t-preserved : goal.loop-t-preserved
loop-t-preserved c =
    let loop = c.loop-t in
    strided_steps _ c.requires loop.strides loop.t loop.points loop.invariant c.points_across-points.result c.points_across-points.ensures
    c.loop-t-test.true

pub invariant_of-result : goal.invariant_of-result
invariant_of-result c =
    let range = levels_passed _ (grid_levels _ c.requires) in
    record {
      some = range.low;
      few = range.high;
      low = rw c.padded.ensures (low_tops _ c.requires);
      laid = rw c.padded.ensures (strides_laid _ c.requires c.loop-t.strides c.loop-t.t c.loop-t.points c.loop-t.invariant c.loop-t-test.false);
      small = rw c.padded.ensures (few_points _ c.requires);
    }

pub returns : goal.returns
returns c =
    record {
      axes = refl;
      tops = ap at c.padded.ensures ∙ padded_at _ (levels_passed _ (grid_levels _ c.requires)).high;
    }
