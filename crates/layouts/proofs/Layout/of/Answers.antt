-- `layouts::Layout::of` meets its contract and the invariant of its type: each turn lays one face, and 4 axes have 81 faces.
-- Assumes nothing.
use mathlib.Core.Path.{refl}
use Prim.Native.Nat.{◌<◌}
use native.Mathlib.Omega.{arith}
use Rattle.layouts.proofs.Laid.{laid_start, laid_layer, laid_few, laid_small, laid_step, laid_end}
use Rattle.layouts.proofs.Layout.of.Goals.{After-marks_of}
use Rattle.layouts.proofs.Layout.of.Goals as goal

pub loop-borders-init : goal.loop-borders-init
loop-borders-init c = laid_start _ _ _ refl

-- the place of the face
place : (c : After-marks_of) → c.loop-rank.count < 81
place c = laid_few c.loop-rank.invariant (omega (arith, c.loop-borders-test.true)) (omega (arith, c.loop-rank-test.true, c.faces-rank-end.ensures)) c.requires.0

pub offset_bounds-faces-count : goal.offset_bounds-faces-count
offset_bounds-faces-count c = omega (arith, place (goal.at.offset_bounds-faces-count c).After-marks_of)

pub bounds-faces-count : goal.bounds-faces-count
bounds-faces-count c = place (goal.at.bounds-faces-count c).After-marks_of

pub overflow_add-count : goal.overflow_add-count
overflow_add-count c = omega (arith, place (goal.at.overflow_add-count c).After-marks_of)

pub overflow_add-start : goal.overflow_add-start
overflow_add-start c =
    omega (
      arith,
      laid_small c.loop-rank.invariant
          (omega (arith, c.loop-borders-test.true))
          (omega (arith, c.loop-rank-test.true, c.faces-rank-end.ensures))
          c.points-points.ensures
          c.requires.0
          c.requires.1,
    )

pub loop-rank-preserved : goal.loop-rank-preserved
loop-rank-preserved c =
    laid_step c.loop-rank.invariant
    (omega (arith, c.loop-borders-test.true))
    (omega (arith, c.loop-rank-test.true, c.faces-rank-end.ensures))
    c.points-points.ensures
    _
    c.marks_of.ensures
    c.last_levels-levels.ensures
    refl
    refl
    c.requires.0

pub loop-borders-preserved : goal.loop-borders-preserved
loop-borders-preserved c =
    laid_layer c.loop-rank.invariant (omega (arith, c.loop-rank.auto.rank-end, c.loop-rank-test.false, c.faces-rank-end.ensures))

pub invariant_of-result : goal.invariant_of-result
invariant_of-result c =
    record {
      few = c.requires.0;
      top = c.requires.1;
      all = laid_end c.loop-borders.invariant (omega (arith, c.loop-borders.auto.borders-end, c.loop-borders-test.false));
      each = c.loop-borders.invariant.each;
    }
