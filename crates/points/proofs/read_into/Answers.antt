use mathlib.Core.Path.{sym, ◌∙◌}
use Prim.Native.Nat.{◌≤◌}
use native.Mathlib.Numerals.{add-one}
use native.Mathlib.Omega.{arith}
use borrow.Author.Tests.{eq-eqb, ne_eqb}
use lib.ListN.{length}
use Rattle.points.specs.Points.{check_lists}
use Rattle.points.proofs.Passed.{no_point, no_marks, all_tested}
use Rattle.points.proofs.Tested.{Walked, level_fails, index_fails, walk_starts, walk_steps, mark_fails, walk_point, walk_fits, walk_value}
use Rattle.points.proofs.read_into.Goals.{After-loop-t}
use Rattle.points.proofs.read_into.Goals as goal

-- ---- the lengths

pub returns-then-marks-axes-clause-verdict : goal.returns-then-marks-axes-clause-verdict
unfolding check_lists
returns-then-marks-axes-clause-verdict c =
    let shape = c.args.checked.shape in
    sym (simp (ne_eqb (length c.args.marks.now) shape.axes c.if-marks-axes.true))

pub returns-then-levels-axes-clause-verdict : goal.returns-then-levels-axes-clause-verdict
unfolding check_lists
returns-then-levels-axes-clause-verdict c =
    let shape = c.args.checked.shape in
    sym (simp (eq-eqb (length c.args.marks.now) shape.axes c.if-marks-axes.false, ne_eqb (length c.args.levels.now) shape.axes c.if-levels-axes.true))

pub returns-then-indices-axes-clause-verdict : goal.returns-then-indices-axes-clause-verdict
unfolding check_lists
returns-then-indices-axes-clause-verdict c =
    let shape = c.args.checked.shape in
    sym
    (simp (
      eq-eqb (length c.args.marks.now) shape.axes c.if-marks-axes.false,
      eq-eqb (length c.args.levels.now) shape.axes c.if-levels-axes.false,
      ne_eqb (length c.args.indices.now) shape.axes c.if-indices-axes.true,
    ))

-- ---- an axis

pub loop-t-init : goal.loop-t-init
loop-t-init c = walk_starts c.args.checked.shape c.args.marks.now c.args.levels.now c.args.indices.now

pub returns-then-left-level-clause-verdict : goal.returns-then-left-level-clause-verdict
returns-then-left-level-clause-verdict c =
    sym
    (no_point _ _ _ _ c.if-marks-axes.false c.if-levels-axes.false c.if-indices-axes.false
    (level_fails c.loop-t.invariant.tested c.loop-t-test.true c.if-left-level.true))

pub is_index-requires : goal.is_index-requires
is_index-requires c = omega (arith, c.if-left-level.false, c.loop-t.invariant.tested.rest, c.args.checked.top)

pub returns-then-not-is_index-clause-verdict : goal.returns-then-not-is_index-clause-verdict
returns-then-not-is_index-clause-verdict c =
    sym
    (no_point _ _ _ _ c.if-marks-axes.false c.if-levels-axes.false c.if-indices-axes.false
    (index_fails c.loop-t.invariant.tested c.loop-t-test.true (sym c.is_index.ensures ∙ c.if-not-is_index.true)))

pub returns-then-not-mark_fits-clause-verdict : goal.returns-then-not-mark_fits-clause-verdict
returns-then-not-mark_fits-clause-verdict c =
    sym
    (no_marks _ _ _ _ c.if-marks-axes.false c.if-levels-axes.false c.if-indices-axes.false
    (mark_fails c.loop-t.invariant c.loop-t-test.true (sym c.mark_fits.ensures ∙ c.if-not-mark_fits.true)))

pub loop-t-preserved : goal.loop-t-preserved
loop-t-preserved c =
    rw add-one
    (walk_steps c.loop-t.invariant c.loop-t-test.true c.args.checked.few (omega (arith, c.if-left-level.false))
    (sym c.is_index.ensures ∙ c.if-not-is_index.false)
    (sym c.mark_fits.ensures ∙ c.if-not-mark_fits.false))

-- ---- all axes

-- where the walk along all axes has come
module _ (c : After-loop-t) where
  walked : Walked c.args.checked.shape c.args.marks.now c.args.levels.now c.args.indices.now c.loop-t.t c.loop-t.left c.loop-t.point_levels c.loop-t.point_indices
  walked = c.loop-t.invariant

  last : c.args.checked.shape.axes ≤ c.loop-t.t
  last = omega (arith, c.loop-t-test.false)

pub returns-clause-verdict : goal.returns-clause-verdict
returns-clause-verdict c =
    sym (all_tested _ _ _ _ c.if-marks-axes.false c.if-levels-axes.false c.if-indices-axes.false (walk_point (walked c) (last c)) (walk_fits (walked c) (last c)))

pub returns-clause-levels : goal.returns-clause-levels
returns-clause-levels c = (walk_value (walked c) (last c) c.if-levels-axes.false c.if-indices-axes.false).0

pub returns-clause-indices : goal.returns-clause-indices
returns-clause-indices c = (walk_value (walked c) (last c) c.if-levels-axes.false c.if-indices-axes.false).1
