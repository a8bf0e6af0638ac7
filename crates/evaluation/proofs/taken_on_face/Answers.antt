use mathlib.Core.Path.{◌≡◌, sym, ◌∙◌}
use Prim.Native.Nat.{suc, ◌<◌}
use native.Mathlib.Numerals.{add-one}
use native.Mathlib.Omega.{arith}
use Rattle.numbering.specs.Point.{at}
use Rattle.faces.specs.Packing.{before}
use Rattle.faces.proofs.Packing.{before_zero}
use Rattle.evaluation.specs.Steps.{whole}
use Rattle.evaluation.proofs.Taking.{place_le, inner_level, border_level, next_inner, next_border, taken_starts, level_small, taken_room, taken_steps, taken_ends}
use Rattle.evaluation.proofs.taken_on_face.Goals.{then-mark-eq0, else-mark-eq0, Then-mark-eq0, Joined-mark-eq0}
use Rattle.evaluation.proofs.taken_on_face.Goals as goal

pub loop-t-init : goal.loop-t-init
loop-t-init c = (rw c.none-passed.ensures (taken_starts _ _ _), sym (before_zero (at c.args.marks.now)))

-- so many inner axes are below 8
place_small : (c : Then-mark-eq0) → c.loop-t.place < 8
place_small c = omega (arith, c.loop-t.invariant.1, place_le (at c.args.marks.now) c.loop-t.t, c.loop-t-test.true, c.requires.1.few)

pub offset_bounds-levels-place : goal.offset_bounds-levels-place
offset_bounds-levels-place c = record { fits = omega (arith, place_small (goal.at.offset_bounds-levels-place c).Then-mark-eq0) }

pub bounds-levels-place : goal.bounds-levels-place
bounds-levels-place c = place_small (goal.at.bounds-levels-place c).Then-mark-eq0

pub overflow_add-place : goal.overflow_add-place
overflow_add-place c = record { fits = omega (arith, place_small (goal.at.overflow_add-place c).Then-mark-eq0) }

-- past the test the level is that of the axis, and so many inner axes are passed
level_here : (c : Joined-mark-eq0) → c.if-mark-eq0.level ≡ whole c.args.axes (at c.args.marks.now) (at c.args.levels.now) c.loop-t.t
level_here c =
    let m = at c.args.marks.now in
    let v = at c.args.levels.now in
    let lt = c.loop-t-test.true in
    elim c.if-mark-eq0.branch [
      | then-mark-eq0 w ↦ w.level-is ∙ inner_level c.args.axes m v c.loop-t.t lt w.if-mark-eq0.true c.loop-t.place c.loop-t.invariant.1
      | else-mark-eq0 w ↦ w.level-is ∙ border_level c.args.axes m v c.loop-t.t lt w.if-mark-eq0.false
    ]

place_here : (c : Joined-mark-eq0) → c.if-mark-eq0.place ≡ before (at c.args.marks.now) (suc c.loop-t.t)
place_here c =
    let m = at c.args.marks.now in
    elim c.if-mark-eq0.branch [
      | then-mark-eq0 w ↦ w.place-is ∙ next_inner m c.loop-t.t w.if-mark-eq0.true c.loop-t.place c.loop-t.invariant.1
      | else-mark-eq0 w ↦ w.place-is ∙ next_border m c.loop-t.t w.if-mark-eq0.false c.loop-t.place c.loop-t.invariant.1
    ]

pub bounds-hats-level : goal.bounds-hats-level
bounds-hats-level c =
    let here = (goal.at.bounds-hats-level c).Joined-mark-eq0 in
    omega (arith, level_here here, level_small c.requires.1 c.loop-t.invariant.0 c.loop-t-test.true)

pub with-passed-requires : goal.with-passed-requires
with-passed-requires c =
    let here = (goal.at.with-passed-requires c).Joined-mark-eq0 in
    rw (level_here here) (taken_room c.requires.1 c.loop-t.invariant.0 c.loop-t-test.true)

pub loop-t-preserved : goal.loop-t-preserved
loop-t-preserved c =
    let here = (goal.at.loop-t-preserved c).Joined-mark-eq0 in
    rw (add-one c.loop-t.t) (
      rw (c.with-passed.ensures, level_here here) (taken_steps c.requires.1 c.loop-t.invariant.0 c.loop-t-test.true),
      place_here here,
    )

pub returns : goal.returns
returns c = rw c.term.ensures (taken_ends c.loop-t.invariant.0 (omega (arith, c.loop-t-test.false)))
