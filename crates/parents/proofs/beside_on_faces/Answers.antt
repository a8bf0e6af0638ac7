-- `parents::beside_on_faces` meets its contract: the checks decide the refusal, and of what they pass the point is moved along the axis.
-- Assumes nothing.
use Rattle.std.specs.Prelude.{Ok}
use mathlib.Core.Path.{◌≡◌, sym, ap, ◌∙◌}
use Rattle.numbering.specs.Point.{at}
use Rattle.parents.specs.Parents.{parent_of}
use Rattle.shapes.proofs.Checked.{checked_in_range}
use Rattle.points.proofs.Handed.{lists_checked}
use Rattle.points.proofs.Passed.{marks_by_value}
use Rattle.parents.proofs.Accepted.{Accepted, accepted}
use Rattle.parents.proofs.beside_on_faces.Goals.{In_ok-point}
use Rattle.parents.proofs.beside_on_faces.Goals as goal

-- what the passed checks tell
known : (c : In_ok-point) → let a = c.args in Accepted a.shape a.marks.now a.levels.now a.indices.now a.axis c.in_ok-point.point
known c =
    let same : c.in_ok-checked.checked.shape ≡ c.args.shape = c.in_ok-checked.ensures.shape in
    accepted _ _ _ _ _ (rw same at (checked_in_range c.in_ok-checked.checked))
    (sym c.in_ok-check_axis.ensures) (rw same at (sym c.in_ok-point.ensures))

pub overflow_sub-axis : goal.overflow_sub-axis
overflow_sub-axis c = (known (goal.at.overflow_sub-axis c).In_ok-point).low

pub beside-requires : goal.beside-requires
beside-requires c =
    let s = (known (goal.at.beside-requires c).In_ok-point).steps in
    (s.place, s.small, s.odd, s.below)

pub returns : goal.returns
unfolding parent_of
returns c =
    let p = (known (goal.at.returns c).In_ok-point).handed in
    let marks = ap at c.padded-marks.ensures ∙ marks_by_value p.passes in
    rw (
      sym c.in_ok-checked.ensures.verdict,
      sym c.in_ok-check_axis.ensures,
      lists_checked _ _ _ _ (rw c.in_ok-checked.ensures.shape at (sym c.in_ok-point.ensures)),
      ← p.levels,
      ← p.indices,
      ← marks,
      c.requires,
    )
    (ap Ok c.beside.ensures)
