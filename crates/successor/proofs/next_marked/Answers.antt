-- `successor::next_marked` meets its contract: the next point of the face is the next point of the table, and past the last of the face the number decides.
-- Assumes nothing.
use Rattle.std.specs.Prelude.{Some}
use mathlib.Core.Path.{◌≡◌, ap, sym, ◌∙◌}
use Prim.Native.Nat.{ℕ, ◌≤◌}
use native.Mathlib.Omega.{arith}
use Rattle.numbering.specs.Point.{at}
use Rattle.faces.specs.Packing.{before}
use Rattle.faces.specs.Marked.{in_face}
use Rattle.faces.proofs.Numbering.{border_number_lt}
use Rattle.shapes.proofs.Layers.{border_points_small}
use Rattle.numbers.proofs.InnerAxes.{before_le}
use Rattle.numbers.proofs.OnFaces.{face_point, face_number}
use Rattle.successor.specs.Steps.{next_inner, unmarked_next}
use Rattle.successor.proofs.Sorts.{unmarked_some}
use Rattle.successor.proofs.OnFace.{next_on_face}
use Rattle.successor.proofs.next_marked.Goals.{After-next_within}
use Rattle.successor.proofs.next_marked.Goals as goal

pub next_within-requires : goal.next_within-requires
next_within-requires c =
    let a = c.args in
    let w = c.within_face-here.ensures in
    let few : a.axes ≤ 8 = omega (arith, c.requires.0) in
    rw (w.0, w.1) (omega (arith, before_le (at a.marks) a.axes, few), c.requires.1, face_point c.requires.2 few)

-- what the step within the face answers
answer : (c : After-next_within) → let a = c.args in
    c.next_within.result
    ≡ unmarked_next (next_inner (before (at a.marks) a.axes) a.level (in_face a.axes (at a.marks) (at a.p.levels) (at a.p.indices)))
answer c =
    let a = c.args in
    let w = c.within_face-here.ensures in
    rw (w.0, w.1) at c.next_within.ensures
    ∙ ap (λ (q : ℕ). unmarked_next (next_inner (before (at a.marks) a.axes) a.level q)) (face_number c.requires.2 (omega (arith, c.requires.0)))

pub returns-in-Some : goal.returns-in-Some
returns-in-Some c =
    let step = (goal.at.returns-in-Some c).After-next_within in
    ap Some c.on_face.ensures
    ∙ next_on_face c.requires.2 (omega (arith, c.requires.0)) c.in-Some.next.point
    (unmarked_some _ c.in-Some.next (sym (answer step) ∙ c.in-Some.is))

pub next_face-requires : goal.next_face-requires
next_face-requires c =
    let a = c.args in
    let r = c.requires in
    (r.0, r.1, omega (arith, c.border_number.ensures, border_number_lt r.2, border_points_small a.axes a.level r.0 r.1))
