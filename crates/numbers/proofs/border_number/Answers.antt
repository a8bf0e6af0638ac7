-- `numbers::border_number` meets its contract: what the inner axes have is a point of the sparse table of the face, and its number there follows the face's
-- first number.
-- Assumes nothing.
use mathlib.Core.Path.{◌≡◌, ◌∙◌}
use Prim.Native.Nat.{◌≤◌}
use native.Mathlib.Omega.{arith}
use Rattle.numbering.specs.Point.{at}
use Rattle.faces.specs.Marked.{in_face}
use Rattle.numbers.proofs.Parts.{at_most_eight}
use Rattle.numbers.proofs.InnerAxes.{before_le}
use Rattle.numbers.proofs.OnFaces.{face_point, face_number, number_made, number_fits}
use Rattle.numbers.proofs.border_number.Goals.{After-number_within}
use Rattle.numbers.proofs.border_number.Goals as goal

pub number_within-requires : goal.number_within-requires
number_within-requires c =
    let a = c.args in
    let w = c.within_face-within.ensures in
    let few : a.axes ≤ 8 = omega (arith, c.requires.0) in
    rw (w.0, w.1) (omega (arith, before_le (at a.marks.now) a.axes, few), at_most_eight (face_point c.requires.2 few) c.requires.1)

-- the number within the face
there : (c : After-number_within) → let a = c.args in
    c.number_within.result ≡ in_face a.axes (at a.marks.now) (at a.p.levels) (at a.p.indices)
there c =
    let w = c.within_face-within.ensures in
    rw (w.0, w.1) at c.number_within.ensures ∙ face_number c.requires.2 (omega (arith, c.requires.0))

pub overflow_add-result : goal.overflow_add-result
overflow_add-result c =
    let r = c.requires in
    omega (arith, number_fits r.2 c.face_start.ensures (there (goal.at.overflow_add-result c).After-number_within) r.0 r.1)

pub returns : goal.returns
returns c = number_made c.requires.2 c.face_start.ensures (there (goal.at.returns c).After-number_within)
