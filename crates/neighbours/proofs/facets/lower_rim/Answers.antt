-- `lower_rim` meets its contract: the marks with one of them set are those of the face.
-- Assumes nothing.
use mathlib.Core.Path.{ap, ◌∙◌}
use native.Mathlib.Omega.{arith}
use Rattle.faces.specs.Marked.{face_start}
use Rattle.neighbours.proofs.Marking.{at_set}
use Rattle.neighbours.proofs.facets.lower_rim.Goals as goal

pub returns : goal.returns
returns c =
    let s = c.args.line.shape in
    c.face_start.ensures
    ∙ ap (face_start s.axes s.level) (at_set c.args.marks c.args.line.place 1 (omega (arith, c.args.line.axis, c.args.line.few)))
