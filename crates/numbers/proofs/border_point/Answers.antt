-- `numbers::border_point` meets its contract: the face and the number within it are those of the number, and what the inner axes have is put back.
-- Assumes nothing.
use mathlib.Core.Path.{◌∙◌}
use native.Mathlib.Omega.{arith}
use Rattle.numbers.proofs.OnFaces.{in_table, point_made}
use Rattle.numbers.proofs.border_point.Goals as goal

pub point_within-requires : goal.point_within-requires
point_within-requires c =
    let face = c.face_of_number-face.ensures in
    (omega (arith, face.1, c.requires.0), c.requires.1, in_table _ _ _ c.requires.2 face.1 face.2)

pub returns : goal.returns
returns c =
    let face = c.face_of_number-face.ensures in
    rw c.point_within.ensures at c.on_face.ensures ∙ point_made _ _ _ c.requires.2 face.1 face.2 _ face.0 (omega (arith, c.requires.0))
