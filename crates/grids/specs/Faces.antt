-- The faces of a shape, in a row (faces/specs/Row.antt). With a zero border there is one: the face that lies inside on every axis, which comes first.
-- Assumes nothing.
use Rattle.std.specs.Prelude.{ℕ, if◌then◌else◌}
use Rattle.faces.specs.Row.{all_faces}
use Rattle.shapes.specs.declared.Shape.{Shape}

-- How many faces a shape has.
unfoldable pub faces_of : Shape → ℕ
faces_of s = if s.border then all_faces s.axes else 1
