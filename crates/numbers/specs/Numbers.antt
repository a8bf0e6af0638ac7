-- What the calls between points and numbers answer (document 01, "Numbering the points"; document 02, g).
-- Assumes nothing.
use Rattle.refusals.specs.declared.Refusal.{Refusal}
use Rattle.std.specs.Prelude.{List, ℕ, ltb, Result, Ok, Err}
use Rattle.refusals.specs.declared.Refusal.TheVariants.{PointNumber}
use Rattle.refusals.specs.Checks.{unless, ◌and_then◌, answer}
use Rattle.numbering.specs.Point.{at}
use Rattle.shapes.specs.declared.Shape.{Shape}
use Rattle.shapes.specs.Shapes.{check_shape, points_of}
use Rattle.grids.specs.Grids.{number_of}
use Rattle.points.specs.declared.MarkedPoint.{MarkedPoint}
use Rattle.points.specs.Points.{check_point, point_at}

-- The number of a point.
unfoldable pub number_of_point : Shape → List ℕ → List ℕ → List ℕ → Result ℕ Refusal
number_of_point s ms ls is = answer Err (check_point s ms ls is) (Ok (number_of s (at ms) (at ls) (at is)))

-- The point of a number.
unfoldable pub point_of_number : Shape → ℕ → Result MarkedPoint Refusal
point_of_number s p = answer Err (check_shape s and_then unless (ltb p (points_of s)) PointNumber) (Ok (point_at s p))
