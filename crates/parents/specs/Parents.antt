-- What the call for a hierarchical parent answers (document 01, "Parents and turns"; document 02, g).
-- Assumes nothing.
use Rattle.std.specs.Prelude.{List, ℕ, ◌-◌, Option, Some, None, Result, Ok, Err}
use Rattle.refusals.specs.declared.Refusal.{Refusal}
use Rattle.refusals.specs.Checks.{◌and_then◌, answer}
use Rattle.numbering.specs.declared.Side.{Side}
use Rattle.numbering.specs.Point.{at}
use Rattle.numbered.specs.Neighbours.{Place, nowhere, somewhere, beside}
use Rattle.shapes.specs.declared.Shape.{Shape}
use Rattle.shapes.specs.Shapes.{check_shape, check_axis}
use Rattle.points.specs.declared.MarkedPoint.{MarkedPoint}
use Rattle.points.specs.Points.{check_lists, point_of}

-- The point by value, or none.
unfoldable pub located : Place → Option MarkedPoint
located nowhere = None
located (somewhere m l i) = Some (point_of m l i)

-- What lies beside a point on one side on an axis: with a zero border none across the border, with values on the border the border point there; beside a border
-- point on its axis none. Refused with 1, 2, 19, 5, 7 or 9. Axis t of the paper is place t − 1.
unfoldable pub parent_of : Shape → List ℕ → List ℕ → List ℕ → ℕ → Side → Result (Option MarkedPoint) Refusal
parent_of s ms ls is axis side =
    answer Err (check_shape s and_then check_axis s axis and_then check_lists s ms ls is)
    (Ok (located (beside s.border (axis - 1) side (at ms) (at ls) (at is))))
