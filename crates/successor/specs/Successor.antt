-- What the call for the successor of a point answers (document 01, "Numbering the points"; document 02, g).
-- Assumes nothing.
use Rattle.std.specs.Prelude.{List, ℕ, suc, ltb, if◌then◌else◌, Option, Some, None, Result, Ok, Err}
use Rattle.refusals.specs.declared.Refusal.{Refusal}
use Rattle.refusals.specs.Checks.{answer}
use Rattle.numbering.specs.Point.{at}
use Rattle.shapes.specs.declared.Shape.{Shape}
use Rattle.shapes.specs.Shapes.{points_of}
use Rattle.grids.specs.Grids.{number_of}
use Rattle.points.specs.declared.MarkedPoint.{MarkedPoint}
use Rattle.points.specs.Points.{check_point, point_at}

-- After number p: the point numbered one higher, or none, the end, where p is the last number N − 1.
unfoldable pub after : Shape → ℕ → Option MarkedPoint
after s p = if ltb (suc p) (points_of s) then Some (point_at s (suc p)) else None

-- The successor of a point: refused with 1, 2, 19, 7 or 9.
unfoldable pub successor_of : Shape → List ℕ → List ℕ → List ℕ → Result (Option MarkedPoint) Refusal
successor_of s ms ls is = answer Err (check_point s ms ls is) (Ok (after s (number_of s (at ms) (at ls) (at is))))
