-- Shapes, the count of their points, and the checks of a shape, of a table's length and of an axis (document 01, "Terms and limits").
-- Assumes nothing.
use Rattle.refusals.specs.declared.Refusal.{Refusal}
use Rattle.std.specs.Prelude.{Bool, true, false, ◌&&◌, ℕ, leb, eqb, if◌then◌else◌, Result, Ok, Err}
use Rattle.refusals.specs.declared.Refusal.TheVariants.{Axes, Level, TooManyPoints, TableLength, Axis}
use Rattle.refusals.specs.Checks.{unless, ◌and_then◌, answer, Verdict}
use Rattle.numbering.specs.Count.{points}
use Rattle.faces.specs.Marked.{border_points}
use Rattle.shapes.specs.declared.Shape.{Shape}

-- The shape of d axes and top level n with a zero border: one sparse table.
abbrev pub sparse : ℕ → ℕ → Shape
sparse d n = record { axes = d; level = n; border = false }

-- The same with values on the border (document 02, g): a sparse table on each face.
abbrev pub with_border : ℕ → ℕ → Shape
with_border d n = record { axes = d; level = n; border = true }

-- The most axes of a shape: 8 with a zero border, 4 with values on the border (document 02, g).
abbrev pub most_axes : Bool → ℕ
most_axes true = 4
most_axes false = 8

-- A shape has from 1 to the most axes, else refused with 1, and a top level of at most 8, else with 2.
unfoldable pub check_limits : Shape → Verdict
check_limits s = unless (leb 1 s.axes && leb s.axes (most_axes s.border)) Axes and_then unless (leb s.level 8) Level

-- The largest number of points that is run, of a table of either sort and of a component grid (document 02, h and c).
abbrev pub most_points : ℕ
most_points = 32768

-- The most level lists that a shape of so many points has, of d = 8 and n = 5: an estimate sums one point for each (document 02, k).
abbrev pub most_terms : ℕ
most_terms = 1287

-- N, the number of points of a shape.
unfoldable pub points_of : Shape → ℕ
points_of s = if s.border then border_points s.axes s.level else points s.axes s.level

-- A shape has at most the most points that are run, else refused with 19 (document 02, h).
unfoldable pub check_size : Shape → Verdict
check_size s = unless (leb (points_of s) most_points) TooManyPoints

-- A shape is refused with 1, 2 or 19. (With a state it is not one check: 14 stands between 2 and 19.)
unfoldable pub check_shape : Shape → Verdict
check_shape s = check_limits s and_then check_size s

-- A table of a shape has N places, else refused with 3.
unfoldable pub check_length : Shape → ℕ → Verdict
check_length s places = unless (eqb places (points_of s)) TableLength

-- The count of the points of a shape.
unfoldable pub counted : Shape → Result ℕ Refusal
counted s = answer Err (check_shape s) (Ok (points_of s))

-- An axis of a shape is one of 1 to d, else refused with 5.
unfoldable pub check_axis : Shape → ℕ → Verdict
check_axis s axis = unless (leb 1 axis && leb axis s.axes) (Axis axis)
