-- The grid of a shape: its points by number, and their neighbours. The one place where everything above learns what they are; how many points there are
-- stands beside the count (`points_of`, shapes/specs/Shapes.antt). With values on the border points are numbered over the faces (faces/specs), else as in
-- document 01.
-- Assumes nothing.
use Rattle.std.specs.Prelude.{ℕ, suc, if◌then◌else◌}
use Rattle.numbering.specs.declared.Side.{Side}
use Rattle.numbering.specs.Number.{number}
use Rattle.numbering.specs.Inverse.{level_at, index_at}
use Rattle.numbered.specs.Numbered.{Numbered, unmarked}
use Rattle.numbered.specs.Neighbours as numbered_points
use Rattle.faces.specs.Marked.{border_number, mark_at, border_level_at, border_index_at}
use Rattle.shapes.specs.declared.Shape.{Shape}
use Rattle.shapes.specs.Shapes.{points_of}

-- The number of the point of marks m, levels l and indices i.
unfoldable pub number_of : Shape → (ℕ → ℕ) → (ℕ → ℕ) → (ℕ → ℕ) → ℕ
number_of s m l i = if s.border then border_number s.axes s.level m l i else number s.axes l i

-- The marks, the levels and the indices of point number p: each by axis, from 0; 0 past the last axis.
unfoldable pub mark_on : Shape → ℕ → ℕ → ℕ
mark_on s p = if s.border then mark_at s.axes s.level p else unmarked

unfoldable pub level_on : Shape → ℕ → ℕ → ℕ
level_on s p = if s.border then border_level_at s.axes s.level p else level_at s.axes s.level p

unfoldable pub index_on : Shape → ℕ → ℕ → ℕ
index_on s p = if s.border then border_index_at s.axes s.level p else index_at s.axes s.level p

-- The points of a shape, as numbered points.
abbrev pub numbered : Shape → Numbered
numbered s =
    record {
      axes = s.axes;
      count = points_of s;
      border = s.border;
      number = number_of s;
      mark = mark_on s;
      level = level_on s;
      index = index_on s;
    }

-- The neighbour of a code on axis t (from 0), on either side: code 0 is no point, code p + 1 is point number p. Beside no point, past the
-- last number and on an axis that the shape does not have it is no point.
unfoldable pub neighbour : Shape → ℕ → Side → ℕ → ℕ
neighbour s t side p = numbered_points.neighbour (numbered s) t side p

-- How deep a code lies on an axis: one more than its level there, and 0 on the border.
unfoldable pub depth : Shape → ℕ → ℕ → ℕ
depth s t p = numbered_points.depth (numbered s) t p

-- More than the depth of any code: how many neighbours one above the other a turn back goes through.
unfoldable pub height : Shape → ℕ
height s = suc (suc s.level)
