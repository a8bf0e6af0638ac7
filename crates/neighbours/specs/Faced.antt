-- Face number f of a table with values on the border, as a turn on an axis meets it.
-- Assumes nothing.
use Rattle.std.specs.Prelude.{◌≡◌, ℕ, ◌<◌, Option, Some, None}
use Rattle.faces.specs.Row.{marks_of, inner_of, row}
use Rattle.neighbours.specs.declared.facets.Line.{Line}
use Rattle.neighbours.specs.declared.facets.Facet.{Facet}

-- None where the axis is a border axis of the face; else the face with its inner axes and its first number.
abbrev pub FacetOf : Line → ℕ → Option Facet → Type 0
FacetOf line f None = 0 < marks_of line.shape.axes f line.place
FacetOf line f (Some facet) =
    (marks_of line.shape.axes f line.place ≡ 0)
    × (facet.line ≡ line)
    × (facet.axes ≡ inner_of line.shape.axes f)
    × (facet.base ≡ row line.shape.axes line.shape.level f)
