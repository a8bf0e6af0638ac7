-- A face of a table with values on the border as a way over the faces meets it: where it starts and ends, that nothing moves on it where the axis is a border axis, and
-- that the work on it is that of its level lists.
-- Assumes nothing.
use mathlib.Core.Path.{◌≡◌, refl, ap, ap₂}
use mathlib.Core.Bool.{Bool, true}
use mathlib.Core.List.{List}
use Prim.Native.Nat.{ℕ, suc, ◌≤◌, ◌<◌}
use native.Mathlib.Omega.{arith}
use borrow.Author.Tests.{eq-eqb, ne_eqb}
use lib.IntN.{ℤ}
use Rattle.std.specs.Prelude.{Some, None}
use Rattle.numbering.specs.Count.{points}
use Rattle.hierarchy.specs.Grid.{Still}
use Rattle.faces.specs.Row.{marks_of, row}
use Rattle.faces.proofs.Row.{row_suc, row_mono}
use Rattle.shapes.specs.declared.Shape.{Shape}
use Rattle.shapes.specs.Shapes.{points_of}
use Rattle.grids.specs.Grids.{neighbour}
use Rattle.grids.specs.Faces.{faces_of}
use Rattle.grids.proofs.Faces.{faces_end, faces_bordered}
use Rattle.grids.proofs.Facets.{face_still}
use Rattle.neighbours.specs.Faced.{FacetOf}
use Rattle.neighbours.specs.declared.facets.Line.{Line}
use Rattle.neighbours.specs.declared.facets.Facet.{Facet}
use Rattle.neighbours.proofs.Staying.{facet_end}
use Rattle.sweeps.specs.Sweeps.{lists_worked, walk, face_worked}

-- A face's points, numbered from the table's first.
module _ (line : Line) (on : line.shape.border ≡ true) (f : ℕ) (in_row : f < faces_of line.shape) where
  abbrev s : Shape
  s = line.shape

  abbrev t : ℕ
  t = line.place

  abbrev lo : ℕ
  lo = row s.axes s.level f

  abbrev hi : ℕ
  hi = row s.axes s.level (suc f)

  pub order : lo ≤ hi
  order = row_mono s.axes s.level f (suc f) (omega arith)

  pub inside_table : hi ≤ points_of s
  inside_table = omega (arith, row_mono s.axes s.level (suc f) (faces_of s) in_row, faces_end s)

  -- Where the axis is a border axis of it.
  module _ (border : FacetOf line f None) where
    pub nothing_moves : (p : ℕ) → lo ≤ p → p < hi → Still (neighbour s) t (suc p)
    nothing_moves p from to = face_still s on f (rw (faces_bordered s on) at in_row) t line.axis border p from to

    pub passed_over : (ahead : Bool) (ys : List ℤ) → face_worked ahead s t f ys ≡ ys
    unfolding face_worked
    passed_over ahead ys = rw (ne_eqb (marks_of s.axes f t) 0 (λ e. omega (arith, border))) refl

  -- Where it is an inner axis.
  module _ (facet : Facet) (is : FacetOf line f (Some facet)) where
    pub starts_at : facet.base ≡ lo
    starts_at = is.3

    pub ends_at : facet_end facet ≡ hi
    ends_at =
        omega (
          arith,
          is.3,
          row_suc s.axes s.level f,
          ap₂ (λ (k n : ℕ). points k n) is.2 (ap (λ (l : Line). l.shape.level) is.1),
        )

    pub worked_as : (ahead : Bool) (ys zs : List ℤ) →
        zs ≡ lists_worked ahead facet.line.shape facet.line.place facet.base facet.axes (walk ahead facet.axes facet.line.shape.level) ys →
        zs ≡ face_worked ahead s t f ys
    unfolding face_worked
    worked_as ahead ys zs e = rw (eq-eqb (marks_of s.axes f t) 0 is.0) (rw (is.1, is.2, is.3) at e)
