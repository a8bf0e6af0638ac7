-- A face of a table with values on the border as a turn on one of its inner axes meets it: the parents lie on it, and across the border of the axis lie the faces where
-- the axis is a border axis. They come later in the row, and their points do not move on the axis.
-- Assumes nothing.
use mathlib.Core.Path.{◌≡◌, refl, ap, ◌∙◌}
use mathlib.Core.Bool.{true}
use Rattle.std.specs.Prelude.{Some}
use Prim.Native.Nat.{ℕ, suc, ◌+◌, ◌≤◌, ◌<◌}
use native.Mathlib.Omega.{arith}
use Rattle.naturals.proofs.Cases.{eq_or_not}
use Rattle.numbering.specs.declared.Side.{Side}
use Rattle.numbering.specs.declared.Side.TheVariants.{Left, Right}
use Rattle.numbering.specs.Count.{points}
use Rattle.numbering.specs.Inverse.{level_at, index_at}
use Rattle.numbering.specs.Parent.{update}
use Rattle.numbering.proofs.Parents.{update_same, update_other}
use Rattle.numbered.specs.Numbered.{mark_of}
use Rattle.faces.specs.Packing.{before}
use Rattle.faces.specs.Marked.{face_start}
use Rattle.faces.specs.Row.{all_faces, marks_of, inner_of, row}
use Rattle.faces.proofs.Row.{mark_of_low, inner_of_is, face_inside}
use Rattle.shapes.specs.declared.Shape.{Shape}
use Rattle.shapes.specs.Shapes.{most_axes, points_of}
use Rattle.shapes.proofs.Layers.{points_bordered}
use Rattle.grids.specs.Grids.{neighbour}
use Rattle.grids.proofs.Facets.{facet_place, facet_inside, facet_parent, facet_across, facet_behind, facet_still}
use Rattle.numbering.specs.Point.{at}
use Rattle.layouts.specs.Layouts.{IsFace}
use Rattle.layouts.specs.declared.Face.{Face}
use Rattle.neighbours.specs.Facets.{on_border, number_without, across, Apart, Sits, rim_on, without}
use Rattle.neighbours.specs.declared.facets.Line.{Line}
use Rattle.neighbours.specs.declared.facets.Rims.{Rims}

module _ (line : Line) (on : line.shape.border ≡ true) (f : ℕ) (in_row : f < all_faces line.shape.axes)
    (inside : marks_of line.shape.axes f line.place ≡ 0) where
  abbrev s : Shape
  s = line.shape

  abbrev t : ℕ
  t = line.place

  abbrev m : ℕ → ℕ
  m = marks_of s.axes f

  -- The first number of the face across the border with this mark.
  abbrev pub rim : ℕ → ℕ
  rim a = face_start s.axes s.level (update m t a)

  abbrev pub rims_there : Rims
  rims_there = record { lower = rim 1; upper = rim 2 }

  rim_is : (b : Side) → rim (mark_of b) ≡ rim_on rims_there b
  rim_is Left = refl
  rim_is Right = refl

  rim_within : (a : ℕ) → a ≤ 2 → rim a ≤ points_of s
  rim_within a low =
      omega (arith, points_bordered s on, face_inside s.axes s.level (update m t a) marks)
    where
      marks : (u : ℕ) → u < s.axes → update m t a u ≤ 2
      marks u h =
          eq_or_not u t
          (λ same. rw (same, update_same m t a) low)
          (λ other. rw (update_other m t a u other) (mark_of_low s.axes f u))

  pub few : s.axes ≤ 4
  few = omega (arith, line.most, ap most_axes on)

  module _ (q : ℕ) (h : q < points (inner_of s.axes f) s.level) (b : Side)
      (e : on_border (before m t) b (level_at (inner_of s.axes f) s.level q) (index_at (inner_of s.axes f) s.level q) ≡ true) where
    abbrev x : ℕ
    x = number_without (inner_of s.axes f) (before m t) (level_at (inner_of s.axes f) s.level q) (index_at (inner_of s.axes f) s.level q)

    there : neighbour s t b (suc (row s.axes s.level f + q)) ≡ suc (rim (mark_of b) + x)
    unfolding without
    there = facet_across s on f in_row t line.axis inside q h b e

    outside : neighbour s t b (suc (row s.axes s.level f + q)) ≡ across (Some rims_there) b x
    unfolding across
    outside = there ∙ ap (λ (r : ℕ). suc (r + x)) (rim_is b)

    behind : row s.axes s.level f + points (inner_of s.axes f) s.level < neighbour s t b (suc (row s.axes s.level f + q))
    behind = omega (arith, there, facet_behind s on f in_row t line.axis inside q h b e)

    far : Apart (neighbour s) t (row s.axes s.level f) (row s.axes s.level f) (row s.axes s.level f + points (inner_of s.axes f) s.level)
        (neighbour s t b (suc (row s.axes s.level f + q)))
    far some = (omega (arith, behind), λ more. (behind, facet_still s on f in_row t line.axis inside q h b e))

  pub faced : Sits s t (inner_of s.axes f) (before m t) (row s.axes s.level f) (Some rims_there)
  faced =
      record {
        inside = facet_inside s on f in_row t line.axis inside;
        low = λ r e. rw (← some_is r e) (rim_within 1 (omega arith), rim_within 2 (omega arith));
        inner = facet_parent s on f in_row t line.axis inside;
        outer = outside;
        apart = far;
      }
    where
      some_is : (r : Rims) → Some rims_there ≡ Some r → rims_there ≡ r
      some_is r e = cc

  -- The same of a face by value.
  pub faced_by : (face : Face) → IsFace s.axes s.level f face → (place lower upper : ℕ) → place ≡ before (at face.marks) t →
      lower ≡ face_start s.axes s.level (update (at face.marks) t 1) → upper ≡ face_start s.axes s.level (update (at face.marks) t 2) →
      Sits s t face.inner place face.start (Some (record { lower = lower; upper = upper }))
  faced_by face is place lower upper there low high =
      rw (is.inner, is.start, there, low, high, is.marks) faced

  pub placed_by : (face : Face) → IsFace s.axes s.level f face → (place : ℕ) → place ≡ before (at face.marks) t → place < face.inner
  placed_by face is place there = rw (is.inner, there, is.marks) (facet_place s on f in_row t line.axis inside)

  pub few_inner : (face : Face) → IsFace s.axes s.level f face → face.inner ≤ 8
  few_inner face is = omega (arith, is.inner, inner_of_is s.axes f, few)
