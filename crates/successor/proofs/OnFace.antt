-- The next point on a face is the next point of the table: the numbers of a face follow one another from its first number on, and have its marks.
-- Assumes nothing.
use Rattle.std.specs.Prelude.{Some, None}
use mathlib.Core.Path.{◌≡◌, ap, sym, ◌∙◌}
use Prim.Native.Nat.{ℕ, suc, ◌+◌, ◌-◌, ◌≤◌, ◌<◌}
use native.Mathlib.Omega.{arith}
use borrow.Author.Tests.{lt-ltb, le-ltb}
use Rattle.numbering.specs.Count.{points}
use Rattle.numbering.specs.Point.{at}
use Rattle.numbering.specs.Inverse.{level_at, index_at}
use Rattle.faces.specs.Faces.{borders}
use Rattle.faces.specs.Packing.{before}
use Rattle.faces.specs.Marked.{Marked, border_points, face_start, in_face, border_number, borders_at, number_at, mark_at, border_level_at, border_index_at}
use Rattle.faces.specs.Row.{all_faces, face_number, marks_of, inner_of, row}
use Rattle.faces.proofs.Packing.{inner_axes}
use Rattle.faces.proofs.Numbering.{border_number_is}
use Rattle.faces.proofs.Row.{face_number_lt, marks_are, row_of_face, row_inside, inner_of_marks, row_marks, row_inner, row_number}
use Rattle.points.specs.declared.Point.{Point}
use Rattle.points.specs.Points.{eight, bare_point, point_of}
use Rattle.numbers.specs.Steps.{spread}
use Rattle.numbers.proofs.OnFaces.{point_made}
use Rattle.successor.specs.Steps.{next_inner, next_marked}
use Rattle.successor.proofs.Reached.{inner_some}

-- ---- number q of the face with the marks m

module _ (d n : ℕ) (m : ℕ → ℕ) (marks : (t : ℕ) → t < d → m t ≤ 2) (none : (t : ℕ) → d ≤ t → m t ≡ 0) (q : ℕ) (inside : q < points (before m d) n) where
  abbrev f : ℕ
  f = face_number d m

  abbrev p : ℕ
  p = face_start d n m + q

  one : f < all_faces d
  one = face_number_lt d m marks

  same : marks_of d f ≡ m
  same = marks_are d m marks none

  starts : row d n f + q ≡ p
  starts = ap (λ (a : ℕ). a + q) (row_of_face d n m marks)

  inner : inner_of d f ≡ before m d
  inner = sym (inner_of_marks d n f one) ∙ ap (λ (o : ℕ → ℕ). d - borders o d) same ∙ sym (inner_axes m d)

  within : q < points (inner_of d f) n
  within = rw inner inside

  pub face_inside : p < border_points d n
  face_inside = omega (arith, row_inside d n f one, starts, within)

  face_marks : m ≡ mark_at d n p
  face_marks = sym (ap (mark_at d n) (sym starts) ∙ row_marks d n f one q within ∙ same)

  face_inner : before m d ≡ d - borders_at d n p
  face_inner = sym (ap (λ (r : ℕ). d - borders_at d n r) (sym starts) ∙ row_inner d n f one q within ∙ inner)

  face_here : q ≡ number_at d n p
  face_here = sym (ap (number_at d n) (sym starts) ∙ row_number d n f one q within)

  pub face_point : d ≤ 8 →
      point_of m (spread d m (at (eight (level_at (before m d) n q))) 0) (spread d m (at (eight (index_at (before m d) n q))) 1)
      ≡ point_of (mark_at d n p) (border_level_at d n p) (border_index_at d n p)
  face_point few = point_made d n p face_inside face_inner face_here m face_marks few

-- ---- after a point of the face

pub marked_some : (d n p : ℕ) → suc p < border_points d n →
    Some (point_of (mark_at d n (suc p)) (border_level_at d n (suc p)) (border_index_at d n (suc p))) ≡ next_marked d n p
unfolding next_marked
marked_some d n p h = sym (rw (lt-ltb (suc p) (border_points d n) h))

pub marked_none : (d n p : ℕ) → border_points d n ≤ suc p → None ≡ next_marked d n p
unfolding next_marked
marked_none d n p h = sym (rw (le-ltb (suc p) (border_points d n) h))

module _ {d n : ℕ} {m l i : ℕ → ℕ} (x : Marked d n m l i) (few : d ≤ 8) (y : Point) (e : next_inner (before m d) n (in_face d m l i) ≡ Some y) where
  abbrev q : ℕ
  q = suc (in_face d m l i)

  found : (q < points (before m d) n) × (y ≡ bare_point (level_at (before m d) n q) (index_at (before m d) n q))
  found = inner_some (before m d) n (in_face d m l i) y e

  number_is : face_start d n m + q ≡ suc (border_number d n m l i)
  number_is = omega (arith, border_number_is d n m l i)

  pub next_on_face : Some (point_of m (spread d m (at y.levels) 0) (spread d m (at y.indices) 1)) ≡ next_marked d n (border_number d n m l i)
  next_on_face =
      rw (found.1)
      (ap Some (face_point d n m x.mark x.no_mark q found.0 few ∙ ap (λ (r : ℕ). point_of (mark_at d n r) (border_level_at d n r) (border_index_at d n r)) number_is)
      ∙ marked_some d n (border_number d n m l i)
      (omega (arith, face_inside d n m x.mark x.no_mark q found.0, number_is)))
