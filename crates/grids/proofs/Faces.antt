-- A face of a shape: a sparse table over its inner axes, whose numbers begin at the face's first. The points of one level list on it are 2^(level sum) numbers in a row,
-- from the number of the list's first point on; they have the marks of the face, the levels of the list, and the indices that the digits of their place in the row say.
-- True of the first face of a table with a zero border as well, so both sorts have one law.
-- Assumes nothing.
use mathlib.Core.Path.{◌≡◌, refl, ap, ap₂, sym, ◌∙◌}
use mathlib.Core.Bool.{true, false, false≢true}
use Prim.Native.Nat.{ℕ, suc, ◌+◌, ◌-◌, ◌^◌, ◌≤◌, ◌<◌}
use native.Mathlib.Omega.{arith}
use Rattle.naturals.specs.Sum.{sum_to}
use Rattle.naturals.proofs.Cases.{true_or_false}
use Rattle.numbering.specs.Count.{points}
use Rattle.numbering.specs.Number.{position, first_of, number}
use Rattle.numbering.proofs.Subspaces.{number_from_first, indices_to, block_point, block_position}
use Rattle.numbered.specs.Numbered.{unmarked}
use Rattle.faces.specs.Faces.{borders}
use Rattle.faces.specs.Packing.{packed, before}
use Rattle.faces.specs.Marked.{face_start, border_number}
use Rattle.faces.specs.Row.{all_faces, marks_of, inner_of, row}
use Rattle.faces.proofs.Numbering.{in_face_is, border_number_is}
use Rattle.faces.proofs.Packing.{inner_axes, packed_position}
use Rattle.faces.proofs.Row.{no_borders, first_unmarked, unmarked_start, unmarked_number, mark_of_low, marks_of_past, row_zero, row_suc, row_ends, row_start, inner_of_marks, first_inner}
use Rattle.shapes.specs.declared.Shape.{Shape}
use Rattle.shapes.specs.Shapes.{points_of}
use Rattle.shapes.proofs.Layers.{points_plain, points_bordered}
use Rattle.grids.specs.Grids.{number_of, mark_on, level_on, index_on}
use Rattle.grids.specs.Faces.{faces_of}
use Rattle.grids.proofs.Points.{PointOf, number_bordered, number_plain, number_lt, marks_again, levels_again, indices_again}

-- The number of a point of either sort is that over the faces.
pub number_over_faces : (s : Shape) {m l i : ℕ → ℕ} → PointOf s m l i → number_of s m l i ≡ border_number s.axes s.level m l i
number_over_faces s {m} {l} {i} x =
    true_or_false s.border
    (λ on. number_bordered s on m l i)
    (λ off.
    number_plain s off m l i
    ∙ sym (unmarked_number s.axes s.level l i)
    ∙ ap (λ (o : ℕ → ℕ). border_number s.axes s.level o l i) (sym (x.only off)))

-- ---- the faces in a row

module _ (s : Shape) where
  pub faces_bordered : s.border ≡ true → faces_of s ≡ all_faces s.axes
  unfolding faces_of
  faces_bordered on = rw on refl

  pub faces_plain : s.border ≡ false → faces_of s ≡ 1
  unfolding faces_of
  faces_plain off = rw off refl

  -- They end with N.
  pub faces_end : row s.axes s.level (faces_of s) ≡ points_of s
  faces_end =
      true_or_false s.border
      (λ on. rw (faces_bordered on, points_bordered s on) (row_ends s.axes s.level))
      (λ off.
      rw (faces_plain off, points_plain s off)
      (omega (
        arith,
        row_suc s.axes s.level 0,
        row_zero s.axes s.level,
        ap (λ (k : ℕ). points k s.level) (first_inner s.axes),
      )))

  -- The marks of a face of the shape.
  pub record OnFace (m : ℕ → ℕ) : Type 0 where
    pub mark : (t : ℕ) → t < s.axes → m t ≤ 2
    pub none : (t : ℕ) → s.axes ≤ t → m t ≡ 0
    pub only : s.border ≡ false → m ≡ unmarked

  -- A face with these marks, so many inner axes and that first number.
  pub record FaceOf (m : ℕ → ℕ) (k base : ℕ) : Type 0 where
    pub face : OnFace m
    pub inner : k ≡ s.axes - borders m s.axes
    pub first : base ≡ face_start s.axes s.level m

  pub face_of_row : (f : ℕ) → f < faces_of s → FaceOf (marks_of s.axes f) (inner_of s.axes f) (row s.axes s.level f)
  face_of_row f lt =
      true_or_false s.border
      (λ on.
      let in_row : f < all_faces s.axes = rw (faces_bordered on) at lt in
      record {
        face =
            record {
              mark = λ t h. mark_of_low s.axes f t;
              none = marks_of_past s.axes f;
              only = λ off. absurd (false≢true (sym off ∙ on));
            };
        inner = sym (inner_of_marks s.axes s.level f in_row);
        first = row_start s.axes s.level f in_row;
      })
      (λ off.
      let first : f ≡ 0 = omega (arith, rw (faces_plain off) at lt) in
      rw (first, first_unmarked s.axes) (whole_face off))
    where
      whole_face : s.border ≡ false → FaceOf unmarked (inner_of s.axes 0) (row s.axes s.level 0)
      whole_face off =
          record {
            face = record { mark = λ t h. omega arith; none = λ t h. refl; only = λ e. refl };
            inner = first_inner s.axes ∙ sym (omega (arith, no_borders s.axes));
            first = row_zero s.axes s.level ∙ sym (unmarked_start s.axes s.level);
          }

-- ---- the points of a face

module _ {s : Shape} {m : ℕ → ℕ} {k base : ℕ} (f : FaceOf s m k base) where
  -- A point's number is the face's first and document 01's number over the inner axes.
  pub number_on_face : {l i : ℕ → ℕ} → PointOf s m l i → number_of s m l i ≡ base + number k (packed m s.axes l) (packed m s.axes i)
  number_on_face {l} {i} x =
      number_over_faces s x
      ∙ border_number_is s.axes s.level m l i
      ∙ ap₂ ◌+◌ (sym f.first)
      (in_face_is s.axes m l i ∙ ap (λ (j : ℕ). number j (packed m s.axes l) (packed m s.axes i)) (sym f.inner))

  pub number_on_list : {l i : ℕ → ℕ} → PointOf s m l i → number_of s m l i ≡ base + first_of k (packed m s.axes l) + position l i s.axes
  number_on_list {l} {i} x =
      let inside : before m s.axes ≡ k = inner_axes m s.axes ∙ sym f.inner in
      omega (
        arith,
        number_on_face x,
        number_from_first k (packed m s.axes l) (packed m s.axes i),
        ap (position (packed m s.axes l) (packed m s.axes i)) (sym inside),
        packed_position x.marked,
      )

-- A level list on a face: levels on its inner axes, 0 on its border axes and past the axes.
pub record ListOn (s : Shape) (m l : ℕ → ℕ) : Type 0 where
  pub border : (t : ℕ) → t < s.axes → 0 < m t → l t ≡ 0
  pub none : (t : ℕ) → s.axes ≤ t → l t ≡ 0
  pub low : sum_to l s.axes ≤ s.level

module _ {s : Shape} {m l : ℕ → ℕ} {k base : ℕ} (f : FaceOf s m k base) (on : ListOn s m l) (j : ℕ) (j_in : j < 2 ^ sum_to l s.axes) where
  abbrev indices : ℕ → ℕ
  indices = indices_to s.axes l j

  pub list_point : PointOf s m l indices
  list_point =
      let x = block_point s.axes s.level l on.none on.low j j_in in
      record {
        marked =
            record {
              point = x.point;
              mark = f.face.mark;
              level = on.border;
              index =
                  λ t h some.
                  let flat : 2 ^ suc (l t) ≡ 2 = ap (λ (a : ℕ). 2 ^ suc a) (on.border t h some) in
                  omega (arith, x.point.odd t h, x.point.below t h, flat);
              no_mark = f.face.none;
              no_level = on.none;
              no_index = x.indices;
            };
        only = f.face.only;
      }

  -- Place j in the list.
  abbrev pub place_in : ℕ
  place_in = base + first_of k (packed m s.axes l) + j

  pub list_number : number_of s m l indices ≡ place_in
  list_number =
      number_on_list f list_point
      ∙ ap (λ (q : ℕ). base + first_of k (packed m s.axes l) + q) (block_position s.axes s.level l on.none on.low j j_in)

  pub list_in : place_in < points_of s
  list_in = rw (sym list_number) (number_lt s list_point)

  pub list_marks : mark_on s place_in ≡ m
  list_marks = rw (sym list_number) (marks_again s list_point)

  pub list_levels : level_on s place_in ≡ l
  list_levels = rw (sym list_number) (levels_again s list_point)

  pub list_indices : index_on s place_in ≡ indices
  list_indices = rw (sym list_number) (indices_again s list_point)
