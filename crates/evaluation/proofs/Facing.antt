-- The walk over the faces of a table with values on the border, one after the other: a face begins where the one before ends, so once the lists of a face are
-- passed both sums and S are over all points before the next face, and past the last face over all points.
-- Assumes nothing.
use mathlib.Core.Bool.{Bool, true}
use mathlib.Core.List.{List}
use mathlib.Core.Path.{◌≡◌, refl, ap, ap₂, sym, ◌∙◌}
use Prim.Native.Nat.{ℕ, suc, ◌+◌, ◌-◌, ◌≤◌, ◌<◌}
use native.Mathlib.Numerals.{add-one}
use native.Mathlib.Omega.{arith}
use lib.IntN.{ℤ, pos}
use Rattle.naturals.specs.Sum.{sum_to}
use Rattle.naturals.proofs.Sums.{sum_to_zero, sum_to_suc, sum_to_mono}
use Rattle.numbering.specs.Count.{vectors, points}
use Rattle.numbering.specs.Point.{at}
use Rattle.faces.specs.Faces.{faces, mark_of}
use Rattle.faces.specs.Marked.{border_points}
use Rattle.faces.specs.Row.{all_faces, marks_of, inner_of, row}
use Rattle.faces.proofs.Row.{all_faces_is, borders_of_is, row_zero, row_suc, row_ends, mark_of_low, inner_of_is}
use Rattle.shapes.specs.declared.Shape.{Shape}
use Rattle.shapes.specs.Shapes.{most_points, most_terms, points_of}
use Rattle.shapes.proofs.Layers.{points_bordered}
use Rattle.grids.specs.Faces.{faces_of}
use Rattle.grids.proofs.Faces.{FaceOf, face_of_row}
use Rattle.vectors.specs.declared.LevelVector.{LevelVector}
use Rattle.vectors.specs.Steps.{vectors_before, NextVector}
use Rattle.evaluation.specs.Steps.{whole, Evaluable}
use Rattle.evaluation.proofs.Lists.{Walks, VectorAt, vector_starts, none_before, vector_ends, next_count}
use Rattle.evaluation.proofs.Walking.{lists_before, lists_start, lists_suc, most_lists, Summed, summed_starts, summed_more}
use Rattle.evaluation.proofs.Reaching.{Tallied, tallied_starts, tallied_more}
use Rattle.evaluation.proofs.Stepping.{Next, next_on_face}

-- ---- the number of a face

-- That with b border axes that r others come before.
abbrev pub face_of : ℕ → ℕ → ℕ → ℕ
face_of d b r = sum_to (faces d) b + r

module _ (d b r : ℕ) (le : b ≤ d) (lt : r < faces d b) where
  pub face_in_row : face_of d b r < all_faces d
  face_in_row = omega (arith, lt, sum_to_suc (faces d) b, sum_to_mono (faces d) (suc b) (suc d) (omega arith), all_faces_is d)

  pub face_inner : d - b ≡ inner_of d (face_of d b r)
  face_inner = sym (inner_of_is d (face_of d b r) ∙ ap (λ (c : ℕ). d - c) (borders_of_is d b r le lt))

  pub face_marks : mark_of d b r ≡ marks_of d (face_of d b r)
  unfolding marks_of
  face_marks =
      ap₂ (mark_of d) (sym (borders_of_is d b r le lt)) (omega (arith, ap (sum_to (faces d)) (borders_of_is d b r le lt)))

-- The first with b + 1 border axes comes after the last with b.
pub next_layer : (d b r : ℕ) → r ≡ faces d b → face_of d b r ≡ face_of d (b + 1) 0
next_layer d b r last = omega (arith, last, sum_to_suc (faces d) b, ap (sum_to (faces d)) (add-one b))

pub first_face : (d : ℕ) → face_of d 0 0 ≡ 0
first_face d = omega (arith, sum_to_zero (faces d))

pub past_faces : (d b : ℕ) → b ≡ suc d → face_of d b 0 ≡ all_faces d
past_faces d b past = omega (arith, all_faces_is d, ap (sum_to (faces d)) past)

-- ---- the walk

-- All faces before number f are summed, and it begins at number `first`.
pub record ToFace (asked : Bool) (s : Shape) (xs : List ℤ) (cs : List ℕ) (f first : ℕ) (high : ℤ) (low total : ℕ) : Type 0 where
  pub reached : first ≡ row s.axes s.level f
  pub summed : Summed s xs (at cs) high low first (lists_before s.axes s.level f)
  pub tallied : Tallied asked s xs (at cs) total first (lists_before s.axes s.level f)

-- How many lists come before one of face number f, over w axes.
abbrev pub lists_passed : Shape → ℕ → ℕ → (ℕ → ℕ) → ℕ
lists_passed s f w v = lists_before s.axes s.level f + vectors_before w v

-- All faces before number f, of marks m and k inner axes, are summed, and of that face the lists before the one at hand.
pub record OnFace (asked : Bool) (s : Shape) (xs : List ℤ) (cs : List ℕ) (f : ℕ) (m : ℕ → ℕ) (k w top first : ℕ) (vector : LevelVector) (high : ℤ)
    (low total : ℕ) : Type 0 where
  pub in_row : f < all_faces s.axes
  pub marks : m ≡ marks_of s.axes f
  pub inner : k ≡ inner_of s.axes f
  pub walks : Walks k s.level w top
  pub here : VectorAt w top (row s.axes s.level f) first vector
  pub summed : Summed s xs (at cs) high low first (lists_passed s f w (at vector.levels))
  pub tallied : Tallied asked s xs (at cs) total first (lists_passed s f w (at vector.levels))

pub to_first : (asked : Bool) (s : Shape) (xs : List ℤ) (cs : List ℕ) → ToFace asked s xs cs 0 0 (pos 0) 0 0
to_first asked s xs cs =
    record {
      reached = sym (row_zero s.axes s.level);
      summed = rw (lists_start s.axes s.level) (summed_starts s xs (at cs));
      tallied = rw (lists_start s.axes s.level) (tallied_starts asked s xs (at cs));
    }

face_count : (s : Shape) → s.border ≡ true → faces_of s ≡ all_faces s.axes
unfolding faces_of
face_count s on = rw on refl

pub face_starts : {asked : Bool} {s : Shape} {xs : List ℤ} {cs : List ℕ} {f : ℕ} {m : ℕ → ℕ} {k w top first : ℕ} {vector : LevelVector} {high : ℤ} {low total : ℕ} →
    f < all_faces s.axes → m ≡ marks_of s.axes f → k ≡ inner_of s.axes f → Walks k s.level w top → (vector.axes ≡ w) × (vector.sum ≡ 0) →
    ToFace asked s xs cs f first high low total → OnFace asked s xs cs f m k w top first vector high low total
face_starts {s = s} {f = f} {w = w} {top} {first} {vector} in_row marks inner walks starts to =
    let none : lists_passed s f w (at vector.levels) ≡ lists_before s.axes s.level f =
    omega (arith, none_before w top first vector starts) in
    record {
      in_row = in_row;
      marks = marks;
      inner = inner;
      walks = walks;
      here = rw to.reached (vector_starts w top (row s.axes s.level f) vector starts);
      summed = rw none to.summed;
      tallied = rw none to.tallied;
    }

module _ {s : Shape} {xs : List ℤ} {cs : List ℕ} (asks : Evaluable s xs cs) (on : s.border ≡ true) {asked : Bool} {f : ℕ} {m : ℕ → ℕ} {k w top first : ℕ}
    {vector : LevelVector} {high : ℤ} {low total : ℕ} (o : OnFace asked s xs cs f m k w top first vector high low total) where
  face_here : FaceOf s m k (row s.axes s.level f)
  face_here = rw (o.marks, o.inner) (face_of_row s f (rw (face_count s on) o.in_row))

  few_points : border_points s.axes s.level ≤ most_points
  few_points = omega (arith, points_bordered s on, asks.small)

  room_here : lists_before s.axes s.level f + sum_to (vectors w) (suc top) ≤ most_terms
  room_here =
      omega (
        arith,
        o.walks.lists,
        ap (λ (c : ℕ). sum_to (vectors c) (suc s.level)) o.inner,
        lists_suc s.axes s.level f,
        most_lists s.axes s.level (suc f) (asks.most on) asks.low o.in_row few_points,
      )

  pub marks_here : (t : ℕ) → t < s.axes → m t ≤ 2
  marks_here t h = omega (arith, ap (λ (a : ℕ → ℕ). a t) o.marks, mark_of_low s.axes f t)

  -- The list at hand.
  pub face_next : vector.sum ≤ top →
      Next asked s xs cs m (whole s.axes m (at vector.levels)) high low total first (lists_passed s f w (at vector.levels)) vector.sum
  face_next in_face = next_on_face (lists_before s.axes s.level f) asks face_here o.walks o.here in_face refl refl room_here o.summed o.tallied

  -- The list after it is one more.
  pub count_next : vector.sum ≤ top → (vector' : LevelVector) →
      (vector'.axes ≡ vector.axes) × NextVector vector.axes vector.sum vector.levels vector'.sum vector'.levels →
      lists_passed s f w (at vector'.levels) ≡ suc (lists_passed s f w (at vector.levels))
  count_next in_face vector' next = omega (arith, next_count o.here in_face vector' next)

  -- Past the last list the face is summed.
  pub face_ends : top < vector.sum → ToFace asked s xs cs (suc f) first high low total
  face_ends past =
      let same : sum_to (vectors k) (suc s.level) ≡ sum_to (vectors (inner_of s.axes f)) (suc s.level) =
      ap (λ (c : ℕ). sum_to (vectors c) (suc s.level)) o.inner in
      let count : lists_passed s f w (at vector.levels) ≤ lists_before s.axes s.level (suc f) =
      omega (arith, o.here.counted, o.walks.lists, same, lists_suc s.axes s.level f) in
      record {
        reached =
            omega (arith, vector_ends o.here past, o.walks.ends, ap (λ (c : ℕ). points c s.level) o.inner, row_suc s.axes s.level f);
        summed = summed_more o.summed count (most_lists s.axes s.level (suc f) (asks.most on) asks.low o.in_row few_points);
        tallied = tallied_more o.tallied count;
      }

-- Past the last face all points are summed.
pub all_faces_end : (s : Shape) → s.border ≡ true → row s.axes s.level (all_faces s.axes) ≡ points_of s
all_faces_end s on = row_ends s.axes s.level ∙ sym (points_bordered s on)
