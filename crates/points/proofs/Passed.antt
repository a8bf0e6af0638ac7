-- What a passed check of a point tells: a shape in range, lists of a place for each axis, and a point of the shape in them; and a point of a shape in range
-- passes. By value it is the same point and has the same number, since past its axes it has zeros.
-- Assumes nothing.
use Rattle.std.specs.Prelude.{Ok, Err}
use mathlib.Core.Path.{◌≡◌, ap, ◌∙◌}
use mathlib.Core.Bool.{Bool, true, false, ◌&&◌, and-false}
use mathlib.Core.List.{List}
use Prim.Native.Nat.{ℕ}
use native.Mathlib.Omega.{arith}
use lib.Dec.{eqb}
use lib.ListN.{length, get_or-eq_default}
use borrow.Author.Tests.{eqb-true, eq-eqb}
use Rattle.naturals.specs.Test.{all}
use Rattle.naturals.proofs.Tests.{and_left, and_right}
use Rattle.refusals.specs.declared.Refusal.TheVariants.{ListLength, NoPoint}
use Rattle.refusals.specs.Checks.{unless}
use Rattle.refusals.proofs.Passing.{first_passed, next_passed, test_passed}
use Rattle.numbering.specs.Point.{at, is_point}
use Rattle.shapes.specs.declared.Shape.{Shape}
use Rattle.shapes.specs.Shapes.{check_shape}
use Rattle.shapes.proofs.Checked.{InRange, passed_in_range}
use Rattle.grids.proofs.Points.{PointOf}
use Rattle.points.specs.Points.{fitting, check_lists, check_point, eight}
use Rattle.points.specs.Steps.{PointIn}
use Rattle.points.proofs.Eight.{eight_length, padded_at}
use Rattle.points.proofs.PointTest.{is_point_lem, point_passes}
use Rattle.points.proofs.MarkTest.{marks_named, marks_pass}

pub record Passes (s : Shape) (ms ls is : List ℕ) : Type 0 where
  pub shape : InRange s
  pub marks : length ms ≡ s.axes
  pub levels : length ls ≡ s.axes
  pub indices : length is ≡ s.axes
  pub named : PointOf s (at ms) (at ls) (at is)

module _ (s : Shape) (ms ls is : List ℕ) where
  abbrev lengths : Bool
  lengths = eqb (length ms) s.axes && eqb (length ls) s.axes && eqb (length is) s.axes

  abbrev point : Bool
  point = is_point s.axes s.level (at ls) (at is)

  abbrev fits : Bool
  fits = all (fitting s.border (at ms) (at ls) (at is)) s.axes

  -- Of lists of the right length the tests of the point decide.
  module _ (em : length ms ≡ s.axes) (el : length ls ≡ s.axes) (ei : length is ≡ s.axes) where
    pub no_point : point ≡ false → check_lists s ms ls is ≡ Err NoPoint
    unfolding check_lists
    no_point e = simp (eq-eqb (length ms) s.axes em, eq-eqb (length ls) s.axes el, eq-eqb (length is) s.axes ei, e)

    pub no_marks : fits ≡ false → check_lists s ms ls is ≡ Err NoPoint
    unfolding check_lists
    no_marks e =
        simp (eq-eqb (length ms) s.axes em, eq-eqb (length ls) s.axes el, eq-eqb (length is) s.axes ei, ap (λ (b : Bool). point && b) e, and-false)

    pub all_tested : point ≡ true → fits ≡ true → check_lists s ms ls is ≡ Ok tt
    unfolding check_lists
    all_tested e f = simp (eq-eqb (length ms) s.axes em, eq-eqb (length ls) s.axes el, eq-eqb (length is) s.axes ei, e, f)

  pub passes_in : InRange s → check_lists s ms ls is ≡ Ok tt → Passes s ms ls is
  unfolding check_lists
  passes_in range e =
      let all_long = test_passed lengths ListLength (first_passed (unless lengths ListLength) (unless (point && fits) NoPoint) e) in
      let two = and_left (eqb (length ms) s.axes && eqb (length ls) s.axes) (eqb (length is) s.axes) all_long in
      let em = eqb-true (length ms) s.axes (and_left (eqb (length ms) s.axes) (eqb (length ls) s.axes) two) in
      let el = eqb-true (length ls) s.axes (and_right (eqb (length ms) s.axes) (eqb (length ls) s.axes) two) in
      let ei =
      eqb-true (length is) s.axes
      (and_right (eqb (length ms) s.axes && eqb (length ls) s.axes) (eqb (length is) s.axes) all_long) in
      let both = test_passed (point && fits) NoPoint (next_passed (unless lengths ListLength) (unless (point && fits) NoPoint) e) in
      record {
        shape = range;
        marks = em;
        levels = el;
        indices = ei;
        named =
            marks_named s (is_point_lem (and_left point fits both)) (and_right point fits both)
            (λ t h. get_or-eq_default ms 0 (omega (arith, em)))
            (λ t h. get_or-eq_default ls 0 (omega (arith, el)))
            (λ t h. get_or-eq_default is 0 (omega (arith, ei)));
      }

  pub point_passed : check_point s ms ls is ≡ Ok tt → Passes s ms ls is
  unfolding check_point
  point_passed e =
      passes_in (passed_in_range s (first_passed (check_shape s) (check_lists s ms ls is) e))
      (next_passed (check_shape s) (check_lists s ms ls is) e)

  -- A point of the shape in lists of the right length passes.
  pub named_passes : length ms ≡ s.axes → length ls ≡ s.axes → length is ≡ s.axes → PointOf s (at ms) (at ls) (at is) →
      check_lists s ms ls is ≡ Ok tt
  unfolding check_lists
  named_passes em el ei x =
      simp (
        eq-eqb (length ms) s.axes em,
        eq-eqb (length ls) s.axes el,
        eq-eqb (length is) s.axes ei,
        point_passes x.marked.point,
        marks_pass s x,
      )

-- The point by value.
module _ {s : Shape} {ms ls is : List ℕ} (p : Passes s ms ls is) where
  pub marks_by_value : at (eight (at ms)) ≡ at ms
  marks_by_value = padded_at ms (omega (arith, p.marks, p.shape.high))

  pub levels_by_value : at (eight (at ls)) ≡ at ls
  levels_by_value = padded_at ls (omega (arith, p.levels, p.shape.high))

  pub indices_by_value : at (eight (at is)) ≡ at is
  indices_by_value = padded_at is (omega (arith, p.indices, p.shape.high))

  pub point_by_value : PointIn s.axes s.level (eight (at ls)) (eight (at is))
  point_by_value =
      record {
        long_levels = eight_length (at ls);
        long_indices = eight_length (at is);
        point = rw (levels_by_value, indices_by_value) p.named.marked.point;
        no_level = λ t h. ap (λ (f : ℕ → ℕ). f t) levels_by_value ∙ p.named.marked.no_level t h;
        no_index = λ t h. ap (λ (f : ℕ → ℕ). f t) indices_by_value ∙ p.named.marked.no_index t h;
      }
