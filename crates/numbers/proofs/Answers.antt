-- What the calls answer, case by case: the check of the shape decides first, then the count of its points or the check of the point; a call that answered a
-- number passed its checks, and the number is the point's.
-- Assumes nothing.
use Rattle.std.specs.Prelude.{Ok, Err}
use mathlib.Core.Path.{◌≡◌, refl}
use mathlib.Core.List.{List}
use Prim.Native.Nat.{ℕ, ◌≤◌, ◌<◌}
use borrow.Author.Tests.{lt-ltb, le-ltb}
use Rattle.refusals.specs.declared.Refusal.{Refusal}
use Rattle.refusals.specs.declared.Refusal.TheVariants.{PointNumber}
use Rattle.refusals.proofs.Passing.{result_passed}
use Rattle.numbering.specs.Point.{at}
use Rattle.shapes.specs.declared.Shape.{Shape}
use Rattle.shapes.specs.Shapes.{check_shape, points_of}
use Rattle.shapes.proofs.Checked.{InRange, in_range_passed}
use Rattle.points.specs.declared.MarkedPoint.{MarkedPoint}
use Rattle.grids.specs.Grids.{number_of}
use Rattle.grids.proofs.Points.{marks_plain, levels_plain, indices_plain, marks_bordered, levels_bordered, indices_bordered}
use Rattle.numbering.specs.Inverse.{level_at, index_at}
use Rattle.numbered.specs.Numbered.{unmarked}
use Rattle.faces.specs.Marked.{mark_at, border_level_at, border_index_at}
use mathlib.Core.Bool.{true, false}
use Rattle.points.specs.Points.{check_point, point_of, point_at}
use Rattle.points.proofs.Passed.{Passes, point_passed}
use Rattle.numbers.specs.Numbers.{number_of_point, point_of_number}

module _ (s : Shape) (p : ℕ) where
  pub shape_refused : (r : Refusal) → check_shape s ≡ Err r → point_of_number s p ≡ Err r
  unfolding point_of_number
  shape_refused r e = rw e

  -- Of an accepted shape: from the count on the number is refused, below it the point is answered.
  pub number_refused : check_shape s ≡ Ok tt → points_of s ≤ p → point_of_number s p ≡ Err PointNumber
  unfolding point_of_number
  number_refused e h = rw (e, le-ltb p (points_of s) h)

  pub number_found : check_shape s ≡ Ok tt → p < points_of s → point_of_number s p ≡ Ok (point_at s p)
  unfolding point_of_number
  number_found e h = rw (e, lt-ltb p (points_of s) h)

  -- The point by the sort of the shape.
  pub point_plain : s.border ≡ false → point_of unmarked (level_at s.axes s.level p) (index_at s.axes s.level p) ≡ point_at s p
  unfolding point_at
  point_plain off = rw (marks_plain s off p, levels_plain s off p, indices_plain s off p) refl

  pub point_bordered : s.border ≡ true →
      point_of (mark_at s.axes s.level p) (border_level_at s.axes s.level p) (border_index_at s.axes s.level p) ≡ point_at s p
  unfolding point_at
  point_bordered on = rw (marks_bordered s on p, levels_bordered s on p, indices_bordered s on p) refl

-- Of a number below the count the call answers the point.
pub point_found : (s : Shape) (p : ℕ) {x : MarkedPoint} → InRange s → p < points_of s → x ≡ point_at s p → point_of_number s p ≡ Ok x
unfolding point_of_number
point_found s p {x} range below is = rw (in_range_passed s range, lt-ltb p (points_of s) below, is) refl

pub record Answered (s : Shape) (ms ls is : List ℕ) (k : ℕ) : Type 0 where
  pub checked : check_point s ms ls is ≡ Ok tt
  pub passes : Passes s ms ls is
  pub number : number_of s (at ms) (at ls) (at is) ≡ k

pub answered : (s : Shape) (ms ls is : List ℕ) (k : ℕ) → number_of_point s ms ls is ≡ Ok k → Answered s ms ls is k
unfolding number_of_point
answered s ms ls is k e =
    let both = result_passed (check_point s ms ls is) (number_of s (at ms) (at ls) (at is)) k e in
    record { checked = both.0; passes = point_passed s ms ls is both.0; number = both.1 }
