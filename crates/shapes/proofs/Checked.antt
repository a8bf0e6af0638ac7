-- What a passed check of a shape tells: 1 to 8 axes, a top level of at most 8, and no more points than are run; and a shape so is passed. What a passed check of an
-- axis tells, and of a table's length. The checks are tests of just this.
-- Assumes nothing.
use Rattle.std.specs.Prelude.{Ok}
use mathlib.Core.Path.{◌≡◌}
use mathlib.Core.Bool.{Bool, true, false, ◌&&◌}
use Prim.Native.Nat.{ℕ, ◌≤◌}
use native.Mathlib.Omega.{arith}
use lib.Dec.{leb, eqb}
use borrow.Author.Tests.{leb-true, le-leb, eqb-true, eq-eqb}
use Rattle.naturals.proofs.Tests.{and_left, and_right}
use Rattle.refusals.specs.declared.Refusal.TheVariants.{Axes, Level, TooManyPoints, TableLength, Axis}
use Rattle.refusals.specs.Checks.{unless}
use Rattle.refusals.proofs.Passing.{first_passed, next_passed, test_passed}
use Rattle.shapes.specs.declared.Shape.{Shape}
use Rattle.shapes.specs.declared.CheckedShape.{CheckedShape}
use Rattle.shapes.specs.Shapes.{most_axes, most_points, check_limits, check_size, check_shape, check_axis, points_of, check_length}

pub record InRange (s : Shape) : Type 0 where
  pub low : 1 ≤ s.axes
  pub high : s.axes ≤ 8
  pub top : s.level ≤ 8
  pub most : s.axes ≤ most_axes s.border
  pub small : points_of s ≤ most_points

-- No sort of shape has more than 8 axes.
pub most_small : (border : Bool) → most_axes border ≤ 8
most_small true = omega arith
most_small false = omega arith

-- A number between two bounds, from the two tests.
between : (a k b : ℕ) → leb a k && leb k b ≡ true → (a ≤ k) × (k ≤ b)
between a k b e = (leb-true a k (and_left (leb a k) (leb k b) e), leb-true k b (and_right (leb a k) (leb k b) e))

module _ (s : Shape) where
  -- What the two parts of the check say.
  pub limits_passed : check_limits s ≡ Ok tt → (1 ≤ s.axes) × (s.axes ≤ most_axes s.border) × (s.level ≤ 8)
  unfolding check_limits
  limits_passed e =
      let few : Bool = leb 1 s.axes && leb s.axes (most_axes s.border) in
      let axes = unless few Axes in
      let level = unless (leb s.level 8) Level in
      let bounds = between 1 s.axes (most_axes s.border) (test_passed few Axes (first_passed axes level e)) in
      (bounds.0, bounds.1, leb-true s.level 8 (test_passed (leb s.level 8) Level (next_passed axes level e)))

  pub limits_pass : 1 ≤ s.axes → s.axes ≤ most_axes s.border → s.level ≤ 8 → check_limits s ≡ Ok tt
  unfolding check_limits
  limits_pass low most top = simp (le-leb 1 s.axes low, le-leb s.axes (most_axes s.border) most, le-leb s.level 8 top)

  pub size_passed : check_size s ≡ Ok tt → points_of s ≤ most_points
  unfolding check_size
  size_passed e = leb-true (points_of s) most_points (test_passed (leb (points_of s) most_points) TooManyPoints e)

  pub size_passes : points_of s ≤ most_points → check_size s ≡ Ok tt
  unfolding check_size
  size_passes small = rw (le-leb (points_of s) most_points small)

  -- Both together.
  pub parts_in_range : check_limits s ≡ Ok tt → check_size s ≡ Ok tt → InRange s
  parts_in_range limits size =
      let passed = limits_passed limits in
      record {
        low = passed.0;
        high = omega (arith, passed.1, most_small s.border);
        top = passed.2;
        most = passed.1;
        small = size_passed size;
      }

  pub limits_in_range : InRange s → check_limits s ≡ Ok tt
  limits_in_range r = limits_pass r.low r.most r.top

  pub passed_in_range : check_shape s ≡ Ok tt → InRange s
  unfolding check_shape
  passed_in_range e =
      parts_in_range (first_passed (check_limits s) (check_size s) e) (next_passed (check_limits s) (check_size s) e)

  pub in_range_passed : InRange s → check_shape s ≡ Ok tt
  unfolding check_shape
  in_range_passed r = rw (limits_in_range r) (size_passes r.small)

-- The type of a checked shape says as much.
pub checked_in_range : (c : CheckedShape) → InRange c.shape
checked_in_range c = record { low = c.some; high = c.few; top = c.top; most = c.most; small = c.small }

pub axis_in_range : (s : Shape) (axis : ℕ) → check_axis s axis ≡ Ok tt → (1 ≤ axis) × (axis ≤ s.axes)
unfolding check_axis
axis_in_range s axis e = between 1 axis s.axes (test_passed (leb 1 axis && leb axis s.axes) (Axis axis) e)

pub length_passed : (s : Shape) (places : ℕ) → check_length s places ≡ Ok tt → places ≡ points_of s
unfolding check_length
length_passed s places e = eqb-true places (points_of s) (test_passed (eqb places (points_of s)) TableLength e)

pub length_passes : (s : Shape) (places : ℕ) → places ≡ points_of s → check_length s places ≡ Ok tt
unfolding check_length
length_passes s places e = rw (eq-eqb places (points_of s) e)
