-- A point that was handed in and passed: by value it is a point of the shape, and has the levels and indices of the lists.
-- Assumes nothing.
use Rattle.std.specs.Prelude.{Ok, Err}
use mathlib.Core.Path.{◌≡◌, ap, sym}
use mathlib.Core.List.{List}
use Prim.Native.Nat.{ℕ}
use Rattle.numbering.specs.Point.{at}
use Rattle.refusals.specs.declared.Refusal.{Refusal}
use Rattle.refusals.proofs.Passing.{result_passed, result_refused}
use Rattle.shapes.specs.declared.Shape.{Shape}
use Rattle.shapes.specs.Shapes.{check_shape}
use Rattle.shapes.proofs.Checked.{InRange}
use Rattle.points.specs.declared.Point.{Point}
use Rattle.points.specs.Points.{check_lists, check_point, bare_point, point_in, point_from}
use Rattle.points.specs.Steps.{PointIn}
use Rattle.points.proofs.Passed.{Passes, passes_in, point_passed, levels_by_value, indices_by_value, point_by_value}

pub record Handed (s : Shape) (ms ls is : List ℕ) (p : Point) : Type 0 where
  pub passes : Passes s ms ls is
  pub inside : PointIn s.axes s.level p.levels p.indices
  pub levels : at p.levels ≡ at ls
  pub indices : at p.indices ≡ at is

by_value : (s : Shape) (ms ls is : List ℕ) → Passes s ms ls is → Handed s ms ls is (bare_point (at ls) (at is))
by_value s ms ls is passes =
    record {
      passes = passes;
      inside = point_by_value passes;
      levels = levels_by_value passes;
      indices = indices_by_value passes;
    }

-- A point that was refused, by the check.
pub turned_away : (s : Shape) (ms ls is : List ℕ) {r : Refusal} → point_from s ms ls is ≡ Err r → check_point s ms ls is ≡ Err r
unfolding point_from
turned_away s ms ls is {r} e = result_refused (check_point s ms ls is) (bare_point (at ls) (at is)) r e

pub lists_refused : (s : Shape) (ms ls is : List ℕ) {r : Refusal} → point_in s ms ls is ≡ Err r → check_lists s ms ls is ≡ Err r
unfolding point_in
lists_refused s ms ls is {r} e = result_refused (check_lists s ms ls is) (bare_point (at ls) (at is)) r e

-- As `points::read` has it, verdict and point side by side.
module _ (s : Shape) (ms ls is : List ℕ) {p : Point} (passed : check_lists s ms ls is ≡ Ok tt) (value : p ≡ bare_point (at ls) (at is)) where
  pub read_in : point_in s ms ls is ≡ Ok p
  unfolding point_in
  read_in = rw passed (ap Ok (sym value))

  pub read_from : check_shape s ≡ Ok tt → point_from s ms ls is ≡ Ok p
  unfolding point_from check_point
  read_from shape = rw (shape, passed) (ap Ok (sym value))

module _ (s : Shape) (ms ls is : List ℕ) {p : Point} (e : point_from s ms ls is ≡ Ok p) where
  both : (check_point s ms ls is ≡ Ok tt) × (bare_point (at ls) (at is) ≡ p)
  unfolding point_from
  both = result_passed (check_point s ms ls is) (bare_point (at ls) (at is)) p e

  pub point_checked : check_point s ms ls is ≡ Ok tt
  point_checked = both.0

  pub handed : Handed s ms ls is p
  handed = rw (← both.1) (by_value s ms ls is (point_passed s ms ls is point_checked))

-- Of a shape in range.
module _ (s : Shape) (ms ls is : List ℕ) {p : Point} (e : point_in s ms ls is ≡ Ok p) where
  given : (check_lists s ms ls is ≡ Ok tt) × (bare_point (at ls) (at is) ≡ p)
  unfolding point_in
  given = result_passed (check_lists s ms ls is) (bare_point (at ls) (at is)) p e

  pub lists_checked : check_lists s ms ls is ≡ Ok tt
  lists_checked = given.0

  pub handed_in : InRange s → Handed s ms ls is p
  handed_in range = rw (← given.1) (by_value s ms ls is (passes_in s ms ls is range lists_checked))
