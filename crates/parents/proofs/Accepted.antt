-- What passed checks tell of the arguments of a parent: the axis is one of the shape's, and the point passed, so that it has on the axis what a step along
-- it asks. True since a level is at most the sum of the levels.
-- Assumes nothing.
use Rattle.std.specs.Prelude.{Ok}
use mathlib.Core.List.{List}
use mathlib.Core.Path.{◌≡◌}
use Prim.Native.Nat.{ℕ, suc, ◌-◌, ◌%◌, ◌^◌, ◌≤◌, ◌<◌}
use native.Mathlib.Omega.{arith}
use Rattle.naturals.proofs.Sums.{term_le}
use Rattle.numbering.specs.Point.{at}
use Rattle.shapes.specs.declared.Shape.{Shape}
use Rattle.shapes.specs.Shapes.{check_axis}
use Rattle.shapes.proofs.Checked.{InRange, axis_in_range}
use Rattle.points.specs.declared.Point.{Point}
use Rattle.points.specs.Points.{point_in}
use Rattle.points.proofs.Handed.{Handed, handed_in}

-- What a step along axis t asks of levels l and indices i.
pub record Steps (t : ℕ) (l i : ℕ → ℕ) : Type 0 where
  pub place : t < 8
  pub small : l t ≤ 8
  pub odd : i t % 2 ≡ 1
  pub below : i t < 2 ^ suc (l t)

pub record Accepted (s : Shape) (ms ls is : List ℕ) (axis : ℕ) (p : Point) : Type 0 where
  pub low : 1 ≤ axis
  pub handed : Handed s ms ls is p
  pub steps : Steps (axis - 1) (at p.levels) (at p.indices)

module _ (s : Shape) (ms ls is : List ℕ) where
  pub accepted : (axis : ℕ) {p : Point} → InRange s → check_axis s axis ≡ Ok tt → point_in s ms ls is ≡ Ok p → Accepted s ms ls is axis p
  accepted axis {p} range on_axis e =
      let one = axis_in_range s axis on_axis in
      let h = handed_in s ms ls is e range in
      let point = h.inside.point in
      record {
        low = one.0;
        handed = h;
        steps =
            record {
              place = omega (arith, h.passes.shape.high, one);
              small =
                  omega (
                    arith,
                    term_le (at p.levels) s.axes (axis - 1) (omega (arith, one)),
                    point.sum,
                    h.passes.shape.top,
                  );
              odd = point.odd (axis - 1) (omega (arith, one));
              below = point.below (axis - 1) (omega (arith, one));
            };
      }
