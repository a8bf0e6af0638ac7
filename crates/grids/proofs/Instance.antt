-- The points and neighbours of every shape are a grid: neighbours are points or none, the depth falls, and axes commute. On each axis a neighbour has a smaller
-- number or does not move: a parent has a smaller level sum, and a border point stands still.
-- Assumes nothing.
use mathlib.Core.Path.{◌≡◌, refl}
use mathlib.Core.Bool.{false}
use mathlib.Core.Logic.{inl, inr}
use Prim.Native.Nat.{ℕ, zero, suc, ◌<◌}
use native.Mathlib.Omega.{arith}
use Rattle.naturals.proofs.Cases.{true_or_false}
use Rattle.numbering.specs.declared.Side.{Side}
use Rattle.numbering.specs.Parent.{is_border}
use Rattle.numbering.proofs.Parents.{parent_number}
use Rattle.hierarchy.specs.Grid.{Late, Grid}
use Rattle.numbered.specs.Neighbours as numbered_points
use Rattle.numbered.proofs.Moves.{deep_le}
use Rattle.numbered.proofs.Beside.{neighbour_border, none_or_point}
use Rattle.numbered.proofs.Instance.{across_still, numbered_grid}
use Rattle.shapes.specs.declared.Shape.{Shape}
use Rattle.shapes.specs.Shapes.{points_of}
use Rattle.grids.specs.Grids.{number_of, mark_on, level_on, index_on, numbered, neighbour, depth, height, index_on}
use Rattle.faces.proofs.Beside.{parent_earlier}
use Rattle.grids.proofs.Points.{PointOf, number_bordered, number_plain, point_at_lem, number_of_point_lem, level_top, numbering, PointOf}
use Rattle.grids.proofs.Beside.{numerator_on, to_parent, parent_levels, parent_indices}

-- The neighbours are those of the numbered points. By definition.
pub neighbours_of : (s : Shape) → neighbour s ≡ numbered_points.neighbour (numbered s)
unfolding neighbour
neighbours_of s = refl

pub grid : (s : Shape) → Grid (points_of s) (neighbour s) (depth s)
unfolding neighbour depth
grid s = numbered_grid (numbering s)

parent_smaller : (s : Shape) (t : ℕ) (b : Side) (p : ℕ) → p < points_of s → t < s.axes → mark_on s p t ≡ 0 →
    is_border (level_on s p t) (numerator_on s t b p) ≡ false → neighbour s t b (suc p) < suc p
parent_smaller s t b p h axis inner e =
    omega (arith, to_parent s t b p h axis inner e, earlier, number_of_point_lem s p h)
  where
    point : PointOf s (mark_on s p) (level_on s p) (index_on s p)
    point = point_at_lem s p h

    earlier : number_of s (mark_on s p) (parent_levels s t b p) (parent_indices s t b p) < number_of s (mark_on s p) (level_on s p) (index_on s p)
    earlier =
        true_or_false s.border
        (λ on. rw (number_bordered s on, number_bordered s on) (parent_earlier point.marked t axis inner b e))
        (λ off. rw (number_plain s off, number_plain s off) (parent_number point.marked.point t axis b e))

pub late : (s : Shape) (t : ℕ) → Late (neighbour s) t
unfolding neighbour
late s t b zero some = absurd (some (neighbour_border (numbered s) t b))
late s t b (suc p) some =
    none_or_point (numbered s) t b p
    (λ none. absurd (some none))
    (λ h axis inner e. inl (parent_smaller s t b p h axis inner e))
    (λ h axis inner e on. inr (across_still (numbering s) t b p h axis inner e on))

pub shallow : (s : Shape) (t p : ℕ) → depth s t p < height s
unfolding depth numbered_points.depth height
shallow s t zero = omega arith
shallow s t (suc p) = omega (arith, deep_le (mark_on s p t) (level_on s p t), level_top s p t)
