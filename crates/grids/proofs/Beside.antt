-- What lies beside a point on an axis, case by case: on a border of the axis, nothing; inside, where the neighbour's numerator is the border's, the border point on
-- that side, or nothing with a zero border; else the parent. Each is a point of the shape that is the same on every other axis. As for any numbered points.
-- Assumes nothing.
use mathlib.Core.Path.{◌≡◌}
use mathlib.Core.Bool.{true, false}
use mathlib.Core.Logic.{◌⊎◌}
use Prim.Native.Nat.{ℕ, suc, ◌^◌, ◌<◌}
use Rattle.numbering.specs.declared.Side.{Side}
use Rattle.numbering.specs.Parent.{is_border}
use Rattle.numbered.proofs.Beside as numbered_points
use Rattle.shapes.specs.declared.Shape.{Shape}
use Rattle.shapes.specs.Shapes.{points_of}
use Rattle.grids.specs.Grids.{number_of, mark_on, level_on, numbered, neighbour}
use Rattle.grids.proofs.Points.{PointOf, numbering}

module _ (s : Shape) (t : ℕ) (b : Side) (p : ℕ) where
  -- The numerator of the neighbour's coordinate, the levels and indices with the parent's on axis t, and the marks, levels and indices with the border's.
  abbrev pub numerator_on : ℕ
  numerator_on = numbered_points.numerator_on (numbered s) t b p

  abbrev pub parent_levels : ℕ → ℕ
  parent_levels = numbered_points.parent_levels (numbered s) t b p

  abbrev pub parent_indices : ℕ → ℕ
  parent_indices = numbered_points.parent_indices (numbered s) t b p

  abbrev pub across_marks : ℕ → ℕ
  across_marks = numbered_points.across_marks (numbered s) t b p

  abbrev pub across_levels : ℕ → ℕ
  across_levels = numbered_points.across_levels (numbered s) t b p

  abbrev pub across_indices : ℕ → ℕ
  across_indices = numbered_points.across_indices (numbered s) t b p

  module _ (h : p < points_of s) (axis : t < s.axes) where
    -- A point on a border of the axis has no neighbour there.
    pub still_there : 0 < mark_on s p t → neighbour s t b (suc p) ≡ 0
    unfolding neighbour
    still_there = numbered_points.still_there (numbered s) t b p h axis

    module _ (inner : mark_on s p t ≡ 0) where
      pub to_border : is_border (level_on s p t) numerator_on ≡ true → (numbered s).border ≡ false → neighbour s t b (suc p) ≡ 0
      unfolding neighbour
      to_border = numbered_points.to_border (numbered s) t b p h axis inner

      pub to_across : is_border (level_on s p t) numerator_on ≡ true → (numbered s).border ≡ true →
          neighbour s t b (suc p) ≡ suc (number_of s across_marks across_levels across_indices)
      unfolding neighbour
      to_across = numbered_points.to_across (numbered s) t b p h axis inner

      pub to_parent : is_border (level_on s p t) numerator_on ≡ false →
          neighbour s t b (suc p) ≡ suc (number_of s (mark_on s p) parent_levels parent_indices)
      unfolding neighbour
      to_parent = numbered_points.to_parent (numbered s) t b p h axis inner

      pub across_there : (numbered s).border ≡ true → PointOf s across_marks across_levels across_indices
      across_there = numbered_points.across_there (numbering s) t b p h axis inner

      pub parent_there : is_border (level_on s p t) numerator_on ≡ false → PointOf s (mark_on s p) parent_levels parent_indices
      parent_there = numbered_points.parent_there (numbering s) t b p h axis inner

      -- A neighbour that there is with a zero border lies off the border.
      pub off_border : (numbered s).border ≡ false → (neighbour s t b (suc p) ≡ 0 → ⊥) → is_border (level_on s p t) numerator_on ≡ false
      unfolding neighbour
      off_border = numbered_points.off_border (numbered s) t b p h axis inner

      -- Nothing lies beside a point inside only where the neighbour's coordinate is 0 or 1.
      pub border_at : neighbour s t b (suc p) ≡ 0 → (numerator_on ≡ 0) ⊎ (numerator_on ≡ 2 ^ suc (level_on s p t))
      unfolding neighbour
      border_at = numbered_points.border_at (numbered s) t b p h axis inner

  -- Beside a code p + 1 lies nothing, or there are its point and the axis, it lies inside, and its parent lies off the border or the border has values.
  pub none_or_point : {A : Type 0} → (neighbour s t b (suc p) ≡ 0 → A) →
      (p < points_of s → t < s.axes → mark_on s p t ≡ 0 → is_border (level_on s p t) numerator_on ≡ false → A) →
      (p < points_of s → t < s.axes → mark_on s p t ≡ 0 → is_border (level_on s p t) numerator_on ≡ true → (numbered s).border ≡ true → A) → A
  unfolding neighbour
  none_or_point = numbered_points.none_or_point (numbered s) t b p
