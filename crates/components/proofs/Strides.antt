-- The strides of a layout: after t axes each of them has the points of the axes before it, and the running product is that of the next. At the end that is the
-- layout of the grid.
-- Assumes nothing.
use Rattle.std.specs.Prelude.{Ok}
use mathlib.Core.Path.{◌≡◌, subst, sym, ◌∙◌}
use mathlib.Core.List.{List}
use Prim.Native.Nat.{ℕ, ◌+◌, ◌*◌, ◌≤◌, ◌<◌}
use native.Mathlib.Omega.{arith}
use lib.ListN.{length, set, length-set}
use lib.Seq.{get_or-set_same, get_or-set_other}
use Rattle.naturals.proofs.Cases.{eq_or_not}
use Rattle.numbering.specs.Point.{at}
use Rattle.component_grids.specs.Component.{across, points_to}
use Rattle.shapes.specs.Shapes.{most_points}
use Rattle.points.specs.Points.{eight}
use Rattle.points.proofs.Eight.{padded_at}
use Rattle.components.specs.Components.{tops_in, grid_points, check_grid}
use Rattle.components.proofs.Checked.{LevelsIn, levels_passed, grid_levels, grid_small}
use Rattle.components.proofs.Counting.{Counted, counted_starts, counted_steps, counted_small}

pub record Strided (ls strides : List ℕ) (t points : ℕ) : Type 0 where
  pub counted : Counted ls t points
  pub long : length strides ≡ 8
  pub each : (u : ℕ) → u < t → at strides u ≡ points_to (tops_in ls) u

pub strided_starts : (ls strides : List ℕ) → length strides ≡ 8 → Strided ls strides 0 1
strided_starts ls strides e = record { counted = counted_starts ls; long = e; each = λ u h. absurd (omega arith) }

module _ (ls : List ℕ) (passed : check_grid ls ≡ Ok tt) where
  range : LevelsIn ls
  range = levels_passed ls (grid_levels ls passed)

  tops : at (eight (at ls)) ≡ tops_in ls
  tops = padded_at ls range.high

  pub low_tops : (u : ℕ) → at (eight (at ls)) u ≤ 8
  low_tops u = subst (λ (f : ℕ → ℕ). f u ≤ 8) (sym tops) (range.tops u)

  pub few_points : points_to (at (eight (at ls))) (length ls) ≤ most_points
  unfolding grid_points
  few_points = subst (λ (f : ℕ → ℕ). points_to f (length ls) ≤ most_points) (sym tops) (grid_small ls passed)

  module _ (strides : List ℕ) (t points : ℕ) (strided : Strided ls strides t points) where
    pub strided_steps : (a : ℕ) → a ≡ across (tops_in ls t) → t < length ls → Strided ls (set strides t points) (t + 1) (points * a)
    strided_steps a e h =
        let small : points * a ≤ most_points = counted_small strided.counted a e (grid_small ls passed) h in
        record {
          counted = counted_steps strided.counted a e h small;
          long = length-set strides t points ∙ strided.long;
          each = λ u lt. at_axis u (omega arith);
        }
      where
        at_axis : (u : ℕ) → u ≤ t → at (set strides t points) u ≡ points_to (tops_in ls) u
        at_axis u le =
            eq_or_not u t
            (λ same. rw same (get_or-set_same strides t points 0 (omega (arith, range.high, strided.long)) ∙ strided.counted.product))
            (λ other. get_or-set_other strides t u points 0 other ∙ strided.each u (omega arith))

    pub strides_laid : length ls ≤ t → (u : ℕ) → u < length ls → at strides u ≡ points_to (at (eight (at ls))) u
    strides_laid h u lt = subst (λ (f : ℕ → ℕ). at strides u ≡ points_to f u) (sym tops) (strided.each u (omega arith))
