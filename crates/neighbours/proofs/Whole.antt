-- With a zero border the table is one face: its inner axes are all axes, it starts at number 0, and nothing lies across the border. Its neighbours are document
-- 01's parents, by definition.
-- Assumes nothing.
use mathlib.Core.Path.{◌≡◌, ap, ap₂, ◌∙◌}
use mathlib.Core.Bool.{true, false}
use Rattle.std.specs.Prelude.{Some, None}
use Prim.Native.Nat.{ℕ, suc, ◌+◌, ◌<◌}
use native.Mathlib.Nat.{zero-add}
use native.Mathlib.Omega.{arith}
use Rattle.numbering.specs.declared.Side.{Side}
use Rattle.numbering.specs.Count.{points}
use Rattle.numbering.specs.Number.{number}
use Rattle.numbering.specs.Inverse.{level_at, index_at}
use Rattle.numbering.specs.Parent.{numerator, is_border, parent_level, parent_index, update}
use Rattle.shapes.specs.declared.Shape.{Shape}
use Rattle.shapes.specs.Shapes.{points_of}
use Rattle.grids.specs.Grids.{mark_on, level_on, neighbour}
use Rattle.shapes.proofs.Layers.{points_plain}
use Rattle.grids.proofs.Points.{number_plain, marks_plain, levels_plain, indices_plain}
use Rattle.grids.proofs.Beside.{numerator_on, to_border, to_parent}
use Rattle.neighbours.specs.Facets.{on_border, parent_number, across, Sits}
use Rattle.neighbours.specs.declared.facets.Line.{Line}
use Rattle.neighbours.specs.declared.facets.Rims.{Rims}

nothing_there : (r : Rims) → None ≡ Some r → ⊥
nothing_there r e = cc

module _ (line : Line) (plain : line.shape.border ≡ false) where
  abbrev s : Shape
  s = line.shape

  abbrev t : ℕ
  t = line.place

  count : points_of s ≡ points s.axes s.level
  count = points_plain s plain

  module _ (q : ℕ) (h : q < points s.axes s.level) (b : Side) where
    abbrev l : ℕ → ℕ
    l = level_at s.axes s.level q

    abbrev i : ℕ → ℕ
    i = index_at s.axes s.level q

    below : q < points_of s
    below = omega (arith, h, count)

    same_border : is_border (level_on s q t) (numerator_on s t b q) ≡ on_border t b l i
    same_border =
        ap₂ (λ (l i : ℕ → ℕ). is_border (l t) (numerator b (i t))) (levels_plain s plain q) (indices_plain s plain q)

    all_inside : mark_on s q t ≡ 0
    all_inside = ap (λ (m : ℕ → ℕ). m t) (marks_plain s plain q)

    at_border : on_border t b l i ≡ true → neighbour s t b (suc (0 + q)) ≡ 0
    at_border e = ap (λ (p : ℕ). neighbour s t b (suc p)) (zero-add q) ∙ to_border s t b q below line.axis all_inside (same_border ∙ e) plain

    off_border : on_border t b l i ≡ false → neighbour s t b (suc (0 + q)) ≡ suc (0 + parent_number s.axes t b l i)
    off_border e =
        ap (λ (p : ℕ). neighbour s t b (suc p)) (zero-add q)
        ∙ to_parent s t b q below line.axis all_inside (same_border ∙ e)
        ∙ ap suc (number_plain s plain _ _ _)
        ∙ ap₂ (λ (l i : ℕ → ℕ). suc (number s.axes (update l t (parent_level (l t) (numerator b (i t)))) (update i t (parent_index (numerator b (i t))))))
        (levels_plain s plain q) (indices_plain s plain q)
        ∙ ap suc (omega arith)

  pub whole : Sits s t s.axes t 0 None
  unfolding across
  whole =
      record {
        inside = omega (arith, count);
        low = λ r e. absurd (nothing_there r e);
        inner = off_border;
        outer = at_border;
        apart = λ q h b e some. absurd (omega (arith, at_border q h b e));
      }
