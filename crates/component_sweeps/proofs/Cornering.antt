-- The first position of a box, one axis after the other: on the axes passed it has the box's lowest place, on the others the middle point's. True since the middle's
-- place is at least half the box's width, so that it can step down so far.
-- Assumes nothing.
use mathlib.Core.List.{List}
use mathlib.Core.Path.{◌≡◌, refl, ap₂, sym, ◌∙◌}
use Prim.Native.Nat.{ℕ, zero, suc, ◌+◌, ◌-◌, ◌*◌, ◌%◌, ◌^◌, ◌≤◌, ◌<◌}
use native.Mathlib.Numerals.{add-one}
use native.Mathlib.Omega.{arith}
use lib.Pow.{pow_pos}
use Rattle.naturals.proofs.Cases.{eq_or_not}
use Rattle.naturals.proofs.Shifts.{one_shifted}
use Rattle.numbering.specs.Point.{at}
use Rattle.shapes.specs.Shapes.{most_points}
use Rattle.component_grids.specs.Component.{points_to, place_at}
use Rattle.component_grids.proofs.Places.{shift_down}
use Rattle.component_boxes.specs.Order.{half_span}
use Rattle.component_boxes.proofs.Falling.{points_before}
use Rattle.component_boxes.proofs.WholeGrid.{half_span_zero, half_span_suc, half_span_inside}
use Rattle.component_sweeps.specs.declared.grid.Layout.{Layout}
use Rattle.component_sweeps.specs.declared.grid.GridBox.{GridBox}
use Rattle.component_sweeps.specs.Steps.{tops_of, turn_of, Corner}
use Rattle.component_sweeps.proofs.Lines.{box_low}
use Rattle.component_sweeps.proofs.Bounds.{ground}

-- ---- the span of a box's half

module _ (g : Layout) (ls : List ℕ) (within : (t : ℕ) → t < g.axes → at ls t ≤ at g.tops t) where
  pub level_low : (t : ℕ) → t < g.axes → at ls t ≤ 8
  level_low t axis = omega (arith, within t axis, g.low t)

  pub shifted : (t : ℕ) → t < g.axes → {level : ℕ} → level ≡ at ls t → 1 * 2 ^ level % 2 ^ 64 ≡ 2 ^ at ls t
  shifted t axis {level} is = rw is (one_shifted 64 (at ls t) (omega (arith, level_low t axis)))

  module _ (t span : ℕ) (is : span ≡ half_span t (tops_of g) (at ls)) (axis : t < g.axes) (half : ℕ) (half_is : half ≡ 2 ^ at ls t) where
    pub spanned_next : span + (half - 1) * at g.strides t ≡ half_span (t + 1) (tops_of g) (at ls)
    spanned_next =
        rw (add-one t)
        (ap₂ (λ (x y : ℕ). x + y) is (ap₂ (λ (x y : ℕ). (x - 1) * y) half_is (g.laid t axis)) ∙ sym (half_span_suc (tops_of g) (at ls) t))

    pub spanned_fits : span + (half - 1) * at g.strides t < most_points
    spanned_fits =
        omega (
          arith,
          spanned_next,
          half_span_inside (tops_of g) (at ls) (t + 1) (λ u less. within u (omega arith)),
          points_before (tops_of g) (t + 1) g.axes (omega arith),
          g.small,
        )

-- ---- the first position

module _ (box : GridBox) where
  abbrev d : ℕ
  d = box.grid.now.axes

  abbrev tops : ℕ → ℕ
  tops = tops_of box.grid.now

  abbrev span : ℕ → ℕ
  span t = half_span t tops (at box.levels)

  -- The steps down on the first t axes.
  record Cornering (t : ℕ) : Type 0 where
    pub within : span t ≤ box.centre
    pub inside : box.centre - span t < points_to tops d
    pub lowest : (u : ℕ) → u < t → place_at tops (box.centre - span t) u + 2 ^ at box.levels u ≡ place_at tops box.centre u + 1
    pub rest : (u : ℕ) → t ≤ u → u < d → place_at tops (box.centre - span t) u ≡ place_at tops box.centre u

  cornering : (t : ℕ) → t ≤ d → Cornering t
  cornering zero le =
      let none : box.centre - span 0 ≡ box.centre = omega (arith, half_span_zero tops (at box.levels)) in
      record {
        within = omega (arith, half_span_zero tops (at box.levels));
        inside = omega (arith, none, box.fits.inside);
        lowest = λ u less. absurd (omega arith);
        rest = λ u from axis. rw none refl;
      }
  cornering (suc t) le =
      let s : Cornering t = cornering t (omega arith) in
      let far : ℕ = 2 ^ at box.levels t - 1 in
      let enough : far < place_at tops (box.centre - span t) t =
      omega (arith, box_low (turn_of box t) (ground box t le) t le, s.rest t (omega arith) le, pow_pos (at box.levels t)) in
      let down = shift_down d tops t (box.centre - span t) far le s.inside enough in
      let next : box.centre - span (suc t) ≡ box.centre - span t - far * points_to tops t = omega (arith, half_span_suc tops (at box.levels) t) in
      record {
        within = omega (arith, half_span_suc tops (at box.levels) t, down.0, s.within);
        inside = omega (arith, next, down.1.inside);
        lowest =
            λ u less.
            rw next
            (eq_or_not u t
            (λ e. rw e (omega (arith, down.1.own, enough, s.rest t (omega arith) le, pow_pos (at box.levels t))))
            (λ ne. omega (arith, down.1.others u (omega arith) ne, s.lowest u (omega arith))));
        rest = λ u from lt. rw next (down.1.others u lt (λ e. omega arith) ∙ s.rest u (omega arith) lt);
      }

  pub span_within : span d ≤ box.centre
  span_within = (cornering d (omega arith)).within

  pub corner_is : Corner box (box.centre - span d)
  corner_is =
      let s : Cornering d = cornering d (omega arith) in
      record { inside = s.inside; lowest = s.lowest }
