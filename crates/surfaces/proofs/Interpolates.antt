-- The surface of the coefficients of rates passes through every rate, alone does so, and its estimate there is the rate times 2^d; one turn does the same on the
-- lines along its axis. True of every grid with hat functions, and numbered points have them; the estimate loses nothing at a grid point.
-- Assumes nothing.
use mathlib.Core.Path.{◌≡◌, refl, ap, ap₂, sym, ◌∙◌}
use mathlib.Core.Bool.{Bool, true, false}
use Prim.Native.Nat.{ℕ, zero, suc, ◌+◌, ◌*◌, ◌^◌, ◌≤◌, ◌<◌}
use native.Mathlib.Nat.{pow-zero, pow-suc, one-le-pow}
use native.Mathlib.Omega.{arith}
use lib.IntN.{ℤ, pos, ◌*ℤ◌}
use lib.Pow.{pow_pos}
use borrow.Author.Tests.{eq-eqb, ne_eqb}
use Rattle.std.specs.Prelude.{if◌then◌else◌}
use Rattle.naturals.specs.Test.{all}
use Rattle.naturals.proofs.Cases.{eq_or_not}
use Rattle.integers.specs.Half.{is_even}
use Rattle.integers.proofs.Products.{times_times, times_swap, times_cancel}
use Rattle.hierarchy.specs.Turns.{sum_on, forward}
use Rattle.hierarchy.specs.Sets.{table_of, every_axis, no_axis}
use Rattle.hierarchy.specs.Work.{put}
use Rattle.hierarchy.proofs.Work.{put_same, put_other}
use Rattle.hierarchy.proofs.Closed.{table_closed}
use Rattle.numbered.specs.Numbered.{Numbered, Numbering}
use Rattle.numbered.specs.Neighbours.{neighbour, depth}
use Rattle.numbered.proofs.Instance.{numbered_grid}
use Rattle.shapes.specs.declared.Shape.{Shape}
use Rattle.shapes.specs.Shapes.{points_of}
use Rattle.grids.specs.Grids.{numbered}
use Rattle.grids.specs.Grids as grids
use Rattle.grids.proofs.Points.{numbering}
use Rattle.grids.proofs.Instance.{neighbours_of, grid}
use Rattle.interpolation.specs.Weighted.{weighted_sum}
use Rattle.interpolation.specs.Hats.{indicator}
use Rattle.interpolation.proofs.Products.{prod_to_cong, prod_to_split}
use Rattle.interpolation.proofs.Weighted.{weighted_sum_cong}
use Rattle.interpolation.proofs.Partly.{prod_to_indicator, factor, factors}
use Rattle.interpolation.proofs.Through.{others, others_in, others_out, passes_through, only_coefficients, line_sums}
use Rattle.surfaces.specs.Weights.{unit}
use Rattle.surfaces.specs.Surface.{coordinates_in, product_in, surface_in, joint_sum_in, rounded, estimate_in, coordinates_of, weight_on, surface, estimate_at}
use Rattle.surfaces.specs.Lines.{same_beside, on_line, line_weight, line_sum}
use Rattle.surfaces.proofs.Unit.{unit_bits, unit_is, WholeCoordinates}
use Rattle.surfaces.proofs.Instance.{grid_weight, grid_same, hats_in, shape_coordinates, hats}
use Rattle.surfaces.proofs.GridPoints.{WholeWeights, whole_coordinates, shape_weights}
use Rattle.surfaces.proofs.Exact.{weighted_exact_in}
use Rattle.surfaces.proofs.Rounding.{rounded_whole}

-- Twice a number to the d.
double_pow : (u d : ℕ) → (u + u) ^ d ≡ 2 ^ d * u ^ d
double_pow u zero = rw (pow-zero (u + u), pow-zero 2, pow-zero u)
double_pow u (suc d) =
    rw (pow-suc (u + u) d, pow-suc 2 d, pow-suc u d, double_pow u d) (regroup (2 ^ d) (u ^ d) u)
  where
    regroup : (a b c : ℕ) → a * b * (c + c) ≡ a * 2 * (b * c)
    regroup a b c = omega arith

-- Rate times 2^d, times the unit to the d.
double_times : (z : ℤ) (u d : ℕ) → z *ℤ pos ((u + u) ^ d) ≡ z *ℤ pos (2 ^ d) *ℤ pos (u ^ d)
double_times z u d = ap (λ (x : ℕ). z *ℤ pos x) (double_pow u d) ∙ times_times z (2 ^ d) (u ^ d)

-- In a unit of so many factors of two.
module _ (u bits : ℕ) (binary : u ≡ 2 ^ bits) where
  some : 0 < u
  some = omega (arith, binary, pow_pos bits)

  module _ {g : Numbered} {Point : (ℕ → ℕ) → (ℕ → ℕ) → (ℕ → ℕ) → Type 0} (n : Numbering g Point) where
    -- The surface at a point is the sum that interpolation speaks of.
    surface_factors : (c : ℕ → ℤ) (q : ℕ) →
        surface_in u g c (coordinates_in u g q) ≡ weighted_sum g.count c (factors (grid_weight u g) (grid_same g) g.axes no_axis (suc q))
    unfolding surface_in product_in factors factor grid_weight
    surface_factors c q = refl

    module _ (dim : 1 ≤ g.axes) (whole : WholeCoordinates bits g) where
      -- The surface of the coefficients of rates passes through every rate.
      pub surface_through_in : (c r : ℕ → ℤ) → r 0 ≡ pos 0 →
          ((q : ℕ) → q < g.count → c (suc q) ≡ table_of (neighbour g) g.axes every_axis r (suc q)) →
          (q : ℕ) → q < g.count → surface_in u g c (coordinates_in u g q) ≡ r (suc q) *ℤ pos (2 ^ g.axes) *ℤ pos (u ^ g.axes)
      surface_through_in c r z coefficients q point =
          surface_factors c q
          ∙ passes_through g.count g.axes u (neighbour g) (depth g) (numbered_grid n) (grid_weight u g) (grid_same g)
          (hats_in u n bits binary whole) c r dim z
          (λ p lt. coefficients p lt ∙ ap (λ (f : ℕ → ℤ). f (suc p)) (table_closed (neighbour g) g.axes every_axis r))
          q point
          ∙ double_times (r (suc q)) u g.axes

      -- Only the coefficients of the rates have such a surface.
      pub only_surface_in : (c r : ℕ → ℤ) → r 0 ≡ pos 0 →
          ((q : ℕ) → q < g.count → surface_in u g c (coordinates_in u g q) ≡ r (suc q) *ℤ pos (2 ^ g.axes) *ℤ pos (u ^ g.axes)) →
          (q : ℕ) → q < g.count → c (suc q) ≡ table_of (neighbour g) g.axes every_axis r (suc q)
      only_surface_in c r z through q point =
          only_coefficients g.count g.axes u (neighbour g) (depth g) (numbered_grid n) (grid_weight u g) (grid_same g)
          (hats_in u n bits binary whole) c r some dim z
          (λ p lt. sym (surface_factors c p) ∙ through p lt ∙ sym (double_times (r (suc p)) u g.axes))
          q point
          ∙ sym (ap (λ (f : ℕ → ℤ). f (suc q)) (table_closed (neighbour g) g.axes every_axis r))

    -- The estimate at a point is the rate times 2^d.
    pub estimate_through_in : 1 ≤ g.axes → WholeWeights bits g → (c r : ℕ → ℤ) → r 0 ≡ pos 0 →
        ((q : ℕ) → q < g.count → c (suc q) ≡ table_of (neighbour g) g.axes every_axis r (suc q)) →
        (q : ℕ) → q < g.count → estimate_in u g c (coordinates_in u g q) ≡ r (suc q) *ℤ pos (2 ^ g.axes)
    unfolding estimate_in
    estimate_through_in dim whole c r z coefficients q point =
        ap (rounded u) sum_is ∙ rounded_whole u some (r (suc q) *ℤ pos (2 ^ g.axes))
      where
        sum_is : joint_sum_in u g c (coordinates_in u g q) ≡ r (suc q) *ℤ pos (2 ^ g.axes) *ℤ pos u
        sum_is =
            times_cancel (joint_sum_in u g c (coordinates_in u g q)) (r (suc q) *ℤ pos (2 ^ g.axes) *ℤ pos u) (u ^ g.axes)
            (one-le-pow g.axes u some)
            (weighted_exact_in u bits binary n whole c q point
            ∙ ap (λ (v : ℤ). v *ℤ pos u) (surface_through_in dim (whole_coordinates bits g whole) c r z coefficients q point)
            ∙ times_swap (r (suc q) *ℤ pos (2 ^ g.axes)) (u ^ g.axes) u)

-- ---- the points of a shape

module _ (s : Shape) where
  module _ (dim : 1 ≤ s.axes) (few : s.level < unit_bits) where
    pub surface_through : (c r : ℕ → ℤ) → r 0 ≡ pos 0 →
        ((q : ℕ) → q < points_of s → c (suc q) ≡ table_of (grids.neighbour s) s.axes every_axis r (suc q)) →
        (q : ℕ) → q < points_of s → surface s c (coordinates_of s q) ≡ r (suc q) *ℤ pos (2 ^ s.axes) *ℤ pos (unit ^ s.axes)
    surface_through = rw neighbours_of (surface_through_in unit unit_bits unit_is (numbering s) dim (shape_coordinates s few))

    pub only_surface : (c r : ℕ → ℤ) → r 0 ≡ pos 0 →
        ((q : ℕ) → q < points_of s → surface s c (coordinates_of s q) ≡ r (suc q) *ℤ pos (2 ^ s.axes) *ℤ pos (unit ^ s.axes)) →
        (q : ℕ) → q < points_of s → c (suc q) ≡ table_of (grids.neighbour s) s.axes every_axis r (suc q)
    only_surface = rw neighbours_of (only_surface_in unit unit_bits unit_is (numbering s) dim (shape_coordinates s few))

  pub estimate_through : 1 ≤ s.axes → s.level + s.axes ≤ unit_bits → (c r : ℕ → ℤ) → r 0 ≡ pos 0 →
      ((q : ℕ) → q < points_of s → c (suc q) ≡ table_of (grids.neighbour s) s.axes every_axis r (suc q)) →
      (q : ℕ) → q < points_of s → estimate_at s c (coordinates_of s q) ≡ r (suc q) *ℤ pos (2 ^ s.axes)
  estimate_through dim few = rw neighbours_of (estimate_through_in unit unit_bits unit_is (numbering s) dim (shape_weights s few))

  -- ---- one axis

  module _ (t : ℕ) (axis : t < s.axes) (p q : ℕ) where
    others_factor : ℕ → ℕ
    others_factor = factor (grid_weight unit (numbered s)) (grid_same (numbered s)) (others t) p (suc q)

    own_factor : others_factor t ≡ weight_on s (coordinates_of s q) p t
    unfolding others_factor factor grid_weight
    own_factor = rw (others_out t)

    other_factor : (u : ℕ) → (u ≡ t → ⊥) → others_factor u ≡ indicator (same_beside s t p q u)
    unfolding others_factor factor grid_same same_beside
    other_factor u ne = rw (others_in t u ne, ne_eqb u t ne)

    same_there : same_beside s t p q t ≡ true
    unfolding same_beside
    same_there = rw (eq-eqb t t refl)

    -- The weight on a line is the weight on its axis and agreement on the others.
    line_factors : line_weight s t q p ≡ factors (grid_weight unit (numbered s)) (grid_same (numbered s)) s.axes (others t) (suc q) p
    unfolding line_weight on_line factors others_factor
    line_factors =
        sym
        (prod_to_split others_factor s.axes t axis
        ∙ ap₂ ◌*◌ own_factor
        (prod_to_cong (put others_factor t 1) (λ u. indicator (same_beside s t p q u)) s.axes beside
        ∙ prod_to_indicator (same_beside s t p q) s.axes)
        ∙ chosen (all (same_beside s t p q) s.axes) (weight_on s (coordinates_of s q) p t))
      where
        beside : (u : ℕ) → u < s.axes → put others_factor t 1 u ≡ indicator (same_beside s t p q u)
        beside u lt =
            eq_or_not u t
            (λ e. rw e (put_same others_factor t 1 ∙ sym (ap indicator same_there)))
            (λ ne. put_other others_factor t 1 u ne ∙ other_factor u ne)

        chosen : (b : Bool) (w : ℕ) → w * indicator b ≡ if b then w else 0
        chosen true w = omega arith
        chosen false w = omega arith

  -- A forward turn on axis t alone: on each line along that axis, the weighted sums of the turned values are the values.
  pub line_through : s.level < unit_bits → (t : ℕ) → t < s.axes → (f : ℕ → ℤ) → f 0 ≡ pos 0 →
      ((q : ℕ) → q < points_of s → is_even (sum_on (grids.neighbour s) t f (suc q)) ≡ true) →
      (q : ℕ) → q < points_of s → line_sum s t (forward (grids.neighbour s) t f) q ≡ f (suc q) *ℤ pos unit
  unfolding line_sum
  line_through few t axis f z even q point =
      weighted_sum_cong (points_of s) (forward (grids.neighbour s) t f) _ _ (λ p lt. line_factors t axis p q)
      ∙ line_sums (points_of s) s.axes unit (grids.neighbour s) (grids.depth s) (grid s) (grid_weight unit (numbered s)) (grid_same (numbered s))
      (hats s few) t f axis z even q point
