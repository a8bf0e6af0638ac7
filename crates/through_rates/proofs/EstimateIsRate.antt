-- The estimate from the coefficients of accepted rates, at the coordinates of a point, is the rate there times 2^d: no check refuses, since all axes are forward,
-- a point's coordinates are at most the unit and the coefficients of accepted rates are within the content limit; and the surface passes through the rate.
-- Assumes nothing.
use Rattle.std.specs.Prelude.{Ok}
use mathlib.Core.Path.{◌≡◌, refl, ap, sym, ◌∙◌, fun_ext}
use mathlib.Core.Bool.{true, false}
use mathlib.Core.List.{List, [], ◌∷◌, ◌++◌}
use Prim.Native.Nat.{ℕ, zero, suc, ◌*◌, ◌/◌, ◌^◌, ◌≤◌, ◌<◌}
use native.Mathlib.Nat.{zero-mul, zero-div}
use native.Mathlib.Omega.{arith}
use lib.IntN.{ℤ, pos, nat_abs}
use lib.ListN.{length, get_or, length-append, get_or-append, get_or-eq_default}
use lib.Pow.{ones_lt}
use lib.Seq.{get_or-append_seam}
use borrow.Author.Tests.{le-leb, eq-eqb}
use Rattle.naturals.specs.Test.{all}
use Rattle.naturals.proofs.Cases.{le_or_lt}
use Rattle.naturals.proofs.Tests.{all_from}
use Rattle.naturals.proofs.FirstFailing.{first_none}
use Rattle.refusals.specs.declared.Refusal.TheVariants.{StillSampled}
use Rattle.integers.specs.Half.{in_limit, content_at}
use Rattle.integers.proofs.Sizes.{rate_size}
use Rattle.numbering.specs.Point.{at}
use Rattle.hierarchy.specs.Turns.{value_at}
use Rattle.hierarchy.specs.Sets.{every_axis}
use Rattle.hierarchy.proofs.Values.{value_zero, value_suc, value_past}
use Rattle.hierarchy.proofs.Bounds.{table_in_limit}
use Rattle.shapes.specs.declared.Shape.{Shape}
use Rattle.shapes.specs.Shapes.{points_of}
use Rattle.shapes.proofs.Checked.{InRange, passed_in_range}
use Rattle.grids.specs.Grids.{mark_on, level_on, index_on, neighbour}
use Rattle.grids.proofs.Points.{index_below, mark_past, index_past}
use Rattle.surfaces.specs.Weights.{unit, is_coordinate, coordinate}
use Rattle.surfaces.specs.Surface.{coordinates_in, coordinates_of, estimate_at}
use Rattle.surfaces.proofs.AxisHat.{coordinate_inside, axis_coordinate_le}
use Rattle.surfaces.proofs.Interpolates.{estimate_through}
use Rattle.states.specs.States.{check_state}
use Rattle.states.proofs.Bits.{all_bits_in}
use Rattle.states.proofs.Checked.{state_passes, axes_pass}
use Rattle.tables.specs.Tables.{times, adopted, adopt}
use Rattle.tables.proofs.Checking.{table_passes}
use Rattle.tables.proofs.Answering.{adopt_done}
use Rattle.whole.specs.Accepted.{Accepted}
use Rattle.whole.specs.Whole.{coefficients_of}
use Rattle.whole.proofs.Inverse.{coefficients_length}
use Rattle.whole.proofs.AnswersDown.{coefficient_at}
use Rattle.estimates.specs.Estimates.{check_forward, inside_at, first_outside, check_coordinates, estimate}
use Rattle.estimates.proofs.Answering.{estimate_answered}
use Rattle.through_rates.specs.Coordinates.{first_values, coordinate_list}

-- ---- the list of coordinates

first_length : (k : ℕ) (f : ℕ → ℕ) → length (first_values k f) ≡ k
unfolding first_values
first_length zero f = refl
first_length (suc k) f = omega (arith, length-append (first_values k f) (f k ∷ []), first_length k f)

first_at_lem : (k : ℕ) (f : ℕ → ℕ) (t : ℕ) → t < k → at (first_values k f) t ≡ f t
unfolding first_values
first_at_lem zero f t h = absurd (omega arith)
first_at_lem (suc k) f t h =
    le_or_lt k t
    (λ le.
    let end : t ≡ length (first_values k f) = omega (arith, first_length k f) in
    let last : t ≡ k = omega arith in
    ap (λ (m : ℕ). get_or (first_values k f ++ (f k ∷ [])) m 0) end
    ∙ get_or-append_seam (first_values k f) (f k) [] 0
    ∙ ap f (sym last))
    (λ lt. get_or-append (first_values k f) (f k ∷ []) 0 t (omega (arith, first_length k f)) ∙ first_at_lem k f t lt)

module _ (s : Shape) (q : ℕ) where
  list_length : length (coordinate_list s q) ≡ s.axes
  unfolding coordinate_list
  list_length = first_length s.axes (coordinates_of s q)

  -- Past the last axis a point's mark, level and index are 0, and so is what a list holds there.
  none_past : (t : ℕ) → s.axes ≤ t → coordinates_of s q t ≡ 0
  unfolding coordinates_in coordinate
  none_past t past =
      coordinate_inside unit (level_on s q t) (index_on s q t) (mark_on s q t) (mark_past s q t past)
      ∙ ap (λ (i : ℕ). i * unit / 2 ^ suc (level_on s q t)) (index_past s q t past)
      ∙ ap (λ (x : ℕ). x / 2 ^ suc (level_on s q t)) (zero-mul unit)
      ∙ zero-div (2 ^ suc (level_on s q t))

  list_holds : at (coordinate_list s q) ≡ coordinates_of s q
  unfolding coordinate_list
  list_holds =
      fun_ext λ t.
      le_or_lt s.axes t
      (λ past. get_or-eq_default (coordinate_list s q) 0 (omega (arith, list_length)) ∙ sym (none_past t past))
      (λ h. first_at_lem s.axes (coordinates_of s q) t h)

  -- A point's coordinate is at most the unit.
  coordinate_small : q < points_of s → (t : ℕ) → t < s.axes → coordinates_of s q t ≤ unit
  unfolding coordinates_in
  coordinate_small h t axis =
      axis_coordinate_le unit (mark_on s q t) (level_on s q t) (index_on s q t) (omega (arith, index_below s q h t axis))

  module _ (h : q < points_of s) where
    is_coordinate_lem : (t : ℕ) → t < s.axes → inside_at unit (coordinate_list s q) t ≡ true
    unfolding inside_at is_coordinate
    is_coordinate_lem t axis =
        ap (λ (x : ℕ → ℕ). is_coordinate unit (x t)) list_holds
        ∙ le-leb (coordinates_of s q t) unit (coordinate_small h t axis)

    coordinates_pass : check_coordinates unit s.axes (coordinate_list s q) ≡ Ok tt
    unfolding check_coordinates first_outside
    coordinates_pass =
        rw (
          eq-eqb (length (coordinate_list s q)) s.axes list_length,
          first_none (inside_at unit (coordinate_list s q)) s.axes is_coordinate_lem,
          le-leb s.axes s.axes (omega arith),
        )

-- ---- the state and the table

module _ (s : Shape) (rs : List ℤ) (a : Accepted s rs) where
  range : InRange s
  range = passed_in_range s a.shape

  adopted_passes : check_state (adopted s) (length (coefficients_of s rs)) ≡ Ok tt
  adopted_passes =
      state_passes (adopted s) (length (coefficients_of s rs))
      (record { range = range; few = ones_lt s.axes; long = coefficients_length s rs })

  forward_passes : check_forward (adopted s) ≡ Ok tt
  unfolding check_forward
  forward_passes = axes_pass false StillSampled (adopted s) (all_bits_in s.axes)

  rate_small : (p : ℕ) → nat_abs (value_at rs p) ≤ 2 ^ 31
  rate_small zero = rw (value_zero rs) (omega arith)
  rate_small (suc p) =
      le_or_lt (points_of s) p
      (λ past. rw (value_past rs (suc p) (omega (arith, a.long))) (omega arith))
      (λ h. rw (value_suc rs p) (rate_size (get_or rs p (pos 0)) (a.each p h)))

  contents_pass : all (content_at (coefficients_of s rs)) (length (coefficients_of s rs)) ≡ true
  unfolding content_at value_at
  contents_pass =
      all_from (content_at (coefficients_of s rs)) (length (coefficients_of s rs))
      (λ p h.
      ap in_limit (coefficient_at s rs p (omega (arith, coefficients_length s rs)))
      ∙ table_in_limit (neighbour s) every_axis s.axes (value_at rs) range.high rate_small (suc p))

  -- The coefficients can be adopted.
  pub adopted_coefficients : adopt s (coefficients_of s rs) ≡ Ok (adopted s)
  adopted_coefficients =
      adopt_done s (coefficients_of s rs)
      (table_passes s (coefficients_of s rs) (record { range = range; long = coefficients_length s rs }))
      contents_pass

  -- The estimate at a point is the rate there times 2^d.
  pub estimate_is_rate : (q : ℕ) → q < points_of s →
      estimate (adopted s) (coefficients_of s rs) (coordinate_list s q) ≡ Ok (times s.axes (get_or rs q (pos 0)))
  unfolding times
  estimate_is_rate q h =
      estimate_answered (adopted s) (coefficients_of s rs) (coordinate_list s q) adopted_passes forward_passes (coordinates_pass s q h) contents_pass
      ∙ ap Ok
      (ap (estimate_at s (value_at (coefficients_of s rs))) (list_holds s q)
      ∙ estimate_through s range.low (omega (arith, range)) (value_at (coefficients_of s rs)) (value_at rs) (value_zero rs)
      (coefficient_at s rs) q h
      ∙ ap (times s.axes) (value_suc rs q))
