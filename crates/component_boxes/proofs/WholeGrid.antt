-- The whole grid is a box: its middle point has the place 2^n on each axis, and every point is near it.
-- Assumes nothing.
use mathlib.Core.Path.{◌≡◌, refl, ap, ◌∙◌}
use Prim.Native.Nat.{ℕ, zero, suc, ◌+◌, ◌-◌, ◌*◌, ◌/◌, ◌%◌, ◌^◌, ◌≤◌, ◌<◌}
use native.Mathlib.Nat.{pow-suc, mul-le-mul_right, add-mul-div_right, div-eq_of_lt, mod-eq_of_lt, mul_comm}
use native.Mathlib.Omega.{arith}
use lib.Pow.{pow_pos, pow_mono}
use Rattle.naturals.proofs.Cases.{eq_or_not}
use Rattle.component_grids.specs.Component.{across, points_to, place_at}
use Rattle.component_grids.proofs.Places.{across_is, points_to_zero, points_to_suc, points_to_pos, place_is_lem, place_low, place_high, place_below}
use Rattle.component_boxes.specs.Order.{half_span, centre}
use Rattle.component_boxes.proofs.Fitting.{fits_by}
use Rattle.component_boxes.specs.Boxes.{Near, Fits}

module _ (tops k : ℕ → ℕ) where
  pub half_span_zero : half_span 0 tops k ≡ 0
  unfolding half_span
  half_span_zero = refl

  pub half_span_suc : (t : ℕ) → half_span (suc t) tops k ≡ half_span t tops k + (2 ^ k t - 1) * points_to tops t
  unfolding half_span
  half_span_suc t = refl

  -- A box that fits on the axes spans no more than the grid.
  pub half_span_inside : (d : ℕ) → ((t : ℕ) → t < d → k t ≤ tops t) → half_span d tops k < points_to tops d
  half_span_inside zero within = omega (arith, half_span_zero, points_to_zero tops)
  half_span_inside (suc t) within =
      let v : ℕ = 2 ^ k t - 1 in
      let s : ℕ = points_to tops t in
      let less : suc v ≤ across (tops t) = omega (arith, across_is (tops t), pow-suc 2 (tops t), pow_pos (k t), pow_pos (tops t), pow_mono {i = k t} {j = tops t} (within t (omega arith))) in
      omega (
        arith,
        half_span_inside t (λ u lt. within u (omega arith)),
        half_span_suc t,
        points_to_suc tops t,
        mul-le-mul_right {m = suc v} {n = across (tops t)} s less,
        (let e : suc v * s ≡ v * s + s = omega arith in e),
        mul_comm s (across (tops t)),
      )

module _ (tops : ℕ → ℕ) where
  -- The middle point of the whole grid, axis by axis.
  pub centre_zero : centre 0 tops ≡ 0
  unfolding centre
  centre_zero = half_span_zero tops tops

  pub centre_suc : (t : ℕ) → centre (suc t) tops ≡ centre t tops + (2 ^ tops t - 1) * points_to tops t
  unfolding centre
  centre_suc t = half_span_suc tops tops t

  pub centre_inside : (d : ℕ) → centre d tops < points_to tops d
  unfolding centre
  centre_inside d = half_span_inside tops tops d (λ t axis. omega arith)

  half_across : (t : ℕ) → 2 ^ tops t - 1 < across (tops t)
  half_across t = omega (arith, across_is (tops t), pow-suc 2 (tops t), pow_pos (tops t))

  -- The last of the first axes.
  centre_last : (t : ℕ) → place_at tops (centre (suc t) tops) t ≡ 2 ^ tops t
  centre_last t =
      let v : ℕ = 2 ^ tops t - 1 in
      let s : ℕ = points_to tops t in
      let quotient : (centre t tops + v * s) / s ≡ v =
      omega (arith, add-mul-div_right (centre t tops) v (points_to_pos tops t), div-eq_of_lt {n = centre t tops} {m = s} (centre_inside t)) in
      place_is_lem tops (centre (suc t) tops) t
      ∙ ap (λ (x : ℕ). x / s % across (tops t) + 1) (centre_suc t)
      ∙ ap (λ (x : ℕ). x % across (tops t) + 1) quotient
      ∙ ap (λ (x : ℕ). x + 1) (mod-eq_of_lt (half_across t))
      ∙ (let e : v + 1 ≡ 2 ^ tops t = omega (arith, pow_pos (tops t)) in e)

  pub centre_place : (d t : ℕ) → t < d → place_at tops (centre d tops) t ≡ 2 ^ tops t
  centre_place zero t h = absurd (omega arith)
  centre_place (suc d) t h =
      eq_or_not t d
      (λ last. rw last (centre_last d))
      (λ before.
      ap (λ (x : ℕ). place_at tops x t) (centre_suc d)
      ∙ place_below tops t d (centre d tops) (2 ^ tops d - 1) (omega arith)
      ∙ centre_place d t (omega arith))

  pub whole_fits : (d : ℕ) → Fits d tops tops (centre d tops)
  whole_fits d =
      fits_by d tops tops (centre d tops) (centre_inside d) (λ t axis. omega arith) (λ t. 1)
      (λ t axis. omega (arith, centre_place d t axis))

  pub whole_near : (d p : ℕ) → p < points_to tops d → Near d tops tops (centre d tops) p
  whole_near d p h =
      record {
        inside = h;
        low = λ t axis. omega (arith, centre_place d t axis, place_low tops p t);
        high = λ t axis. omega (arith, centre_place d t axis, place_high tops p t, pow-suc 2 (tops t));
      }
