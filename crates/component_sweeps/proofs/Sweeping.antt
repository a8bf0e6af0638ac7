-- The turn of a whole box: the numbers that the code makes are those of the turned axis, and the rows from the box's first position on, with no axis left whose
-- place would be given, are all its points.
-- Assumes nothing.
use mathlib.Core.List.{List}
use mathlib.Core.Path.{◌≡◌, ap, sym, ◌∙◌}
use Prim.Native.Nat.{ℕ, suc, ◌+◌, ◌-◌, ◌*◌, ◌/◌, ◌%◌, ◌^◌, ◌≤◌, ◌<◌}
use native.Mathlib.Nat.{pow-suc}
use native.Mathlib.Omega.{arith}
use lib.Count.{count_trailing_zeros}
use lib.IntN.{ℤ}
use lib.Pow.{pow_pos, pow_mono}
use Rattle.std.proofs.Math.Bridge.{le_prop}
use Rattle.std.proofs.Math.Logic.{∥∥₁_elim}
use Rattle.naturals.proofs.Cases.{le_or_lt}
use Rattle.naturals.proofs.Shifts.{one_shifted}
use Rattle.numbering.specs.Point.{at}
use Rattle.numbering.specs.Parent.{twos}
use Rattle.numbering.proofs.Twos.{twos_are}
use Rattle.component_grids.specs.Component.{across, points_to, place_at}
use Rattle.component_grids.proofs.Places.{across_is, points_to_pos, place_is_lem, place_high}
use Rattle.component_grids.proofs.Beside.{reach_le}
use Rattle.component_sweeps.specs.declared.grid.GridBox.{GridBox}
use Rattle.component_sweeps.specs.declared.axis.Sweep.{Sweep}
use Rattle.component_sweeps.specs.Steps.{tops_of, turn_of, InBox, Asked, Turned, Row, Corner}
use Rattle.component_sweeps.specs.SweepSteps.{turn, Rows}
use Rattle.component_sweeps.proofs.Apart.{turned_same, limited_part}

-- The numbers of the turned axis.
module _ (box : GridBox) (axis : ℕ) (on : axis < box.grid.now.axes) where
  abbrev top : ℕ
  top = tops_of box.grid.now axis

  pub top_power : 2 ^ top ≤ 256
  top_power = pow_mono {i = top} {j = 8} (box.grid.now.low axis)

  pub stride_some : 0 < at box.grid.now.strides axis
  stride_some = omega (arith, box.grid.now.laid axis on, points_to_pos (tops_of box.grid.now) axis)

  -- Two shifted by the top level, and one by the box's level.
  pub end_shifted : 2 * 2 ^ top % 2 ^ 64 ≡ 2 ^ suc top
  end_shifted = omega (arith, top_power, pow-suc 2 top)

  pub half_shifted : 1 * 2 ^ at box.levels axis % 2 ^ 64 ≡ 2 ^ at box.levels axis
  half_shifted = one_shifted 64 (at box.levels axis) (omega (arith, box.fits.within axis on, box.grid.now.low axis))

  module _ (end : ℕ) (end_is : end ≡ 2 ^ suc top) where
    abbrev place : ℕ
    place = box.centre / at box.grid.now.strides axis % (end - 1) + 1

    pub place_of : place ≡ place_at (tops_of box.grid.now) box.centre axis
    place_of =
        let wide : end - 1 ≡ across top = omega (arith, across_is top) in
        ap (λ (y : ℕ). box.centre / y % (end - 1) + 1) (box.grid.now.laid axis on)
        ∙ ap (λ (y : ℕ). box.centre / points_to (tops_of box.grid.now) axis % y + 1) wide
        ∙ sym (place_is_lem (tops_of box.grid.now) box.centre axis)

    pub place_fits : (1 ≤ place) × (place < 512)
    place_fits = (
      omega arith,
      omega (arith, place_of, place_high (tops_of box.grid.now) box.centre axis, pow-suc 2 top, top_power),
    )

    -- The trailing zeros are the factors of two of the place, fewer than the width has bits.
    pub reach_shifted : 1 * 2 ^ count_trailing_zeros 64 place % 2 ^ 64 ≡ 2 ^ twos place
    reach_shifted =
        let zeros : count_trailing_zeros 64 place ≡ twos place = twos_are 64 place place_fits.0 (omega (arith, place_fits.1)) in
        let few : twos place < 9 =
        le_or_lt 9 (twos place)
        (λ le. absurd (omega (arith, pow_mono {i = 9} {j = twos place} le, reach_le place place_fits.0, place_fits.1)))
        (λ lt. lt) in
        one_shifted 64 (count_trailing_zeros 64 place) (omega (arith, zeros, few)) ∙ ap (λ (n : ℕ). 2 ^ n) zeros

module _ (box : GridBox) (axis q : ℕ) (on : axis < box.grid.now.axes) where
  pub swept : (xs ys : List ℤ) → Turned (turn_of box axis) (Row (turn_of box axis) box.grid.now.axes q) xs ys →
      Turned (turn_of box axis) (InBox (turn_of box axis)) xs ys
  swept xs ys s =
      turned_same box.grid.now.axes (tops_of box.grid.now) axis (λ p row. row.near)
      (λ p near. record { near = near; same = λ u past lt ne. absurd (omega arith) })
      s

-- All rows.
pub rows_of : (w : Sweep) (q : ℕ) (xs : List ℤ) → Corner w.on.of q → Asked (turn w) (InBox (turn w)) xs → Rows w w.on.of.grid.now.axes q xs
rows_of w q xs corner asked =
    record {
      from =
          record {
            first =
                record {
                  near =
                      record {
                        inside = corner.inside;
                        low = λ u lt. omega (arith, corner.lowest u lt);
                        high = λ u lt. omega (arith, corner.lowest u lt, pow_pos (at w.on.of.levels u));
                      };
                  below = λ u less lt. corner.lowest u lt;
                  own = corner.lowest w.on.axis w.on.inside;
                };
            asked = limited_part w.on.of.grid.now.axes (tops_of w.on.of.grid.now) w.on.axis (λ p row. row.near) asked;
          };
      least = ∥∥₁_elim w.covers le_prop (λ covers. covers.few);
      most = omega arith;
    }
