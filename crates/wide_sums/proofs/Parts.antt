-- A coefficient in two parts, times a weight, in 64 bits: the shift is the division by the unit rounded down, the mask what is left, and both products
-- are far below 2^63, since a coefficient is at most 2^47 and a weight at most the unit.
-- Assumes nothing.
use mathlib.Core.Path.{◌≡◌, ap, ap₂, sym, ◌∙◌}
use mathlib.Core.Bool.{true}
use Prim.Native.Nat.{ℕ, suc, ◌+◌, ◌-◌, ◌*◌, ◌/◌, ◌%◌, ◌^◌, ◌≤◌, ◌<◌}
use native.Mathlib.Nat.{mul-le-mul}
use native.Mathlib.Omega.{arith}
use lib.Bits.{bit_and, and_mask}
use lib.IntN.{ℤ, pos, negsuc, nat_abs, ◌+ℤ◌, ◌*ℤ◌}
use lib.Signed.{shr_z, mag_shr}
use mir.Syntax.{w64}
use mir.Val.{SFits, of_z, to_z}
use mir.ValLaws.{to_z-of_z, to_z_pos}
use Rattle.integers.specs.Half.{in_limit}
use Rattle.integers.specs.Floor.{floor, remainder}
use Rattle.integers.proofs.Floors.{shift_floor, remainder_lt}
use Rattle.integers.proofs.Products.{size_times}
use Rattle.integers.proofs.Sizes.{limit_size, sum_size}
use Rattle.surfaces.specs.Weights.{unit}
use Rattle.surfaces.proofs.Unit.{unit_bits, unit_is}

-- Below 2^63, a number is one of 64 bits.
pub fits_below : (z : ℤ) → nat_abs z < 2 ^ 63 → SFits w64 z
fits_below (pos n) h = record { sfits = h }
fits_below (negsuc n) h = record { sfits = omega arith }

-- ---- the high part

floor_limit : (z : ℤ) → in_limit z ≡ true → nat_abs (floor (2 ^ unit_bits) z) ≤ 2 ^ (47 - unit_bits)
unfolding floor
floor_limit (pos n) h = omega (arith, limit_size (pos n) h)
floor_limit (negsuc n) h = omega (arith, limit_size (negsuc n) h)

module _ (z : ℤ) (w : ℕ) (limited : in_limit z ≡ true) (small : w ≤ unit) where
  pub high_size : nat_abs (floor unit z *ℤ pos w) ≤ 2 ^ 47
  high_size =
      omega (
        arith,
        size_times (floor unit z) w,
        mul-le-mul (rw (sym unit_is) at (floor_limit z limited)) small,
        ap (λ (u : ℕ). 2 ^ (47 - unit_bits) * u) unit_is,
      )

  shifted : SFits w64 z → to_z w64 (of_z w64 (shr_z (to_z w64 (of_z w64 z)) (2 ^ unit_bits))) ≡ floor unit z
  shifted fits =
      rw (to_z-of_z w64 z fits, to_z-of_z w64 (shr_z z (2 ^ unit_bits)) (record { sfits = omega (arith, mag_shr z (2 ^ unit_bits), fits.sfits) }))
      (shift_floor (2 ^ unit_bits) z ∙ ap (λ (u : ℕ). floor u z) (sym unit_is))

  pub high_product : SFits w64 z →
      to_z w64 (of_z w64 (shr_z (to_z w64 (of_z w64 z)) (2 ^ unit_bits))) *ℤ to_z w64 w ≡ floor unit z *ℤ pos w
  high_product fits = ap₂ ◌*ℤ◌ (shifted fits) (to_z_pos w64 w (omega (arith, unit_is)))

  pub high_product_fits : SFits w64 (floor unit z *ℤ pos w)
  high_product_fits = fits_below (floor unit z *ℤ pos w) (omega (arith, high_size))

  pub high_sum_fits : (h : ℤ) → nat_abs h ≤ 2 ^ 62 → SFits w64 (h +ℤ floor unit z *ℤ pos w)
  high_sum_fits h low =
      fits_below (h +ℤ floor unit z *ℤ pos w) (omega (arith, sum_size h (floor unit z *ℤ pos w), high_size))

-- ---- the low part

low_bits : (z : ℤ) → SFits w64 z → bit_and (of_z w64 z) (2 ^ unit_bits - 1) ≡ remainder (2 ^ unit_bits) z
unfolding remainder
low_bits (pos n) f = and_mask n unit_bits
low_bits (negsuc n) f =
    let h : n < 2 ^ 63 = f.sfits in
    let e : (2 ^ 64 - suc n) % 2 ^ unit_bits ≡ 2 ^ unit_bits - 1 - n % 2 ^ unit_bits = omega arith in
    and_mask (2 ^ 64 - suc n) unit_bits ∙ e

pub low_value : (z : ℤ) → SFits w64 z → to_z w64 (bit_and (of_z w64 z) (2 ^ unit_bits - 1)) ≡ pos (remainder unit z)
low_value z f =
    ap (to_z w64) (low_bits z f ∙ ap (λ (u : ℕ). remainder u z) (sym unit_is))
    ∙ to_z_pos w64 (remainder unit z) (omega (arith, remainder_lt unit z (omega (arith, unit_is)), unit_is))

pub low_size : (z : ℤ) (w : ℕ) → w ≤ unit → remainder unit z * w ≤ 2 ^ (unit_bits + unit_bits)
low_size z w small =
    omega (
      arith,
      mul-le-mul {n₁ = remainder unit z} {n₂ = 2 ^ unit_bits} (omega (arith, remainder_lt unit z (omega (arith, unit_is)), unit_is)) small,
      ap (λ (u : ℕ). 2 ^ unit_bits * u) unit_is,
    )

-- ---- both

pub low_quotient : (low : ℕ) → low < 2 ^ 63 → to_z w64 (low / 2 ^ unit_bits) ≡ pos (low / unit)
low_quotient low small = to_z_pos w64 (low / 2 ^ unit_bits) (omega arith) ∙ ap (λ (u : ℕ). pos (low / u)) (sym unit_is)

pub divided_fits : (high : ℤ) (low : ℕ) → nat_abs high ≤ 2 ^ 62 + 2 ^ 47 → low < 2 ^ 63 → SFits w64 (high +ℤ pos (low / unit))
divided_fits high low small few =
    fits_below (high +ℤ pos (low / unit))
    (omega (arith, sum_size high (pos (low / unit)), ap (λ (u : ℕ). low / u) unit_is))
