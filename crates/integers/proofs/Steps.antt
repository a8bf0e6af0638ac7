-- Steps of a turn and odd sums. Half of a number up to 2b on either side of zero is up to b, so a step moves a value by at most half the bound of its sum; by
-- zero it stays. What is up to 2^62 is a number of 64 bits. The lowest bit of a number is 1 where it is odd.
-- Assumes nothing.
use mathlib.Core.Path.{◌≡◌, refl, ap, ◌∙◌}
use mathlib.Core.Bool.{Bool, true, false}
use Prim.Native.Nat.{ℕ, suc, ◌+◌, ◌-◌, ◌*◌, ◌%◌, ◌^◌, ◌≤◌, ◌<◌}
use native.Mathlib.Omega.{arith}
use lib.Bits.{bit_and, and_mask}
use lib.Dec.{eqb}
use lib.IntN.{ℤ, pos, negsuc, nat_abs, ◌+ℤ◌, ◌-ℤ◌, +ℤ_idr}
use lib.Signed.{shr_z}
use mir.Syntax.{w64}
use mir.Val.{SFits, to_z, of_z}
use mir.ValLaws.{to_z-of_z}
use Rattle.integers.specs.Half.{half, is_even, odd_of, stepped}
use Rattle.integers.proofs.Sizes.{sum_size, difference_size, half_size, shift_half}

-- ---- sizes

pub below_fits : (z : ℤ) → nat_abs z < 2 ^ 63 → SFits w64 z
below_fits (pos n) h = record { sfits = omega arith }
below_fits (negsuc n) h = record { sfits = omega arith }

pub within_fits : (z : ℤ) → nat_abs z ≤ 2 ^ 62 → SFits w64 z
within_fits z h = below_fits z (omega arith)

pub sum_within : (b : ℕ) (a c : ℤ) → nat_abs a ≤ b → nat_abs c ≤ b → nat_abs (a +ℤ c) ≤ 2 * b
sum_within b a c ha hc = omega (arith, sum_size a c)

pub half_within : (b : ℕ) (s : ℤ) → nat_abs s ≤ 2 * b → nat_abs (half s) ≤ b
unfolding half
half_within b (pos n) h = omega arith
half_within b (negsuc n) h = omega arith

-- ---- steps

pub stepped_forward : (v s : ℤ) → stepped true v s ≡ v -ℤ half s
unfolding stepped
stepped_forward v s = refl

pub stepped_back : (v s : ℤ) → stepped false v s ≡ v +ℤ half s
unfolding stepped
stepped_back v s = refl

pub stepped_within : (ahead : Bool) (b c : ℕ) (v s : ℤ) → nat_abs v ≤ b → nat_abs s ≤ 2 * c → nat_abs (stepped ahead v s) ≤ b + c
unfolding stepped
stepped_within true b c v s hv hs = omega (arith, difference_size v (half s), half_within c s hs)
stepped_within false b c v s hv hs = omega (arith, sum_size v (half s), half_within c s hs)

pub stepped_fits : (ahead : Bool) (v s : ℤ) → nat_abs v ≤ 2 ^ 62 → nat_abs s ≤ 2 ^ 62 → SFits w64 (stepped ahead v s)
stepped_fits ahead v s hv hs =
    below_fits (stepped ahead v s) (omega (arith, stepped_within ahead (2 ^ 62) (2 ^ 61) v s hv (omega arith)))

-- Half of a sum, as the shift by one bit has it.
pub halved : (sum : ℤ) → SFits w64 sum → nat_abs sum ≤ 2 ^ 62 → to_z w64 (of_z w64 (shr_z (to_z w64 (of_z w64 sum)) 2)) ≡ half sum
halved sum fits size =
    ap (λ (z : ℤ). to_z w64 (of_z w64 z)) (ap (λ (z : ℤ). shr_z z 2) (to_z-of_z w64 sum fits) ∙ shift_half sum)
    ∙ to_z-of_z w64 (half sum) (within_fits (half sum) (omega (arith, half_size sum)))

-- A sum of zero moves nothing.
pub stepped_zero : (ahead : Bool) (v : ℤ) → stepped ahead v (pos 0) ≡ v
unfolding stepped half
stepped_zero true v = +ℤ_idr v
stepped_zero false v = +ℤ_idr v

-- ---- odd numbers

pub odd_small : (z : ℤ) → odd_of z ≤ 1
unfolding odd_of
odd_small z = omega arith

pub even_odd : (z : ℤ) → is_even z ≡ eqb (odd_of z) 0
unfolding is_even odd_of
even_odd z = refl

pub odd_zero : odd_of (pos 0) ≡ 0
unfolding odd_of
odd_zero = refl

-- The lowest bit of the 64 that stand for a number, also below zero.
pub lowest_odd : (z : ℤ) → SFits w64 z → bit_and (of_z w64 z) 1 ≡ odd_of z
unfolding odd_of
lowest_odd (pos n) f = and_mask n 1
lowest_odd (negsuc n) f =
    let h : n < 2 ^ 63 = f.sfits in
    let e : (2 ^ 64 - suc n) % 2 ≡ suc n % 2 = omega arith in
    and_mask (2 ^ 64 - suc n) 1 ∙ e
