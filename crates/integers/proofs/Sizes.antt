-- Values within the content limit leave room in 64 bits for their sums, and halves are no larger.
-- Assumes nothing.
use mathlib.Core.Path.{◌≡◌, refl}
use mathlib.Core.Bool.{true}
use Prim.Native.Nat.{ℕ, suc, ◌+◌, ◌-◌, ◌^◌, ◌≤◌}
use native.Mathlib.Omega.{arith}
use Rattle.std.proofs.lemmas.Int.{ints}
use lib.IntN.{ℤ, pos, negsuc, nat_abs, ◌+ℤ◌, ◌-ℤ◌}
use lib.Signed.{shr_z}
use mir.Syntax.{w64}
use mir.Val.{SFits}
use borrow.Author.Tests.{leb-true}
use Rattle.integers.specs.Half.{half, limit, in_limit, is_rate}

pub limit_size : (z : ℤ) → in_limit z ≡ true → nat_abs z ≤ 2 ^ 47
unfolding in_limit
limit_size z e = leb-true (nat_abs z) limit e

-- Up to 2^50, a number is one of 64 bits.
pub small_fits : (z : ℤ) → nat_abs z ≤ 2 ^ 50 → SFits w64 z
small_fits (pos n) h = record { sfits = omega arith }
small_fits (negsuc n) h = record { sfits = omega arith }

pub sum_size : (a b : ℤ) → nat_abs (a +ℤ b) ≤ nat_abs a + nat_abs b
sum_size a b = omega (arith, ints)

pub difference_size : (a b : ℤ) → nat_abs (a -ℤ b) ≤ nat_abs a + nat_abs b
difference_size a b = omega (arith, ints)

-- How far apart two natural numbers are.
pub difference : (a b : ℕ) → nat_abs (pos a -ℤ pos b) ≡ (a - b) + (b - a)
difference a b = omega (arith, ints)

pub half_size : (z : ℤ) → nat_abs (half z) ≤ nat_abs z
unfolding half
half_size (pos n) = omega arith
half_size (negsuc n) = omega arith

pub shift_half : (z : ℤ) → shr_z z 2 ≡ half z
unfolding half
shift_half (pos n) = refl
shift_half (negsuc n) = refl

-- A rate is small.
pub rate_size : (z : ℤ) → is_rate z ≡ true → nat_abs z ≤ 2147483648
unfolding is_rate
rate_size (pos n) e = omega (arith, leb-true n 2147483647 e)
rate_size (negsuc n) e = leb-true (suc n) 2147483648 e

-- ---- what the functions on numbers ask and give

module _ (a b : ℤ) (ha : in_limit a ≡ true) (hb : in_limit b ≡ true) where
  pub sum_small : nat_abs (a +ℤ b) ≤ 2 ^ 48
  sum_small = omega (arith, sum_size a b, limit_size a ha, limit_size b hb)

  pub sum_fits : SFits w64 (a +ℤ b)
  sum_fits = small_fits (a +ℤ b) (omega (arith, sum_small))

  -- So does half the sum, and a third value less it.
  pub half_fits : SFits w64 (half (a +ℤ b))
  half_fits = small_fits (half (a +ℤ b)) (omega (arith, half_size (a +ℤ b), sum_small))

  pub less_fits : (v : ℤ) → in_limit v ≡ true → SFits w64 (v -ℤ half (a +ℤ b))
  less_fits v hv =
      small_fits (v -ℤ half (a +ℤ b))
      (omega (arith, difference_size v (half (a +ℤ b)), half_size (a +ℤ b), sum_small, limit_size v hv))
