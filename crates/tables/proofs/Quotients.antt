-- Values times 2^d and divided by 2^d: a rate times 2^d is one of 64 bits, dividing it again gives the rate, and a value is its quotient times 2^d exactly
-- where 2^d divides it. True by the division of the absolute value with remainder.
-- Assumes nothing.
use Rattle.std.proofs.Common.{◌≡◌, ℕ, suc, ◌+◌, ◌*◌, ◌/◌, ◌%◌, ◌^◌, ◌<◌, ◌≤◌, Bool, true, false, ◌&&◌, eqb, ℤ, pos, negsuc, ◌*ℤ◌, neg_ℤ, nat_abs, sym, refl, ap, ◌∙◌, mod-lt, mod-eq_of_lt, suc-mul, mul-le-mul, div-add-mod', zero-mul, arith, pow_pos, pow_mono, w64, SFits, to_z, of_z, eq-eqb, ne_eqb, eqb-true}
use native.Mathlib.Nat.{zero-div, mul-mod_left, mul-add-mod_self_right}
use lib.IntN.{+ℤ_idr}
use lib.Pow.{pow-lt}
use lib.Signed.{shr_z, mag_shr}
use mir.ValLaws.{to_z-of_z, to_z_pos}
use Rattle.naturals.proofs.Cases.{eq_or_not, le_or_lt}
use Rattle.naturals.proofs.Tests.{and_left, and_right}
use Rattle.naturals.proofs.Shifts.{one_shifted}
use Rattle.integers.specs.Half.{is_rate}
use Rattle.integers.specs.Floor.{floor}
use Rattle.integers.proofs.Floors.{shift_floor, floor_unique}
use Rattle.integers.proofs.Products.{size_times}
use Rattle.integers.proofs.Sizes.{small_fits, rate_size}
use Rattle.tables.specs.Tables.{times, quotient, is_scaled}

-- The code's operations: the unit that a one is shifted to, and the shift of a value.
pub unit_shifted : (d : ℕ) → d ≤ 8 → to_z w64 (1 * 2 ^ d % 2 ^ 64) ≡ pos (2 ^ d)
unit_shifted d h = ap (to_z w64) (one_shifted 64 d (omega arith)) ∙ to_z_pos w64 (2 ^ d) (pow-lt {j = 63} (omega arith))

pub shifted_bits : (d : ℕ) (z : ℤ) → SFits w64 z → to_z w64 (of_z w64 (shr_z (to_z w64 (of_z w64 z)) (2 ^ d))) ≡ quotient d z
unfolding quotient
shifted_bits d z fits =
    rw (to_z-of_z w64 z fits, to_z-of_z w64 (shr_z z (2 ^ d)) (record { sfits = omega (arith, mag_shr z (2 ^ d), fits.sfits) }))
    (shift_floor (2 ^ d) z)

-- ---- products

pub times_size : (d : ℕ) (z : ℤ) → nat_abs (times d z) ≡ nat_abs z * 2 ^ d
unfolding times
times_size d z = size_times z (2 ^ d)

pub times_fits : (d : ℕ) (z : ℤ) → d ≤ 8 → is_rate z ≡ true → SFits w64 (times d z)
times_fits d z h rate =
    small_fits (times d z) (omega (arith, times_size d z, mul-le-mul (rate_size z rate) (pow_mono {j = 8} h)))

-- ---- quotients

neg_pos : (n k : ℕ) → n ≡ suc k → neg_ℤ (pos n) ≡ negsuc k
neg_pos n k e = rw e

pub quotient_times : (d : ℕ) (z : ℤ) → quotient d (times d z) ≡ z
unfolding times quotient
quotient_times d z = ap (floor (2 ^ d)) (sym (+ℤ_idr (z *ℤ pos (2 ^ d)))) ∙ floor_unique (2 ^ d) z 0 (pow_pos d)

-- The last of m places in a row is the one after which the next row begins.
row_ends : (n m : ℕ) → 0 < m → suc n % m ≡ 0 → suc (n / m) * m ≡ suc n
row_ends n m low e =
    let r : ℕ = suc (n % m) in
    let row : suc n ≡ n / m * m + r = omega (arith, div-add-mod' n m) in
    let over : r % m ≡ 0 = sym (ap (λ (x : ℕ). x % m) row ∙ mul-add-mod_self_right (n / m) m r) ∙ e in
    le_or_lt m r
    (λ full. omega (arith, mod-lt n low, suc-mul (n / m) m))
    (λ less. absurd (omega (arith, mod-eq_of_lt less)))

pub times_quotient : (d : ℕ) (z : ℤ) → nat_abs z % 2 ^ d ≡ 0 → times d (quotient d z) ≡ z
unfolding times quotient floor
times_quotient d (pos n) e = ap pos (omega (arith, div-add-mod' n (2 ^ d)))
times_quotient d (negsuc n) e = neg_pos (suc (n / 2 ^ d) * 2 ^ d) n (row_ends n (2 ^ d) (pow_pos d) e)

pub times_divisible : (d : ℕ) (z : ℤ) → nat_abs (times d z) % 2 ^ d ≡ 0
times_divisible d z = ap (λ (x : ℕ). x % 2 ^ d) (times_size d z) ∙ mul-mod_left (nat_abs z) (2 ^ d)

-- Nothing stays nothing.
pub times_zero : (d : ℕ) → times d (pos 0) ≡ pos 0
unfolding times
times_zero d = ap pos (zero-mul (2 ^ d))

pub quotient_zero : (d : ℕ) → quotient d (pos 0) ≡ pos 0
unfolding quotient floor
quotient_zero d = ap pos (zero-div (2 ^ d))

-- ---- the test of a value

same_bits : (a b : ℤ) → SFits w64 a → SFits w64 b → of_z w64 a ≡ of_z w64 b → a ≡ b
same_bits a b fa fb e = sym (to_z-of_z w64 a fa) ∙ ap (to_z w64) e ∙ to_z-of_z w64 b fb

module _ (d : ℕ) (z : ℤ) where
  pub not_scaled : is_rate (quotient d z) ≡ false → is_scaled d z ≡ false
  unfolding is_scaled
  not_scaled e = rw e (neither (eqb (nat_abs z % 2 ^ d) 0))
    where
      neither : (a : Bool) → a && false ≡ false
      neither true = refl
      neither false = refl

  pub scaled_test : d ≤ 8 → SFits w64 z → is_rate (quotient d z) ≡ true →
      eqb (of_z w64 (times d (quotient d z))) (of_z w64 z) ≡ is_scaled d z
  unfolding is_scaled
  scaled_test h fits rate =
      let q : ℤ = times d (quotient d z) in
      eq_or_not (nat_abs z % 2 ^ d) 0
      (λ e. rw (rate, eq-eqb (nat_abs z % 2 ^ d) 0 e) (eq-eqb (of_z w64 q) (of_z w64 z) (ap (of_z w64) (times_quotient d z e))))
      (λ ne.
      rw (rate, ne_eqb (nat_abs z % 2 ^ d) 0 ne)
      (ne_eqb (of_z w64 q) (of_z w64 z)
      (λ same.
      ne (ap (λ (x : ℤ). nat_abs x % 2 ^ d) (sym (same_bits q z (times_fits d (quotient d z) h rate) fits same)) ∙ times_divisible d (quotient d z)))))

  -- What a passed test tells, and a rate times 2^d passes.
  pub scaled_parts : is_scaled d z ≡ true → (nat_abs z % 2 ^ d ≡ 0) × (is_rate (quotient d z) ≡ true)
  unfolding is_scaled
  scaled_parts e =
      let divides = eqb (nat_abs z % 2 ^ d) 0 in
      (eqb-true (nat_abs z % 2 ^ d) 0 (and_left divides (is_rate (quotient d z)) e), and_right divides (is_rate (quotient d z)) e)

  pub is_scaled_rate : is_rate z ≡ true → is_scaled d (times d z) ≡ true
  unfolding is_scaled
  is_scaled_rate rate = rw (times_divisible d z, quotient_times d z, rate)
