-- A value of 32 + d bits with sign that 2^d divides is 2^d times a rate: its quotient has 32 bits with sign.
-- Assumes nothing.
use Rattle.std.proofs.Common.{◌≡◌, ℕ, suc, ◌+◌, ◌/◌, ◌%◌, ◌^◌, ◌<◌, true, ℤ, pos, negsuc, nat_abs, refl, arith, pow_pos, le-leb, eq-eqb}
use native.Mathlib.Nat.{div-lt_iff_lt-mul}
use lib.Pow.{pow-add}
use Rattle.integers.specs.Half.{is_rate, Within}
use Rattle.integers.specs.Floor.{floor}
use Rattle.tables.specs.Tables.{quotient, is_scaled}

-- n stands in one of the first 2^31 rows.
row : (d n : ℕ) → n < 2 ^ (31 + d) → n / 2 ^ d < 2147483648
row d n h = (div-lt_iff_lt-mul {k = 2 ^ d} {x = n} {y = 2147483648} (pow_pos d)).1 (omega (arith, pow-add 2 31 d))

pub scaled_within : (d : ℕ) (z : ℤ) → Within (31 + d) z → nat_abs z % 2 ^ d ≡ 0 → is_scaled d z ≡ true
unfolding is_scaled quotient floor is_rate
scaled_within d (pos n) h e = rw (eq-eqb (n % 2 ^ d) 0 e, le-leb (n / 2 ^ d) 2147483647 (omega (arith, row d n h))) refl
scaled_within d (negsuc n) h e = rw (eq-eqb (suc n % 2 ^ d) 0 e, le-leb (suc (n / 2 ^ d)) 2147483648 (omega (arith, row d n h))) refl
