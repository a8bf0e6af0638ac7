-- The range tests of the code: the comparisons of a value with the two ends of a range are those of the definitions.
-- Assumes nothing.
use Rattle.std.proofs.Common.{◌≡◌, suc, true, ◌&&◌, ℤ, pos, negsuc, arith, le-leb}
use Rattle.std.specs.Ordering.{int_cmp, is_le}
use Rattle.std.proofs.lemmas.Int.{ints}
use Rattle.integers.specs.Half.{limit, in_limit, is_rate, Within}

-- From `-LIMIT` to `LIMIT`.
pub limit_range : (z : ℤ) → is_le (int_cmp (negsuc 140737488355327) z) && is_le (int_cmp z (pos 140737488355328)) ≡ in_limit z
unfolding in_limit
limit_range (pos n) = grind (arith, ints)
limit_range (negsuc n) = grind (arith, ints)

-- From `SMALLEST` to `LARGEST`.
pub rate_range : (z : ℤ) → is_le (int_cmp (negsuc 2147483647) z) && is_le (int_cmp z (pos 2147483647)) ≡ is_rate z
unfolding is_rate
rate_range z = grind (arith, ints)

-- A signed number of 48 bits is within the limit, and one of 32 bits is a rate.
pub within_limit : (z : ℤ) → Within 47 z → in_limit z ≡ true
unfolding in_limit
within_limit (pos n) h = le-leb n limit (omega arith)
within_limit (negsuc n) h = le-leb (suc n) limit (omega arith)

pub within_rates : (z : ℤ) → Within 31 z → is_rate z ≡ true
unfolding is_rate
within_rates (pos n) h = le-leb n 2147483647 (omega arith)
within_rates (negsuc n) h = le-leb (suc n) 2147483648 (omega arith)
