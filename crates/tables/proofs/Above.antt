-- How far a value below zero is from −1, and from zero: within 63 bits.
-- Assumes nothing.
use Rattle.std.proofs.Common.{◌≡◌, ℕ, suc, ◌^◌, ◌<◌, ◌≤◌, ℤ, pos, negsuc, ◌-ℤ◌, nat_abs, ap, arith, w64, SFits, le-ltb}

-- How far below −1 a value is.
pub under : ℤ → ℕ
under (pos n) = 0
under (negsuc n) = n

pub under_small : (z : ℤ) → SFits w64 z → under z < 2 ^ 63
unfolding under
under_small (pos n) f = omega arith
under_small (negsuc n) f = f.sfits

pub from_minus_one : (n : ℕ) → negsuc 0 -ℤ negsuc n ≡ pos n
from_minus_one n = rw (le-ltb (suc n) 1 (omega arith)) (ap pos (omega arith))

pub distance_small : (z : ℤ) → SFits w64 z → nat_abs z ≤ 2 ^ 63
distance_small (pos n) f = let h : n < 2 ^ 63 = f.sfits in omega arith
distance_small (negsuc n) f = let h : n < 2 ^ 63 = f.sfits in omega arith
