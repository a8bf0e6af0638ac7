-- Twice a power of two of a small level in 64 bits: the shift loses nothing.
-- Assumes nothing.
use mathlib.Core.Path.{◌≡◌, sym, ◌∙◌}
use Prim.Native.Nat.{ℕ, suc, ◌*◌, ◌%◌, ◌^◌, ◌≤◌}
use native.Mathlib.Nat.{pow-succ'}
use native.Mathlib.Omega.{arith}
use lib.Dec.{lit<}
use lib.Pow.{shl_exact}

pub shifted_two : (n : ℕ) → n ≤ 8 → 2 * 2 ^ n % 2 ^ 64 ≡ 2 ^ suc n
shifted_two n le = shl_exact {a = 2} 2 n 64 (lit< tt) (omega arith) ∙ sym (pow-succ' 2 n)
