-- Halves: half of a doubled number is the number, and a doubled number is even.
-- Assumes nothing.
use mathlib.Core.Path.{◌≡◌, ap}
use mathlib.Core.Bool.{true}
use Prim.Native.Nat.{suc, ◌+◌, ◌%◌}
use native.Mathlib.Omega.{arith}
use lib.IntN.{ℤ, pos, negsuc, ◌+ℤ◌}
use borrow.Author.Tests.{eq-eqb}
use Rattle.integers.specs.Half.{half, is_even}

pub half_double : (z : ℤ) → half (z +ℤ z) ≡ z
unfolding half
half_double (pos n) = ap pos (omega arith)
half_double (negsuc n) = ap negsuc (omega arith)

pub even_double : (z : ℤ) → is_even (z +ℤ z) ≡ true
unfolding is_even
even_double (pos n) = eq-eqb ((n + n) % 2) 0 (omega arith)
even_double (negsuc n) = eq-eqb (suc (suc (n + n)) % 2) 0 (omega arith)
