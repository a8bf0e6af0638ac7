-- The margin by one division by the unit: a half and a quotient are the quotient of the number and half a unit, and of twice as much by twice the unit.
-- Assumes nothing.
use mathlib.Core.Path.{◌≡◌}
use Prim.Native.Nat.{ℕ, ◌+◌, ◌-◌, ◌*◌, ◌^◌}
use native.Mathlib.Omega.{arith}
use Rattle.std.specs.Int.{div_ceil}
use Rattle.surfaces.specs.Weights.{unit}
use Rattle.surfaces.specs.Margin.{margin}
use Rattle.surfaces.proofs.Unit.{unit_bits, unit_is}

-- Of a natural number in place of d − 1 times S.
quotient : (a : ℕ) → div_ceil (a + 2 ^ (unit_bits - 1)) (2 ^ unit_bits) ≡ div_ceil (2 ^ unit_bits + 2 * a) (2 * 2 ^ unit_bits)
quotient a = omega arith

pub divided : (d s : ℕ) → div_ceil ((d - 1) * s + 2 ^ (unit_bits - 1)) (2 ^ unit_bits) ≡ margin unit d s
unfolding margin
divided d s = rw unit_is (quotient ((d - 1) * s))
