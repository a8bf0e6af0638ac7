-- `wide_sums::Sum::divided` meets its contract: the shift is the division by the unit, and the sum fits 64 bits.
-- Assumes nothing.
use Prim.Native.Nat.{◌+◌, ◌/◌}
use native.Mathlib.Omega.{arith}
use lib.IntN.{pos, ◌+ℤ◌}
use mir.Syntax.{w64}
use mir.ValLaws.{to_z-of_z}
use Rattle.surfaces.specs.Weights.{unit}
use Rattle.surfaces.proofs.Unit.{unit_is}
use Rattle.wide_sums.proofs.Parts.{fits_below, low_quotient, divided_fits}
use Rattle.wide_sums.proofs.Sum.divided.Goals as goal

pub overflow_add-result : goal.overflow_add-result
overflow_add-result c = record { fits = omega (arith, c.args.self.low_room, unit_is) }

pub returns : goal.returns
returns c =
    let s = c.args.self in
    let few = s.low + c.args.more in
    rw (to_z-of_z w64 s.high (fits_below s.high (omega (arith, s.high_room))), low_quotient few (omega (arith, s.low_room, unit_is)))
    (to_z-of_z w64 (s.high +ℤ pos (few / unit)) (divided_fits s.high few s.high_room (omega (arith, s.low_room, unit_is))))
