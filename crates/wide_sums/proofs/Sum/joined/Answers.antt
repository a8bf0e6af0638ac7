-- `wide_sums::Sum::joined` meets its contract: whether the sum is below zero is read off its division rounded down; half a unit more, or one less than half,
-- divided and rounded down, is then the nearest.
-- Assumes nothing.
use mathlib.Core.Path.{◌≡◌, ap, sym, ◌∙◌}
use Prim.Native.Nat.{ℕ, ◌/◌}
use native.Mathlib.Nat.{add-zero}
use native.Mathlib.Omega.{arith}
use lib.IntN.{pos, ◌+ℤ◌}
use mir.Syntax.{w64}
use mir.Val.{of_z, to_z}
use mir.ValLaws.{to_z-of_z}
use Rattle.surfaces.specs.Weights.{unit}
use Rattle.surfaces.proofs.Unit.{unit_is}
use Rattle.wide_sums.proofs.Joining.{joined_above, joined_below}
use Rattle.wide_sums.proofs.Sum.joined.Goals.{After-divided}
use Rattle.wide_sums.proofs.Sum.joined.Goals as goal

-- The first division, as it is read again.
down_read : (c : After-divided) → let s = c.args.self in to_z w64 (of_z w64 c.divided.result) ≡ s.high +ℤ pos (s.low / unit)
down_read c =
    to_z-of_z w64 c.divided.result (record { sfits = c.divided.type_inv })
    ∙ c.divided.ensures
    ∙ ap (λ (n : ℕ). c.args.self.high +ℤ pos (n / unit)) (add-zero c.args.self.low)

pub divided-requires-then-divided-lt0 : goal.divided-requires-then-divided-lt0
divided-requires-then-divided-lt0 c = omega (arith, unit_is)

pub divided-requires-else-divided-lt0 : goal.divided-requires-else-divided-lt0
divided-requires-else-divided-lt0 c = omega (arith, unit_is)

pub returns-then-divided-lt0 : goal.returns-then-divided-lt0
returns-then-divided-lt0 c =
    let s = c.args.self in
    to_z-of_z w64 c.divided-then-divided-lt0.result (record { sfits = c.divided-then-divided-lt0.type_inv })
    ∙ c.divided-then-divided-lt0.ensures
    ∙ joined_below s.high s.low (rw (sym (down_read (goal.at.returns-then-divided-lt0 c).After-divided)) c.if-divided-lt0.true)

pub returns-else-divided-lt0 : goal.returns-else-divided-lt0
returns-else-divided-lt0 c =
    let s = c.args.self in
    to_z-of_z w64 c.divided-else-divided-lt0.result (record { sfits = c.divided-else-divided-lt0.type_inv })
    ∙ c.divided-else-divided-lt0.ensures
    ∙ joined_above s.high s.low (rw (sym (down_read (goal.at.returns-else-divided-lt0 c).After-divided)) c.if-divided-lt0.false)
