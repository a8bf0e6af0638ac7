-- `house_numbers::rate_of` meets its contract: the lowest bit says whether the number is even, and half of it is the rate or the rate's complement.
-- Assumes nothing.
use mathlib.Core.Path.{◌≡◌, sym, ap, ◌∙◌}
use Prim.Native.Nat.{◌/◌}
use native.Mathlib.Omega.{arith}
use lib.Bits.{and_mask}
use lib.IntN.{ℤ, pos, negsuc, ◌-ℤ◌}
use mir.Syntax.{w64}
use mir.Val.{to_z, of_z}
use mir.ValLaws.{to_z-of_z}
use Rattle.std.proofs.Math.Facts.{to_z_pos}
use Rattle.house_numbers.proofs.Filing.{rate_even, rate_odd, one_below}
use Rattle.house_numbers.proofs.rate_of.Goals.{After-from-filed}
use Rattle.house_numbers.proofs.rate_of.Goals as goal

-- half the number, as the code has it
half : (c : After-from-filed) → to_z w64 (c.from-filed.result / 2) ≡ pos (c.args.filed / 2)
half c = rw c.from-filed.ensures (to_z_pos w64 (omega arith))

-- what an odd number gives
below : (c : After-from-filed) → negsuc 0 -ℤ to_z w64 (c.from-filed.result / 2) ≡ negsuc (c.args.filed / 2)
below c = ap (λ (z : ℤ). negsuc 0 -ℤ z) (half c) ∙ one_below (c.args.filed / 2)

pub returns-then-filed-eq0 : goal.returns-then-filed-eq0
returns-then-filed-eq0 c =
    let u = c.args.filed in
    half (goal.at.returns-then-filed-eq0 c).After-from-filed
    ∙ sym (rate_even u (sym (and_mask u 1) ∙ rw c.from-filed.ensures at c.if-filed-eq0.true))

pub returns : goal.returns
returns c =
    let u = c.args.filed in
    ap (λ (z : ℤ). to_z w64 (of_z w64 z)) (below (goal.at.returns c).After-from-filed) ∙ to_z-of_z w64 (negsuc (u / 2)) (record { sfits = omega arith })
    ∙ sym (rate_odd u (λ e. c.if-filed-eq0.false (rw c.from-filed.ensures (and_mask u 1 ∙ e))))
