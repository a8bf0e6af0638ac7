-- The last division of an estimate. With half a unit more, or one less than half where the sum is below zero, the division rounded down is the nearest: it
-- goes up by one just where `step_up` does. The sum is below zero where its division rounded down is.
-- Assumes nothing.
use mathlib.Core.Path.{◌≡◌, ap, sym, ◌∙◌}
use mathlib.Core.Bool.{true, false, true≢false}
use Prim.Native.Nat.{ℕ, ◌+◌, ◌-◌, ◌*◌, ◌/◌, ◌%◌, ◌^◌}
use native.Mathlib.Nat.{mod-lt}
use native.Mathlib.Omega.{arith}
use lib.IntN.{ℤ, pos, negsuc, ◌+ℤ◌, ◌*ℤ◌, +ℤ_assoc}
use lib.Signed.{lt_z}
use borrow.Author.Tests.{ltb-true, le-leb, lt-leb, lt-ltb, le-ltb}
use Rattle.naturals.proofs.Cases.{le_or_lt}
use Rattle.integers.specs.Nearest.{step_up}
use Rattle.integers.proofs.Floors.{carried}
use Rattle.integers.proofs.Nearest.{nearest_steps}
use Rattle.surfaces.specs.Weights.{unit}
use Rattle.surfaces.specs.Surface.{rounded}
use Rattle.surfaces.proofs.Unit.{unit_bits, unit_is, unit_pos}

-- Half of the unit, and twice that.
abbrev half_unit : ℕ
half_unit = 2 ^ (unit_bits - 1)

abbrev twice : ℕ
twice = 2 ^ unit_bits

-- Half a unit more steps up as a quotient from zero on does; one less, as one below zero.
bits_above : (q : ℤ) (low : ℕ) → lt_z q (pos 0) ≡ false → low / twice + step_up twice q (low % twice) ≡ (low + half_unit) / twice
unfolding step_up
bits_above (pos k) low above =
    let r : ℕ = low % twice in
    le_or_lt twice (2 * r)
    (λ le. rw (le-leb twice (2 * r) le) (omega arith))
    (λ lt. rw (lt-leb twice (2 * r) lt) (omega arith))
bits_above (negsuc k) low above = absurd (true≢false above)

bits_below : (q : ℤ) (low : ℕ) → lt_z q (pos 0) ≡ true → low / twice + step_up twice q (low % twice) ≡ (low + (half_unit - 1)) / twice
unfolding step_up
bits_below (pos k) low below = absurd (omega (arith, ltb-true k 0 below))
bits_below (negsuc k) low below =
    let r : ℕ = low % twice in
    le_or_lt (2 * r) twice
    (λ le. rw (le-ltb twice (2 * r) le) (omega arith))
    (λ lt. rw (lt-ltb twice (2 * r) lt) (omega arith))

step_above : (q : ℤ) (low : ℕ) → lt_z q (pos 0) ≡ false → low / unit + step_up unit q (low % unit) ≡ (low + half_unit) / unit
step_above q low above = rw unit_is (bits_above q low above)

step_below : (q : ℤ) (low : ℕ) → lt_z q (pos 0) ≡ true → low / unit + step_up unit q (low % unit) ≡ (low + (half_unit - 1)) / unit
step_below q low below = rw unit_is (bits_below q low below)

module _ (high : ℤ) (low : ℕ) where
  -- The nearest is one step or none above the division rounded down.
  rounded_steps : (sum : ℕ) → low / unit + step_up unit (high +ℤ pos (low / unit)) (low % unit) ≡ sum →
      high +ℤ pos sum ≡ rounded unit (high *ℤ pos unit +ℤ pos low)
  unfolding rounded
  rounded_steps sum steps =
      let q : ℤ = high +ℤ pos (low / unit) in
      ap (λ (k : ℕ). high +ℤ pos k) (sym steps)
      ∙ sym (+ℤ_assoc high (pos (low / unit)) (pos (step_up unit q (low % unit))))
      ∙ sym (nearest_steps unit unit_pos q (low % unit) (mod-lt low unit_pos))
      ∙ sym (ap (rounded unit) (carried unit high low))

  pub joined_above : lt_z (high +ℤ pos (low / unit)) (pos 0) ≡ false →
      high +ℤ pos ((low + half_unit) / unit) ≡ rounded unit (high *ℤ pos unit +ℤ pos low)
  joined_above above = rounded_steps ((low + half_unit) / unit) (step_above (high +ℤ pos (low / unit)) low above)

  pub joined_below : lt_z (high +ℤ pos (low / unit)) (pos 0) ≡ true →
      high +ℤ pos ((low + (half_unit - 1)) / unit) ≡ rounded unit (high *ℤ pos unit +ℤ pos low)
  joined_below below = rounded_steps ((low + (half_unit - 1)) / unit) (step_below (high +ℤ pos (low / unit)) low below)
