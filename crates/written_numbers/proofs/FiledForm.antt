-- The filed form of a rate as the code forms it, in 64 bits: twice a rate of either sign fits, and so does one less.
-- Assumes nothing.
use mathlib.Core.Path.{◌≡◌, refl, ap}
use mathlib.Core.Bool.{true, false}
use Prim.Native.Nat.{ℕ, suc, ◌≤◌}
use native.Mathlib.Omega.{arith}
use lib.IntN.{ℤ, pos, negsuc, ◌*ℤ◌, ◌-ℤ◌}
use lib.Signed.{lt_z}
use mir.Syntax.{w64, w32}
use mir.Val.{SFits, Fits}
use borrow.Author.Tests.{ltb-true, le-ltb}
use Rattle.integers.specs.Half.{is_rate}
use Rattle.house_numbers.specs.Numbers.{largest, filed}
use Rattle.house_file.proofs.Undone.{filed_small}

module _ (z : ℤ) (rate : is_rate z ≡ true) where
  small : filed z ≤ 4294967295
  unfolding largest
  small = filed_small z rate

  pub filed_fits : Fits w32 (filed z)
  filed_fits = record { fits = omega (arith, small) }

  pub twice_fits : SFits w64 (pos (filed z))
  twice_fits = record { sfits = omega (arith, small) }

  pub more_fits : SFits w64 (pos (suc (filed z)))
  more_fits = record { sfits = omega (arith, small) }

-- Below zero, and from zero on.
pub twice_below : (z : ℤ) → lt_z z (pos 0) ≡ true → negsuc 1 *ℤ z ≡ pos (suc (filed z))
unfolding filed
twice_below (pos n) e = absurd (omega (arith, ltb-true n 0 e))
twice_below (negsuc n) e = ap pos (omega arith)

pub twice_above : (z : ℤ) → lt_z z (pos 0) ≡ false → pos 2 *ℤ z ≡ pos (filed z)
unfolding filed
twice_above (pos n) e = refl
twice_above (negsuc n) e = cc

pub one_less : (n : ℕ) → pos (suc n) -ℤ pos 1 ≡ pos n
one_less n = rw (le-ltb (suc n) 1 (omega arith)) (ap pos (omega arith))
