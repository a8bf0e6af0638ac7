-- What stays within the widths: the counts of points of up to 8 axes and level sums up to 8, and digits of up to 8 bits.
-- True since the largest count of points is below 2^32.
-- Assumes nothing.
use mathlib.Core.Path.{◌≡◌, sym, ◌∙◌}
use Prim.Native.Nat.{ℕ, suc, ◌*◌, ◌%◌, ◌^◌, ◌≤◌, ◌<◌}
use native.Mathlib.Nat.{mul_comm, mod-eq_of_lt, mod-lt}
use native.Mathlib.Omega.{arith}
use lib.Pow.{pow_pos, pow_mono}
use Rattle.numbering.specs.Count.{vectors, shell}
use Rattle.numbering.proofs.Numbering.{shell_is, start_suc}
use Rattle.shapes.proofs.Totals.{start_small}

module _ (d j : ℕ) (low : 1 ≤ d) (high : d ≤ 8) (short : j ≤ 8) where
  shell_small : shell d j < 4294967296
  shell_small =
      omega (arith, shell_is d j, start_suc d j, start_small d low high (suc j) (omega arith))

  -- A count of level vectors, shifted, is that of their points.
  pub shell_shifted : vectors d j * 2 ^ j % 2 ^ 64 ≡ shell d j
  shell_shifted =
      let is : vectors d j * 2 ^ j ≡ shell d j = mul_comm (vectors d j) (2 ^ j) ∙ sym (shell_is d j) in
      rw is (mod-eq_of_lt (omega (arith, shell_small)))

-- A digit of up to 8 bits is below 256.
pub digit_small : (x b : ℕ) → b ≤ 8 → x % 2 ^ b < 256
digit_small x b h = omega (arith, mod-lt x (pow_pos b), pow_mono {i = b} {j = 8} h)
