-- The counts of points stay below 2^32: the largest of each number of axes does, by one test that antt computes, and they grow with the level sum.
-- Assumes nothing.
use mathlib.Core.Path.{◌≡◌, refl}
use mathlib.Core.Bool.{Bool, true}
use Prim.Native.Nat.{ℕ, suc, ◌+◌, ◌-◌, ◌^◌, ◌≤◌, ◌<◌}
use native.Mathlib.Nat.{mul_comm, mul-le-mul_left}
use native.Mathlib.Omega.{arith}
use lib.Dec.{ltb}
use lib.Pow.{pow_pos}
use borrow.Author.Tests.{ltb-true}
use Rattle.naturals.specs.Sum.{sum_to}
use Rattle.naturals.specs.Test.{all}
use Rattle.naturals.proofs.Sums.{sum_to_zero, sum_to_suc, sum_to_mono, term_le}
use Rattle.naturals.proofs.Tests.{all_at}
use Rattle.numbering.specs.Binomial.{choose}
use Rattle.numbering.specs.Count.{vectors, shell, start}

pub start_zero : (d : ℕ) → start d 0 ≡ 0
unfolding start
start_zero d = sum_to_zero (shell d)

pub start_suc : (d j : ℕ) → start d (suc j) ≡ start d j + shell d j
unfolding start
start_suc d j = sum_to_suc (shell d) j

-- the largest total of each number of axes is below 2^32
small : ℕ → Bool
small k = ltb (start (suc k) 9) 4294967296

all_small : all small 8 ≡ true
unfolding all small start shell vectors sum_to choose
all_small = refl

module _ (d : ℕ) (low : 1 ≤ d) (high : d ≤ 8) where
  largest_small : start d 9 < 4294967296
  unfolding small
  largest_small =
      let axes : suc (d - 1) ≡ d = omega arith in
      rw axes at (ltb-true (start (suc (d - 1)) 9) 4294967296 (all_at small 8 all_small (d - 1) (omega arith)))

  pub start_small : (s : ℕ) → s ≤ 9 → start d s < 4294967296
  unfolding start
  start_small s le = omega (arith, largest_small, sum_to_mono (shell d) s 9 le)

  pub vectors_small : (j : ℕ) → j ≤ 8 → vectors d j < 4294967296
  unfolding start shell
  vectors_small j le =
      let one : vectors d j ≤ shell d j = omega (arith, mul-le-mul_left (vectors d j) (pow_pos j), mul_comm (2 ^ j) (vectors d j)) in
      omega (arith, one, largest_small, term_le (shell d) 9 j (omega arith))
