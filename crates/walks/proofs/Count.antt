-- How many level lists a forward turn meets: as many as there are of the sums up to the top level n, which for d axes is C(d + n, n).
-- True since of each sum it meets as many as there are; their running sum over the sums is the count for one axis more (Pascal's rule).
-- Assumes nothing.
use mathlib.Core.Path.{◌≡◌, refl, ap}
use Prim.Native.Nat.{ℕ, zero, suc, ◌+◌}
use native.Mathlib.Omega.{arith}
use lib.ListN.{length, length-append}
use Rattle.naturals.specs.Sum.{sum_to}
use Rattle.naturals.proofs.Sums.{sum_to_zero, sum_to_suc}
use Rattle.numbering.specs.Binomial.{choose}
use Rattle.numbering.specs.Count.{vectors}
use Rattle.numbering.proofs.Vectors.{vectors_zero, pascal}
use Rattle.walks.specs.Walks.{falling, falling_sums, walk_down}

length_falling : (d s r : ℕ) → length (falling d s r) ≡ r
unfolding falling
length_falling d s zero = refl
length_falling d s (suc r) = ap suc (length_falling d s r)

length_falling_sums : (d s : ℕ) → length (falling_sums d s) ≡ sum_to (vectors d) s
unfolding falling_sums
length_falling_sums d zero = omega (arith, sum_to_zero (vectors d))
length_falling_sums d (suc s) =
    omega (
      arith,
      length-append (falling d s (vectors d s)) (falling_sums d s),
      length_falling d s (vectors d s),
      length_falling_sums d s,
      sum_to_suc (vectors d) s,
    )

pub walk_length_down : (d n : ℕ) → length (walk_down d n) ≡ sum_to (vectors d) (suc n)
unfolding walk_down
walk_length_down d n = length_falling_sums d (suc n)

-- The counts of the sums up to n add up to the count of the sum n for one axis more.
counts_add_up : (d n : ℕ) → sum_to (vectors d) (suc n) ≡ vectors (suc d) n
counts_add_up d zero = omega (arith, sum_to_suc (vectors d) 0, sum_to_zero (vectors d), vectors_zero d, vectors_zero (suc d))
counts_add_up d (suc n) = omega (arith, sum_to_suc (vectors d) (suc n), counts_add_up d n, pascal d n)

pub level_lists : (d n : ℕ) → sum_to (vectors d) (suc n) ≡ choose (d + n) n
unfolding vectors
level_lists d n = counts_add_up d n
