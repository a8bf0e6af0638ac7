-- The rank of a level vector among those of its level sum: how it is read off two counts for each axis, and that it is below their count.
-- True since row k + 1 of the counts is the running sum of row k (Pascal's rule).
-- Assumes nothing.
use mathlib.Core.Path.{◌≡◌, refl, ap}
use Prim.Native.Nat.{ℕ, zero, suc, ◌+◌, ◌-◌, ◌≤◌, ◌<◌}
use native.Mathlib.Nat.{sub-zero}
use native.Mathlib.Omega.{arith}
use Rattle.naturals.specs.Sum.{sum_to}
use Rattle.naturals.proofs.Sums.{sum_to_zero, sum_to_suc, sum_to_cong}
use Rattle.numbering.specs.Count.{vectors}
use Rattle.numbering.specs.Number.{ending, rank}
use Rattle.numbering.proofs.Vectors.{pascal, vectors_zero, vectors_more}

pub ending_is : (k s m : ℕ) → ending k s m ≡ vectors k (s - m)
unfolding ending
ending_is k s m = refl

pub rank_zero : (l : ℕ → ℕ) → rank l 0 ≡ 0
unfolding rank
rank_zero l = refl

pub rank_suc : (l : ℕ → ℕ) (k : ℕ) → rank l (suc k) ≡ rank l k + sum_to (ending k (sum_to l (suc k))) (l k)
unfolding rank
rank_suc l k = refl

-- The vectors that end below m, and those that end at m or above: together all of them.
pub ending_sum : (k s m : ℕ) → m ≤ s → sum_to (ending k s) m + vectors (suc k) (s - m) ≡ vectors (suc k) s
ending_sum k s zero h = omega (arith, sum_to_zero (ending k s), ap (vectors (suc k)) (sub-zero s))
ending_sum k s (suc m) h =
    let e : s - m ≡ suc (s - suc m) = omega arith in
    omega (
      arith,
      sum_to_suc (ending k s) m,
      ending_is k s m,
      ending_sum k s m (omega arith),
      pascal k (s - suc m),
      ap (vectors (suc k)) e,
      ap (vectors k) e,
    )

-- Two counts for each axis give the rank: it rises by the difference of row k + 1 at the two level sums.
pub rank_step : (l : ℕ → ℕ) (k : ℕ) →
    rank l (suc k) + vectors (suc k) (sum_to l k) ≡ rank l k + vectors (suc k) (sum_to l (suc k))
rank_step l k =
    let e : sum_to l (suc k) - l k ≡ sum_to l k = omega (arith, sum_to_suc l k) in
    omega
    (arith, rank_suc l k, ending_sum k (sum_to l (suc k)) (l k) (omega (arith, sum_to_suc l k)), ap (vectors (suc k)) e)

-- The rank is below the count of the level vectors of the level sum.
pub rank_lt : (l : ℕ → ℕ) (k : ℕ) → rank l k < vectors k (sum_to l k)
rank_lt l zero = omega (arith, rank_zero l, ap (vectors 0) (sum_to_zero l), vectors_zero 0)
rank_lt l (suc k) = omega (arith, rank_step l k, rank_lt l k, vectors_more k (sum_to l k))

-- The rank depends on the levels of its axes alone.
pub rank_cong : (l m : ℕ → ℕ) (k : ℕ) → ((t : ℕ) → t < k → l t ≡ m t) → rank l k ≡ rank m k
rank_cong l m zero same = omega (arith, rank_zero l, rank_zero m)
rank_cong l m (suc k) same =
    omega (
      arith,
      rank_step l k,
      rank_step m k,
      rank_cong l m k (λ t h. same t (omega arith)),
      ap (vectors (suc k)) (sum_to_cong l m k (λ t h. same t (omega arith))),
      ap (vectors (suc k)) (sum_to_cong l m (suc k) same),
    )
