-- The level vector of a rank: from rank to vector and from vector to rank undo each other, axis by axis from the last.
-- True since the rank of a vector lies in the block of those that end as it does.
-- Assumes nothing.
use mathlib.Core.Path.{◌≡◌, refl, ap, ap₂, ◌∙◌}
use Prim.Native.Nat.{ℕ, zero, suc, ◌+◌, ◌-◌, ◌≤◌, ◌<◌}
use native.Mathlib.Nat.{sub_self}
use native.Mathlib.Omega.{arith}
use borrow.Author.Tests.{eq-eqb, ne_eqb}
use Rattle.naturals.specs.Sum.{sum_to}
use Rattle.naturals.proofs.Cases.{eq_or_not}
use Rattle.naturals.proofs.Sums.{sum_to_zero, sum_to_suc, sum_to_cong}
use Rattle.numbering.specs.Count.{vectors}
use Rattle.numbering.specs.Number.{ending, rank}
use Rattle.numbering.specs.Inverse.{block, last_level, level_of}
use Rattle.numbering.proofs.Vectors.{vectors_zero, no_axes}
use Rattle.numbering.proofs.Rank.{ending_is, ending_sum, rank_zero, rank_suc, rank_lt, rank_cong}
use Rattle.numbering.proofs.Block.{block_is, block_le, block_low, block_high}

-- What is left of a rank below the block of the last level.
abbrev pub rest : ℕ → ℕ → ℕ → ℕ
rest k s r = r - sum_to (ending k s) (last_level k s r)

pub level_last : (k s r : ℕ) → level_of (suc k) s r k ≡ last_level k s r
unfolding level_of
level_last k s r = rw (eq-eqb k k refl)

pub level_before : (k s r t : ℕ) → t < k → level_of (suc k) s r t ≡ level_of k (s - last_level k s r) (rest k s r) t
unfolding level_of
level_before k s r t h = rw (ne_eqb t k (λ e. omega arith))

-- Past the last axis the level is 0.
pub level_past : (k s r t : ℕ) → k ≤ t → level_of k s r t ≡ 0
unfolding level_of
level_past zero s r t h = refl
level_past (suc k) s r t h =
    rw (ne_eqb t k (λ e. omega arith)) (level_past k (s - last_level k s r) (rest k s r) t (omega arith))

-- A rank in the block of the last level m.
last_is : (k s m r : ℕ) → m ≤ s → r < vectors k (s - m) → last_level k s (r + sum_to (ending k s) m) ≡ m
unfolding last_level
last_is k s m r le lt =
    block_is (ending k s) s (r + sum_to (ending k s) m) m le (omega arith)
    (omega (arith, sum_to_suc (ending k s) m, ending_is k s m))

pub last_le : (k s r : ℕ) → last_level k s r ≤ s
unfolding last_level
last_le k s r = block_le (ending k s) s r

pub last_low : (k s r : ℕ) → sum_to (ending k s) (last_level k s r) ≤ r
unfolding last_level
last_low k s r = block_low (ending k s) s r

pub all_endings : (k s : ℕ) → sum_to (ending k s) (suc s) ≡ vectors (suc k) s
all_endings k s =
    omega (
      arith,
      sum_to_suc (ending k s) s,
      ending_is k s s,
      ending_sum k s s (omega arith),
      ap (vectors k) (sub_self s),
      ap (vectors (suc k)) (sub_self s),
      vectors_zero k,
      vectors_zero (suc k),
    )

pub rest_lt : (k s r : ℕ) → r < vectors (suc k) s → rest k s r < vectors k (s - last_level k s r)
unfolding last_level
rest_lt k s r h =
    omega (
      arith,
      block_high (ending k s) s r (omega (arith, all_endings k s)),
      block_low (ending k s) s r,
      sum_to_suc (ending k s) (block (ending k s) s r),
      ending_is k s (block (ending k s) s r),
    )

-- A vector's last level is read off its rank, and what is left is the rank of the other axes.
last_of_rank : (l : ℕ → ℕ) (k : ℕ) → last_level k (sum_to l (suc k)) (rank l (suc k)) ≡ l k
last_of_rank l k =
    let e : sum_to l (suc k) - l k ≡ sum_to l k = omega (arith, sum_to_suc l k) in
    ap (last_level k (sum_to l (suc k))) (rank_suc l k)
    ∙ last_is k (sum_to l (suc k)) (l k) (rank l k) (omega (arith, sum_to_suc l k))
    (omega (arith, rank_lt l k, ap (vectors k) e))

rest_of_rank : (l : ℕ → ℕ) (k : ℕ) → rest k (sum_to l (suc k)) (rank l (suc k)) ≡ rank l k
rest_of_rank l k =
    omega (arith, rank_suc l k, ap (sum_to (ending k (sum_to l (suc k)))) (last_of_rank l k))

-- From vector to rank and back.
pub level_of_rank : (l : ℕ → ℕ) (k t : ℕ) → t < k → level_of k (sum_to l k) (rank l k) t ≡ l t
level_of_rank l zero t h = omega arith
level_of_rank l (suc k) t h =
    eq_or_not t k
    (λ e. rw e (level_last k (sum_to l (suc k)) (rank l (suc k)) ∙ last_of_rank l k))
    (λ e.
    level_before k (sum_to l (suc k)) (rank l (suc k)) t (omega arith)
    ∙ ap₂ (λ (s r : ℕ). level_of k s r t) (omega (arith, last_of_rank l k, sum_to_suc l k)) (rest_of_rank l k)
    ∙ level_of_rank l k t (omega arith))

-- The first k levels of the vector of a rank are the vector of what is left.
first_levels : (k s r : ℕ) → sum_to (level_of (suc k) s r) k ≡ sum_to (level_of k (s - last_level k s r) (rest k s r)) k
first_levels k s r = sum_to_cong _ _ k (level_before k s r)

sum_of_levels : (k s r : ℕ) →
    sum_to (level_of k (s - last_level k s r) (rest k s r)) k ≡ s - last_level k s r → sum_to (level_of (suc k) s r) (suc k) ≡ s
sum_of_levels k s r below =
    omega (arith, sum_to_suc (level_of (suc k) s r) k, first_levels k s r, level_last k s r, last_le k s r)

-- From rank to vector and back: the vector has the level sum, and the rank.
pub sum_of_level : (k s r : ℕ) → r < vectors k s → sum_to (level_of k s r) k ≡ s
sum_of_level zero zero r h = sum_to_zero (level_of 0 0 r)
sum_of_level zero (suc s) r h = omega (arith, no_axes s)
sum_of_level (suc k) zero r h = sum_of_levels k 0 r (sum_of_level k (0 - last_level k 0 r) (rest k 0 r) (rest_lt k 0 r h))
sum_of_level (suc k) (suc s) r h =
    sum_of_levels k (suc s) r (sum_of_level k (suc s - last_level k (suc s) r) (rest k (suc s) r) (rest_lt k (suc s) r h))

rank_of_levels : (k s r : ℕ) → r < vectors (suc k) s →
    rank (level_of k (s - last_level k s r) (rest k s r)) k ≡ rest k s r → rank (level_of (suc k) s r) (suc k) ≡ r
rank_of_levels k s r h below =
    omega (
      arith,
      rank_suc (level_of (suc k) s r) k,
      rank_cong (level_of (suc k) s r) (level_of k (s - last_level k s r) (rest k s r)) k (level_before k s r),
      ap (λ (n : ℕ). sum_to (ending k n) (level_of (suc k) s r k)) (sum_of_level (suc k) s r h),
      ap (sum_to (ending k s)) (level_last k s r),
      last_low k s r,
    )

pub rank_of_level : (k s r : ℕ) → r < vectors k s → rank (level_of k s r) k ≡ r
rank_of_level zero zero r h = omega (arith, rank_zero (level_of 0 0 r), vectors_zero 0)
rank_of_level zero (suc s) r h = omega (arith, no_axes s)
rank_of_level (suc k) zero r h = rank_of_levels k 0 r h (rank_of_level k (0 - last_level k 0 r) (rest k 0 r) (rest_lt k 0 r h))
rank_of_level (suc k) (suc s) r h =
    rank_of_levels k (suc s) r h (rank_of_level k (suc s - last_level k (suc s) r) (rest k (suc s) r) (rest_lt k (suc s) r h))

-- No level of a vector is more than the level sum.
pub level_le : (k s r t : ℕ) → level_of k s r t ≤ s
unfolding level_of
level_le zero s r t = omega arith
level_le (suc k) s r t =
    eq_or_not t k
    (λ e. rw (eq-eqb t k e) (last_le k s r))
    (λ ne. rw (ne_eqb t k ne) (omega (arith, level_le k (s - last_level k s r) (rest k s r) t)))
