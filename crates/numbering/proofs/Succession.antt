-- Stepping to the next point. The indices go up like the digits of a counter, axis 1 fastest: one step adds 1 to the position. Where all are
-- at their last, the first level v above 0 that has an axis after it moves: one of it to the next axis, the rest to the first; this adds 1 to
-- the rank. Where only the last axis has a level, the vector is the last of its level sum, and the first of the next sum follows.
-- Assumes nothing.
use mathlib.Core.Path.{◌≡◌, ap, sym}
use Prim.Native.Nat.{ℕ, zero, suc, ◌-◌, ◌*◌, ◌/◌, ◌^◌, ◌≤◌, ◌<◌}
use native.Mathlib.Nat.{zero-mul, mul_comm, mul-suc, mul-zero}
use native.Mathlib.Omega.{arith}
use Rattle.naturals.specs.Sum.{sum_to}
use Rattle.naturals.proofs.Cases.{eq_or_not}
use Rattle.naturals.proofs.Sums.{sum_to_zero, sum_to_suc}
use Rattle.numbering.specs.Count.{vectors, start}
use Rattle.numbering.specs.Number.{ending, rank, position, number}
use Rattle.numbering.proofs.Vectors.{pascal, vectors_zero, vectors_one}
use Rattle.numbering.proofs.Rank.{rank_zero, rank_suc, rank_step}
use Rattle.numbering.proofs.Position.{half, position_zero, position_suc, pow_sum}
use Rattle.numbering.proofs.Numbering.{number_is, start_suc}

-- ---- positions

-- Indices that are the last of their levels: the position is the last.
pub last_position : (l i : ℕ → ℕ) (k : ℕ) → ((t : ℕ) → t < k → suc (half i t) ≡ 2 ^ l t) → suc (position l i k) ≡ 2 ^ sum_to l k
last_position l i zero full = omega (arith, position_zero l i, ap (λ (s : ℕ). 2 ^ s) (sum_to_zero l))
last_position l i (suc k) full =
    omega (
      arith,
      position_suc l i k,
      last_position l i k (λ t h. full t (omega arith)),
      pow_sum l k,
      ap (λ (x : ℕ). 2 ^ sum_to l k * x) (sym (full k (omega arith))),
      mul-suc (2 ^ sum_to l k) (half i k),
      mul_comm (2 ^ sum_to l k) (half i k),
    )

-- Indices that are all 1: the position is the first.
pub first_position : (l i : ℕ → ℕ) (k : ℕ) → ((t : ℕ) → t < k → i t ≡ 1) → position l i k ≡ 0
first_position l i zero ones = position_zero l i
first_position l i (suc k) ones =
    let h : half i k ≡ 0 = omega (arith, ones k (omega arith)) in
    omega (
      arith,
      position_suc l i k,
      first_position l i k (λ t lt. ones t (omega arith)),
      ap (λ (x : ℕ). x * 2 ^ sum_to l k) h,
      zero-mul (2 ^ sum_to l k),
    )

-- The indices j are the next after i: those before axis t were last and are first again, that of axis t is the next odd one.
pub record NextIndices (d t : ℕ) (l i j : ℕ → ℕ) : Type 0 where
  pub axis : t < d
  pub full : (u : ℕ) → u < t → suc (half i u) ≡ 2 ^ l u
  pub ones : (u : ℕ) → u < t → j u ≡ 1
  pub raised : half j t ≡ suc (half i t)
  pub kept : (u : ℕ) → t < u → u < d → j u ≡ i u

next_position_to : (d t : ℕ) (l i j : ℕ → ℕ) → NextIndices d t l i j → (k : ℕ) → t < k → k ≤ d →
    position l j k ≡ suc (position l i k)
next_position_to d t l i j s zero lt le = omega arith
next_position_to d t l i j s (suc k) lt le =
    eq_or_not t k
    (λ e.
    omega (
      arith,
      position_suc l j k,
      position_suc l i k,
      ap (position l j) e,
      ap (position l i) e,
      first_position l j t s.ones,
      last_position l i t s.full,
      ap (λ (u : ℕ). 2 ^ sum_to l u) e,
      ap (λ (u : ℕ). half j u * 2 ^ sum_to l k) e,
      ap (λ (u : ℕ). suc (half i u) * 2 ^ sum_to l k) e,
      ap (λ (x : ℕ). x * 2 ^ sum_to l k) s.raised,
      mul_comm (suc (half i k)) (2 ^ sum_to l k),
      mul-suc (2 ^ sum_to l k) (half i k),
      mul_comm (half i k) (2 ^ sum_to l k),
    ))
    (λ e.
    omega (
      arith,
      position_suc l j k,
      position_suc l i k,
      next_position_to d t l i j s k (omega arith) (omega arith),
      ap (λ (x : ℕ). (x - 1) / 2 * 2 ^ sum_to l k) (s.kept k (omega arith) le),
    ))

pub next_position : {d t : ℕ} {l i j : ℕ → ℕ} → NextIndices d t l i j → position l j d ≡ suc (position l i d)
next_position {d} {t} {l} {i} {j} s = next_position_to d t l i j s d s.axis (omega arith)

-- ---- ranks

pub sum_zeros : (l : ℕ → ℕ) (k : ℕ) → ((t : ℕ) → t < k → l t ≡ 0) → sum_to l k ≡ 0
sum_zeros l zero zeros = sum_to_zero l
sum_zeros l (suc k) zeros =
    omega (arith, sum_to_suc l k, zeros k (omega arith), sum_zeros l k (λ t h. zeros t (omega arith)))

-- Only the first axis has a level: the vector is the first of its level sum.
pub sum_first : (l : ℕ → ℕ) (k : ℕ) → ((t : ℕ) → 0 < t → t < suc k → l t ≡ 0) → sum_to l (suc k) ≡ l 0
sum_first l zero zeros = omega (arith, sum_to_suc l 0, sum_to_zero l)
sum_first l (suc k) zeros =
    omega (
      arith,
      sum_to_suc l (suc k),
      zeros (suc k) (omega arith) (omega arith),
      sum_first l k (λ t pos h. zeros t pos (omega arith)),
    )

pub rank_first : (l : ℕ → ℕ) (k : ℕ) → ((t : ℕ) → 0 < t → t < k → l t ≡ 0) → rank l k ≡ 0
rank_first l zero zeros = rank_zero l
rank_first l (suc zero) zeros =
    omega (arith, rank_step l 0, rank_zero l, vectors_one (sum_to l 0), vectors_one (sum_to l 1))
rank_first l (suc (suc k)) zeros =
    omega (
      arith,
      rank_suc l (suc k),
      rank_first l (suc k) (λ t pos h. zeros t pos (omega arith)),
      ap (sum_to (ending (suc k) (sum_to l (suc (suc k))))) (zeros (suc k) (omega arith) (omega arith)),
      sum_to_zero (ending (suc k) (sum_to l (suc (suc k)))),
    )

-- Only the last axis has a level: the vector is the last of its level sum.
pub sum_last : (l : ℕ → ℕ) (k : ℕ) → ((t : ℕ) → t < k → l t ≡ 0) → sum_to l (suc k) ≡ l k
sum_last l k zeros = omega (arith, sum_to_suc l k, sum_zeros l k zeros)

pub rank_last : (l : ℕ → ℕ) (k : ℕ) → ((t : ℕ) → t < k → l t ≡ 0) → suc (rank l (suc k)) ≡ vectors (suc k) (sum_to l (suc k))
rank_last l k zeros =
    omega (
      arith,
      rank_step l k,
      rank_first l k (λ t pos h. zeros t h),
      ap (vectors (suc k)) (sum_zeros l k zeros),
      vectors_zero (suc k),
    )

-- The levels m are the next after l, of the same level sum: axis k is the first with a level, and has an axis after it.
pub record NextLevels (d k : ℕ) (l m : ℕ → ℕ) : Type 0 where
  pub axis : suc k < d
  pub zeros : (t : ℕ) → t < k → l t ≡ 0
  pub first : suc (m 0) ≡ l k
  pub cleared : (t : ℕ) → 0 < t → t < suc k → m t ≡ 0
  pub raised : m (suc k) ≡ suc (l (suc k))
  pub kept : (t : ℕ) → suc k < t → t < d → m t ≡ l t

module _ (d k : ℕ) (l m : ℕ → ℕ) (s : NextLevels d k l m) where
  next_sum_to : (j : ℕ) → suc k < j → j ≤ d → sum_to m j ≡ sum_to l j
  next_sum_to zero lt le = omega arith
  next_sum_to (suc j) lt le =
      eq_or_not (suc k) j
      (λ e.
      omega (
        arith,
        sum_to_suc m j,
        sum_to_suc l j,
        ap (sum_to m) e,
        ap (sum_to l) e,
        sum_first m k s.cleared,
        sum_last l k s.zeros,
        ap m e,
        ap l e,
        s.raised,
        s.first,
      ))
      (λ e. omega (arith, sum_to_suc m j, sum_to_suc l j, next_sum_to j (omega arith) (omega arith), s.kept j (omega arith) le))

  next_rank_to : (j : ℕ) → suc k < j → j ≤ d → rank m j ≡ suc (rank l j)
  next_rank_to zero lt le = omega arith
  next_rank_to (suc j) lt le =
      eq_or_not (suc k) j
      (λ e.
      let before : suc (sum_to m (suc k)) ≡ sum_to l (suc k) = omega (arith, sum_first m k s.cleared, sum_last l k s.zeros, s.first) in
      omega (
        arith,
        ap (λ (u : ℕ). rank m (suc u)) e,
        ap (λ (u : ℕ). rank l (suc u)) e,
        rank_step m (suc k),
        rank_step l (suc k),
        rank_first m (suc k) s.cleared,
        rank_last l k s.zeros,
        pascal (suc k) (sum_to m (suc k)),
        ap (vectors (suc (suc k))) before,
        ap (vectors (suc k)) before,
        ap (vectors (suc (suc k))) (next_sum_to (suc (suc k)) (omega arith) (omega arith)),
      ))
      (λ e.
      omega (
        arith,
        rank_step m j,
        rank_step l j,
        next_rank_to j (omega arith) (omega arith),
        ap (vectors (suc j)) (next_sum_to j (omega arith) (omega arith)),
        ap (vectors (suc j)) (next_sum_to (suc j) (omega arith) le),
      ))

pub next_sum : {d k : ℕ} {l m : ℕ → ℕ} → NextLevels d k l m → sum_to m d ≡ sum_to l d
next_sum {d} {k} {l} {m} s = next_sum_to d k l m s d s.axis (omega arith)

pub next_rank : {d k : ℕ} {l m : ℕ → ℕ} → NextLevels d k l m → rank m d ≡ suc (rank l d)
next_rank {d} {k} {l} {m} s = next_rank_to d k l m s d s.axis (omega arith)

-- ---- numbers

-- The last point of a level sum: one below the first of the next.
pub number_last : (d : ℕ) (l i : ℕ → ℕ) → suc (rank l d) ≡ vectors d (sum_to l d) → suc (position l i d) ≡ 2 ^ sum_to l d →
    suc (number d l i) ≡ start d (suc (sum_to l d))
number_last d l i last_rank last =
    omega (
      arith,
      number_is d l i,
      start_suc d (sum_to l d),
      ap (λ (r : ℕ). 2 ^ sum_to l d * r) (sym last_rank),
      mul-suc (2 ^ sum_to l d) (rank l d),
    )

-- The first point of a level sum.
pub number_first : (d : ℕ) (l i : ℕ → ℕ) → rank l d ≡ 0 → position l i d ≡ 0 → number d l i ≡ start d (sum_to l d)
number_first d l i first_rank first =
    omega (arith, number_is d l i, ap (λ (r : ℕ). 2 ^ sum_to l d * r) first_rank, mul-zero (2 ^ sum_to l d))
