-- The numbering is one: numbers of points are below N, the point of a number has that number, and the number of a point leads back to it. So the
-- numbers run from 0 without gap and name each point once. True axis by axis: level sum, rank and position are read off a number in turn.
-- Assumes nothing.
use mathlib.Core.Path.{◌≡◌, refl, ap, ap₂, sym, ◌∙◌}
use Prim.Native.Nat.{ℕ, suc, ◌+◌, ◌*◌, ◌/◌, ◌%◌, ◌^◌, ◌≤◌, ◌<◌}
use native.Mathlib.Nat.{mul-suc, mul_comm, mul-le-mul_left, mod-lt, div-add-mod, div-lt_iff_lt-mul, mul-add-div, mul-add-mod_self_left, div-eq_of_lt, mod-eq_of_lt}
use native.Mathlib.Omega.{arith}
use lib.Pow.{pow_pos}
use borrow.Author.Tests.{lt-ltb, le-ltb}
use Rattle.naturals.specs.Sum.{sum_to}
use Rattle.naturals.proofs.Sums.{sum_to_suc, sum_to_mono, sum_to_cong}
use Rattle.numbering.specs.Count.{vectors, shell, start, points}
use Rattle.numbering.specs.Point.{IsPoint}
use Rattle.numbering.specs.Number.{rank, position, first_of, number}
use Rattle.numbering.specs.Inverse.{block, level_of, sum_at, within, level_at, index_of, index_at}
use Rattle.numbering.proofs.Rank.{rank_lt}
use Rattle.numbering.proofs.Block.{block_is, block_le, block_low, block_high}
use Rattle.numbering.proofs.Unrank.{level_of_rank, level_past, sum_of_level, rank_of_level}
use Rattle.numbering.proofs.Position.{position_lt, index_of_position, position_of_index, position_cong, index_odd, index_below}

-- ---- starts

pub shell_is : (d j : ℕ) → shell d j ≡ 2 ^ j * vectors d j
unfolding shell
shell_is d j = refl

pub start_is : (d s : ℕ) → start d s ≡ sum_to (shell d) s
unfolding start
start_is d s = refl

pub start_suc : (d s : ℕ) → start d (suc s) ≡ start d s + 2 ^ s * vectors d s
start_suc d s = omega (arith, start_is d (suc s), start_is d s, sum_to_suc (shell d) s, shell_is d s)

pub points_is : (d n : ℕ) → points d n ≡ start d (suc n)
unfolding points
points_is d n = refl

pub start_mono : (d s t : ℕ) → s ≤ t → start d s ≤ start d t
start_mono d s t h = omega (arith, start_is d s, start_is d t, sum_to_mono (shell d) s t h)

-- ---- a number is below that of the next level sum, and so below N

pub number_is : (d : ℕ) (l i : ℕ → ℕ) →
    number d l i ≡ start d (sum_to l d) + 2 ^ sum_to l d * rank l d + position l i d
unfolding number first_of
number_is d l i = refl

pub number_in_shell : {d n : ℕ} {l i : ℕ → ℕ} → IsPoint d n l i → number d l i < start d (suc (sum_to l d))
number_in_shell {d} {l = l} {i = i} p =
    omega (
      arith,
      number_is d l i,
      start_suc d (sum_to l d),
      position_lt p d (omega arith),
      mul-suc (2 ^ sum_to l d) (rank l d),
      mul-le-mul_left (2 ^ sum_to l d) (rank_lt l d),
    )

pub number_lt : {d n : ℕ} {l i : ℕ → ℕ} → IsPoint d n l i → number d l i < points d n
number_lt {d} {n} {l} p =
    omega (
      arith,
      number_in_shell p,
      points_is d n,
      start_mono d (suc (sum_to l d)) (suc n) (omega (arith, p.sum)),
    )

-- ---- from point to number and back

sum_at_lem : {d n : ℕ} {l i : ℕ → ℕ} → IsPoint d n l i → sum_at d n (number d l i) ≡ sum_to l d
unfolding sum_at
sum_at_lem {d} {n} {l} {i} p =
    block_is (shell d) n (number d l i) (sum_to l d) p.sum
    (omega (arith, number_is d l i, start_is d (sum_to l d)))
    (omega (arith, number_in_shell p, start_is d (suc (sum_to l d))))

within_at : {d n : ℕ} {l i : ℕ → ℕ} → IsPoint d n l i →
    within d n (number d l i) ≡ 2 ^ sum_to l d * rank l d + position l i d
unfolding within
within_at {d} {n} {l} {i} p = omega (arith, ap (start d) (sum_at_lem p), number_is d l i)

rank_at : {d n : ℕ} {l i : ℕ → ℕ} → IsPoint d n l i →
    within d n (number d l i) / 2 ^ sum_at d n (number d l i) ≡ rank l d
rank_at {d} {n} {l} {i} p =
    ap₂ (λ (w s : ℕ). w / 2 ^ s) (within_at p) (sum_at_lem p)
    ∙ mul-add-div (pow_pos (sum_to l d)) (rank l d) (position l i d)
    ∙ omega (arith, div-eq_of_lt (position_lt p d (omega arith)))

position_at : {d n : ℕ} {l i : ℕ → ℕ} → IsPoint d n l i →
    within d n (number d l i) % 2 ^ sum_at d n (number d l i) ≡ position l i d
position_at {d} {n} {l} {i} p =
    ap₂ (λ (w s : ℕ). w % 2 ^ s) (within_at p) (sum_at_lem p)
    ∙ mul-add-mod_self_left (2 ^ sum_to l d) (rank l d) (position l i d)
    ∙ mod-eq_of_lt (position_lt p d (omega arith))

pub level_of_number : {d n : ℕ} {l i : ℕ → ℕ} → IsPoint d n l i → (t : ℕ) → t < d → level_at d n (number d l i) t ≡ l t
unfolding level_at
level_of_number {d} {n} {l} {i} p t h =
    ap₂ (λ (s r : ℕ). level_of d s r t) (sum_at_lem p) (rank_at p) ∙ level_of_rank l d t h

pub index_in : (d n p t : ℕ) → t < d → index_at d n p t ≡ index_of (level_at d n p) (within d n p % 2 ^ sum_at d n p) t
unfolding index_at
index_in d n p t h = rw (lt-ltb t d h)

pub index_cong : (l m : ℕ → ℕ) (q t : ℕ) → ((u : ℕ) → u ≤ t → l u ≡ m u) → index_of l q t ≡ index_of m q t
unfolding index_of
index_cong l m q t same =
    ap₂ (λ (s k : ℕ). 2 * (q / 2 ^ s % 2 ^ k) + 1) (sum_to_cong l m t (λ u h. same u (omega arith))) (same t (omega arith))

pub index_of_number : {d n : ℕ} {l i : ℕ → ℕ} → IsPoint d n l i → (t : ℕ) → t < d → index_at d n (number d l i) t ≡ i t
index_of_number {d} {n} {l} {i} p t h =
    index_in d n (number d l i) t h
    ∙ index_cong (level_at d n (number d l i)) l _ t (λ u le. level_of_number p u (omega arith))
    ∙ ap (λ (q : ℕ). index_of l q t) (position_at p)
    ∙ index_of_position p t h

-- ---- from number to point and back

-- Past the last axis the level and the index are 0.
pub level_zero : (d n p t : ℕ) → d ≤ t → level_at d n p t ≡ 0
unfolding level_at
level_zero d n p t h = level_past d (sum_at d n p) (within d n p / 2 ^ sum_at d n p) t h

pub index_zero : (d n p t : ℕ) → d ≤ t → index_at d n p t ≡ 0
unfolding index_at
index_zero d n p t h = rw (le-ltb t d h)

module _ (d n p : ℕ) (lt : p < points d n) where
  sum_low : start d (sum_at d n p) ≤ p
  unfolding sum_at
  sum_low = omega (arith, start_is d (block (shell d) n p), block_low (shell d) n p)

  sum_high : p < start d (suc (sum_at d n p))
  unfolding sum_at
  sum_high =
      omega (
        arith,
        start_is d (suc (block (shell d) n p)),
        block_high (shell d) n p (omega (arith, points_is d n, start_is d (suc n))),
      )

  sum_le : sum_at d n p ≤ n
  unfolding sum_at
  sum_le = block_le (shell d) n p

  within_is : start d (sum_at d n p) + within d n p ≡ p
  unfolding within
  within_is = omega (arith, sum_low)

  pub rank_within : within d n p / 2 ^ sum_at d n p < vectors d (sum_at d n p)
  rank_within =
      (div-lt_iff_lt-mul (pow_pos (sum_at d n p))).1
      (omega (
        arith,
        sum_high,
        within_is,
        start_suc d (sum_at d n p),
        mul_comm (2 ^ sum_at d n p) (vectors d (sum_at d n p)),
      ))

  pub levels_sum : sum_to (level_at d n p) d ≡ sum_at d n p
  unfolding level_at
  levels_sum = sum_of_level d (sum_at d n p) (within d n p / 2 ^ sum_at d n p) rank_within

  levels_rank : rank (level_at d n p) d ≡ within d n p / 2 ^ sum_at d n p
  unfolding level_at
  levels_rank = rank_of_level d (sum_at d n p) (within d n p / 2 ^ sum_at d n p) rank_within

  pub indices_position : position (level_at d n p) (index_at d n p) d ≡ within d n p % 2 ^ sum_at d n p
  indices_position =
      position_cong (level_at d n p) (index_at d n p) (level_at d n p) _ d (λ t h. refl) (λ t h. index_in d n p t h)
      ∙ position_of_index (level_at d n p) (within d n p % 2 ^ sum_at d n p) d
      (omega (arith, mod-lt (within d n p) (pow_pos (sum_at d n p)), ap (λ (s : ℕ). 2 ^ s) levels_sum))

  -- Every number below N is that of a point, which is the point of the number.
  pub point_of_number_lem : IsPoint d n (level_at d n p) (index_at d n p)
  point_of_number_lem =
      record {
        sum = omega (arith, levels_sum, sum_le);
        odd = λ t h. ap (λ (x : ℕ). x % 2) (index_in d n p t h) ∙ index_odd (level_at d n p) _ t;
        below = λ t h. rw (index_in d n p t h) (index_below (level_at d n p) _ t);
      }

  pub number_of_point_lem : number d (level_at d n p) (index_at d n p) ≡ p
  number_of_point_lem =
      omega (
        arith,
        number_is d (level_at d n p) (index_at d n p),
        ap (start d) levels_sum,
        ap₂ (λ (s r : ℕ). 2 ^ s * r) levels_sum levels_rank,
        indices_position,
        within_is,
        div-add-mod (within d n p) (2 ^ sum_at d n p),
      )

-- Two points with one number are one point.
pub same_levels_lem : {d n : ℕ} {l i m j : ℕ → ℕ} → IsPoint d n l i → IsPoint d n m j → number d l i ≡ number d m j →
    (t : ℕ) → t < d → l t ≡ m t
same_levels_lem {d} {n} p q e t h =
    sym (level_of_number p t h) ∙ ap (λ (k : ℕ). level_at d n k t) e ∙ level_of_number q t h

pub same_indices : {d n : ℕ} {l i m j : ℕ → ℕ} → IsPoint d n l i → IsPoint d n m j → number d l i ≡ number d m j →
    (t : ℕ) → t < d → i t ≡ j t
same_indices {d} {n} p q e t h =
    sym (index_of_number p t h) ∙ ap (λ (k : ℕ). index_at d n k t) e ∙ index_of_number q t h
