-- A level vector without one axis: its levels are the others, in their order, and their sum is less by the level left out. The walk that ranks it goes over these
-- levels; of no axes, its first number is 0.
-- Assumes nothing.
use mathlib.Core.Path.{◌≡◌, refl, ap}
use Prim.Native.Nat.{ℕ, zero, suc, ◌+◌, ◌-◌, ◌*◌, ◌^◌, ◌≤◌, ◌<◌}
use native.Mathlib.Nat.{mul-zero}
use native.Mathlib.Omega.{arith}
use borrow.Author.Tests.{lt-ltb, le-ltb}
use Rattle.naturals.specs.Sum.{sum_to}
use Rattle.naturals.proofs.Cases.{le_or_lt}
use Rattle.naturals.proofs.Sums.{sum_to_zero, sum_to_suc}
use Rattle.numbering.specs.Count.{start}
use Rattle.numbering.specs.Number.{first_of}
use Rattle.numbering.proofs.Rank.{rank_zero}
use Rattle.numbering.proofs.Subspaces.{first_is}
use Rattle.shapes.proofs.Totals.{start_zero}
use Rattle.numbers.proofs.Parts.{first_small}
use Rattle.faces.specs.Packing.{skip}
use Rattle.neighbours.specs.Facets.{without}

module _ (j : ℕ) (l : ℕ → ℕ) where
  pub without_low : (u : ℕ) → u < j → without j l u ≡ l u
  unfolding without skip
  without_low u h = rw (lt-ltb u j h) refl

  pub without_high : (u : ℕ) → j ≤ u → without j l u ≡ l (suc u)
  unfolding without skip
  without_high u h = rw (le-ltb u j h) refl

  sum_before : (u : ℕ) → u ≤ j → sum_to (without j l) u ≡ sum_to l u
  sum_before zero h = omega (arith, sum_to_zero (without j l), sum_to_zero l)
  sum_before (suc u) h = omega (arith, sum_to_suc (without j l) u, sum_to_suc l u, sum_before u (omega arith), without_low u h)

  pub sum_after : (u : ℕ) → j ≤ u → sum_to (without j l) u + l j ≡ sum_to l (suc u)
  sum_after zero h =
      let first : j ≡ 0 = omega arith in
      omega (arith, sum_to_zero (without j l), sum_to_zero l, sum_to_suc l 0, ap l first)
  sum_after (suc u) h =
      le_or_lt j u
      (λ past. omega (arith, sum_to_suc (without j l) u, sum_to_suc l (suc u), sum_after u past, without_high u past))
      (λ here.
      let last : j ≡ suc u = omega arith in
      omega (arith, sum_before (suc u) (omega arith), sum_to_suc l (suc u), ap l last))

  pub without_sum : (k : ℕ) → j < k → sum_to (without j l) (k - 1) + l j ≡ sum_to l k
  without_sum k h =
      let again : suc (k - 1) ≡ k = omega arith in
      omega (arith, sum_after (k - 1) (omega arith), ap (sum_to l) again)

-- The empty level vector is the first of all.
pub first_of_none : (l : ℕ → ℕ) → first_of 0 l ≡ 0
first_of_none l =
    let none : sum_to l 0 ≡ 0 = sum_to_zero l in
    omega (
      arith,
      first_is 0 l,
      ap (start 0) none,
      start_zero 0,
      ap (λ (r : ℕ). 2 ^ sum_to l 0 * r) (rank_zero l),
      mul-zero (2 ^ sum_to l 0),
    )

-- So its first number is small.
pub first_without_small : (j : ℕ) (l : ℕ → ℕ) (k : ℕ) → j < k → k ≤ 8 → sum_to l k ≤ 8 → first_of (k - 1) (without j l) < 2 ^ 32
first_without_small j l k there few low =
    le_or_lt (k - 1) 0
    (λ none.
    let zero : k - 1 ≡ 0 = omega arith in
    omega (arith, ap (λ (d : ℕ). first_of d (without j l)) zero, first_of_none (without j l)))
    (λ some. omega (arith, first_small (k - 1) (without j l) some (omega arith) (omega (arith, without_sum j l k there, low))))
