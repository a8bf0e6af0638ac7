-- How many sums of a level list are odd. The parents of its points stand apart from it, so it is the same in all tables that agree there: the list adds the same
-- to the count in each of them.
-- Assumes nothing.
use mathlib.Core.Path.{◌≡◌, ap₂}
use mathlib.Core.List.{List}
use Prim.Native.Nat.{ℕ, zero, suc, ◌+◌, ◌≤◌, ◌<◌}
use native.Mathlib.Omega.{arith}
use lib.IntN.{ℤ, ◌+ℤ◌}
use Rattle.naturals.proofs.Cases.{le_or_lt}
use Rattle.naturals.proofs.Sums.{sum_to_zero, sum_to_suc}
use Rattle.integers.specs.Half.{odd_of}
use Rattle.integers.proofs.Steps.{odd_small}
use Rattle.numbering.specs.declared.Side.{Side}
use Rattle.numbering.specs.declared.Side.TheVariants.{Left, Right}
use Rattle.hierarchy.specs.Turns.{value_at, sum_on}
use Rattle.shapes.specs.declared.Shape.{Shape}
use Rattle.grids.specs.Grids.{neighbour}
use Rattle.neighbours.specs.Facets.{Apart}
use Rattle.neighbours.specs.declared.subspaces.Subspace.{Subspace}
use Rattle.neighbours.proofs.Seeing.{seen}
use Rattle.neighbours.proofs.Beside.{beside_apart}
use Rattle.lists.specs.Lists.{odd_at, odd_sums}

-- ---- counts

module _ (s : Shape) (t : ℕ) (xs : List ℤ) where
  pub odds_none : odd_sums s t xs 0 ≡ 0
  unfolding odd_sums
  odds_none = sum_to_zero (odd_at s t xs)

  pub odds_suc : (m : ℕ) → odd_sums s t xs (suc m) ≡ odd_sums s t xs m + odd_at s t xs m
  unfolding odd_sums
  odds_suc m = sum_to_suc (odd_at s t xs) m

  one_odd : (p : ℕ) → odd_at s t xs p ≤ 1
  unfolding odd_at
  one_odd p = odd_small _

  -- No more sums are odd than there are points.
  pub odds_few : (m : ℕ) → odd_sums s t xs m ≤ m
  odds_few zero = omega (arith, odds_none)
  odds_few (suc m) = omega (arith, odds_suc m, one_odd m, odds_few m)

-- Two tables with the same sums from number lo on.
pub same_growth : (s : Shape) (t : ℕ) (xs ys : List ℤ) (lo hi : ℕ) → lo ≤ hi → ((p : ℕ) → lo ≤ p → p < hi → odd_at s t xs p ≡ odd_at s t ys p) →
    odd_sums s t xs hi + odd_sums s t ys lo ≡ odd_sums s t ys hi + odd_sums s t xs lo
same_growth s t xs ys lo zero le same =
    let none : lo ≡ 0 = omega arith in
    rw none (omega arith)
same_growth s t xs ys lo (suc hi) le same =
    le_or_lt (suc hi) lo
    (λ whole.
    let none : lo ≡ suc hi = omega arith in
    rw none (omega arith))
    (λ more.
    omega (
      arith,
      odds_suc s t xs hi,
      odds_suc s t ys hi,
      same hi (omega arith) (omega arith),
      same_growth s t xs ys lo hi (omega arith) (λ p from to. same p from (omega arith)),
    ))

-- Sums of parents that hold the same are odd together.
pub same_odd : (s : Shape) (t : ℕ) (xs ys : List ℤ) (p : ℕ) → ((b : Side) → value_at xs (neighbour s t b (suc p)) ≡ value_at ys (neighbour s t b (suc p))) →
    odd_at s t xs p ≡ odd_at s t ys p
unfolding odd_at sum_on
same_odd s t xs ys p same = ap₂ (λ (a b : ℤ). odd_of (a +ℤ b)) (same Left) (same Right)

-- ---- a level list

module _ (v : Subspace) (xs ys : List ℤ)
    (same : (code : ℕ) → Apart (neighbour v.facet.line.shape) v.facet.line.place v.facet.base v.start v.end code → value_at xs code ≡ value_at ys code) where
  pub list_odds : (k : ℕ) → odd_sums v.facet.line.shape v.facet.line.place ys v.start + k ≡ odd_sums v.facet.line.shape v.facet.line.place ys v.end →
      odd_sums v.facet.line.shape v.facet.line.place xs v.start + k ≡ odd_sums v.facet.line.shape v.facet.line.place xs v.end
  list_odds k counted =
      omega (
        arith,
        counted,
        same_growth v.facet.line.shape v.facet.line.place xs ys v.start v.end (omega (arith, (seen v).end))
            (λ p from to. same_odd v.facet.line.shape v.facet.line.place xs ys p (λ b. same _ (beside_apart (seen v) p from to b))),
      )
