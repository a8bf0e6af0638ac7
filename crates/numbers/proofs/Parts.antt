-- A number from its parts: the first number of the level sum and the rank shifted by the level sum make the first number of the level vector, and the
-- position the rest. The parts and their sums are within the width, since the number of a point is below that of all points.
-- Assumes nothing.
use mathlib.Core.Path.{◌≡◌, ap, ap₂}
use mathlib.Core.List.{List}
use Prim.Native.Nat.{ℕ, suc, ◌+◌, ◌*◌, ◌%◌, ◌^◌, ◌≤◌, ◌<◌}
use native.Mathlib.Nat.{le_of_lt, mul_comm, mul-le-mul_left, mod-eq_of_lt}
use native.Mathlib.Omega.{arith}
use Rattle.naturals.specs.Sum.{sum_to}
use Rattle.numbering.specs.Count.{start}
use Rattle.numbering.specs.Point.{IsPoint}
use Rattle.numbering.specs.Number.{rank, position, first_of, number}
use Rattle.numbering.proofs.Rank.{rank_lt}
use Rattle.numbering.proofs.Numbering.{start_suc, points_is, number_lt}
use Rattle.numbering.proofs.Subspaces.{first_is, number_from_first}
use Rattle.shapes.proofs.Totals.{start_small}
use Rattle.points.specs.Steps.{PointIn}

pub at_most_eight : {d n : ℕ} {ls is : List ℕ} → PointIn d n ls is → n ≤ 8 → PointIn d 8 ls is
at_most_eight p h =
    record {
      long_levels = p.long_levels;
      long_indices = p.long_indices;
      point = record { sum = omega (arith, p.point.sum); odd = p.point.odd; below = p.point.below };
      no_level = p.no_level;
      no_index = p.no_index;
    }

-- The first number of a level vector.
module _ (d : ℕ) (l : ℕ → ℕ) (low : 1 ≤ d) (high : d ≤ 8) (few : sum_to l d ≤ 8) where
  pub first_small : first_of d l < 4294967296
  first_small =
      omega (
        arith,
        first_is d l,
        mul-le-mul_left (2 ^ sum_to l d) (le_of_lt (rank_lt l d)),
        start_suc d (sum_to l d),
        start_small d low high (suc (sum_to l d)) (omega arith),
      )

  pub first_of_parts : {first s r : ℕ} → first ≡ start d s → s ≡ sum_to l d → r ≡ rank l d → first + r * 2 ^ s % 2 ^ 64 ≡ first_of d l
  first_of_parts {first} {s} {r} firsts sums ranks =
      let whole : start d (sum_to l d) + rank l d * 2 ^ sum_to l d ≡ first_of d l = omega (arith, first_is d l, mul_comm (2 ^ sum_to l d) (rank l d)) in
      let shifted : r * 2 ^ s ≡ rank l d * 2 ^ sum_to l d = ap₂ (λ (x y : ℕ). x * 2 ^ y) ranks sums in
      let exact : r * 2 ^ s % 2 ^ 64 ≡ r * 2 ^ s = mod-eq_of_lt (omega (arith, whole, first_small)) in
      omega (arith, whole, exact, ap (start d) sums)

-- The number of a point.
module _ {d : ℕ} {l i : ℕ → ℕ} (point : IsPoint d 8 l i) (low : 1 ≤ d) (high : d ≤ 8) where
  pub number_small : number d l i < 4294967296
  number_small = omega (arith, number_lt point, points_is d 8, start_small d low high 9 (omega arith))

pub number_of_parts : (d : ℕ) (l i : ℕ → ℕ) {first p : ℕ} → first ≡ first_of d l → p ≡ position l i d → first + p ≡ number d l i
number_of_parts d l i firsts packs = omega (arith, number_from_first d l i)
