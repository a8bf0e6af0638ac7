-- How far estimates are off, by computing: with a joint weight of 0 the exact value can be far from 0; on one axis half a unit is attained; on two axes an
-- estimate is at least 99 hundredths of the bound off.
-- Assumes nothing.
use Rattle.std.specs.Prelude.{Ok}
use mathlib.Core.List.{List, [], ◌∷◌}
use mathlib.Core.Path.{◌≡◌, refl}
use Prim.Native.Nat.{ℕ, ◌+◌, ◌*◌, ◌^◌, ◌≤◌}
use native.Mathlib.Omega.{arith}
use lib.IntN.{ℤ, pos}
use Rattle.naturals.specs.Sum.{sum_to, prod_to}
use Rattle.naturals.specs.Test.{all}
use Rattle.naturals.specs.FirstFailing.{first_failing}
use Rattle.integers.specs.Half.{in_limit, content_at}
use Rattle.integers.specs.Nearest.{nearest_up, nearest, apart}
use Rattle.integers.specs.Total.{total}
use Rattle.numbering.specs.Binomial.{choose}
use Rattle.numbering.specs.Count.{vectors, shell, start, points}
use Rattle.numbering.specs.Point.{at, is_index, indexed, is_point}
use Rattle.numbering.specs.Number.{ending, rank, digit, position, first_of, number}
use Rattle.numbering.specs.Inverse.{block, last_level, level_of, sum_at, within, level_at, index_of, index_at}
use Rattle.hierarchy.specs.Turns.{value_at}
use Rattle.shapes.specs.Shapes.{sparse, check_limits, check_size, check_shape, points_of, check_length}
use Rattle.grids.specs.Grids.{mark_on, level_on, index_on}
use Rattle.interpolation.specs.Weighted.{weighted, weighted_sum}
use Rattle.surfaces.specs.Weights.{unit, is_coordinate, distance, weight, axis_weight, joint}
use Rattle.surfaces.specs.Surface.{weight_in, product_in, joint_in, surface_in, joint_sum_in, rounded, estimate_in, surface}
use Rattle.surfaces.specs.Margin.{above_zero, is_reached, absolute_reached, absolute_sum, margin, absolute_sum_in}
use Rattle.states.specs.States.{has, is_other, first_axis, check_axes, check_bits, check_state}
use Rattle.estimates.specs.declared.Estimated.{Estimated}
use Rattle.estimates.specs.Estimates.{check_forward, inside_at, first_outside, check_coordinates, check_estimate}
use Rattle.estimates.specs.Margin.{estimate_with_margin}
use Rattle.tables.specs.Tables.{adopted}

-- What the call answers of one point on d axes, of coefficient c, at these coordinates.
abbrev Answers : ℕ → ℤ → List ℕ → Estimated → Type 0
Answers d c xs e = estimate_with_margin (adopted (sparse d 0)) (c ∷ []) xs ≡ Ok e

-- The numerator of the exact value there, over the unit to the d.
abbrev exact : ℕ → ℤ → List ℕ → ℤ
exact d c xs = surface (sparse d 0) (value_at (c ∷ [])) (at xs)

-- The coefficient 2^47 on two axes at 1 and 1: each weight is 2 and the joint weight 0, so the estimate is 0; but the exact value is 512.
abbrev pub JointWeightZero : Type 0
JointWeightZero =
    Answers 2 (pos (2 ^ 47)) (1 ∷ 1 ∷ []) (record { estimate = pos 0; absolute_sum = 2 ^ 47; margin = 134217729 })
    × (exact 2 (pos (2 ^ 47)) (1 ∷ 1 ∷ []) ≡ pos (512 * unit ^ 2))

-- The coefficient 1 on one axis at a quarter: the exact value is a half and the estimate 1, so that half a unit is attained.
abbrev pub HalfAttained : Type 0
HalfAttained =
    Answers 1 (pos 1) (262144 ∷ []) (record { estimate = pos 1; absolute_sum = 1; margin = 1 })
    × (2 * apart unit (exact 1 (pos 1) (262144 ∷ [])) (pos 1) ≡ unit)

-- The coefficient 2^47 on two axes at 1 and 262,143: the weights are 2 and 524,286, and the joint weight 0. Twice the distance is at least 99 hundredths of
-- the bound.
abbrev pub NearlyAttained : Type 0
NearlyAttained =
    Answers 2 (pos (2 ^ 47)) (1 ∷ 262143 ∷ []) (record { estimate = pos 0; absolute_sum = 2 ^ 47; margin = 134217729 })
    × (99 * (unit ^ 2 + 2 * (2 ^ 47 * unit)) ≤ 100 * (2 * apart (unit ^ 2) (exact 2 (pos (2 ^ 47)) (1 ∷ 262143 ∷ [])) (pos 0)))

pub margins : JointWeightZero × HalfAttained × NearlyAttained
unfolding above_zero is_reached absolute_reached absolute_sum margin absolute_sum_in surface_in product_in prod_to estimate_with_margin sum_to all choose vectors shell start points is_index indexed is_point ending rank digit position first_of number check_limits check_size check_shape points_of check_length mark_on level_on index_on block last_level level_of sum_at within level_at index_of index_at value_at first_failing total nearest_up nearest in_limit weighted weighted_sum unit is_coordinate distance weight axis_weight weight_in joint joint_in joint_sum_in rounded estimate_in has is_other first_axis check_axes check_bits check_state content_at check_forward inside_at first_outside check_coordinates check_estimate
margins = ((refl, refl), (refl, refl), (refl, omega arith))
