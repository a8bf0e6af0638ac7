-- With two axes an old coordinate times 16 can have another estimate, and so with three: joint weights lose less in the finer unit. By computing.
-- Assumes nothing.
use Rattle.std.specs.Prelude.{Ok}
use mathlib.Core.List.{[], ◌∷◌}
use mathlib.Core.Path.{◌≡◌, refl}
use lib.IntN.{pos}
use Rattle.naturals.specs.Sum.{sum_to}
use Rattle.naturals.specs.Test.{all}
use Rattle.naturals.specs.FirstFailing.{first_failing}
use Rattle.integers.specs.Half.{in_limit, content_at}
use Rattle.integers.specs.Nearest.{nearest_up, nearest}
use Rattle.integers.specs.Total.{total}
use Rattle.numbering.specs.Binomial.{choose}
use Rattle.numbering.specs.Count.{vectors, shell, start, points}
use Rattle.numbering.specs.Point.{is_index, indexed, is_point}
use Rattle.numbering.specs.Number.{ending, rank, digit, position, first_of, number}
use Rattle.numbering.specs.Inverse.{block, last_level, level_of, sum_at, within, level_at, index_of, index_at}
use Rattle.hierarchy.specs.Turns.{value_at}
use Rattle.shapes.specs.Shapes.{sparse, check_limits, check_size, check_shape, points_of, check_length}
use Rattle.grids.specs.Grids.{mark_on, level_on, index_on}
use Rattle.interpolation.specs.Weighted.{weighted, weighted_sum}
use Rattle.surfaces.specs.Weights.{unit, is_coordinate, distance, weight, axis_weight, joint}
use Rattle.surfaces.specs.Surface.{weight_in, joint_in, joint_sum_in, rounded, estimate_in}
use Rattle.states.specs.States.{has, is_other, first_axis, check_axes, check_bits, check_state}
use Rattle.estimates.specs.Estimates.{check_forward, inside_at, first_outside, check_coordinates, check_estimate, estimate_in_unit, estimate}
use Rattle.estimates.specs.Finer.{old_unit, each_times}
use Rattle.tables.specs.Tables.{adopted}

-- One point on two axes, of coefficient 7: at the old coordinates 5,900 and 13,000 the estimate was 0, at 16 times these it is 1. One point on three axes, of
-- coefficient 22, at 5,000, 8,000 and 20,000: 0 and 1 too.
pub may_differ :
    (estimate_in_unit old_unit (adopted (sparse 2 0)) (pos 7 ∷ []) (5900 ∷ 13000 ∷ []) ≡ Ok (pos 0))
    × (estimate (adopted (sparse 2 0)) (pos 7 ∷ []) (each_times 16 (5900 ∷ 13000 ∷ [])) ≡ Ok (pos 1))
    × (estimate_in_unit old_unit (adopted (sparse 3 0)) (pos 22 ∷ []) (5000 ∷ 8000 ∷ 20000 ∷ []) ≡ Ok (pos 0))
    × (estimate (adopted (sparse 3 0)) (pos 22 ∷ []) (each_times 16 (5000 ∷ 8000 ∷ 20000 ∷ [])) ≡ Ok (pos 1))
unfolding old_unit each_times sum_to all choose vectors shell start points is_index indexed is_point ending rank digit position first_of number check_limits check_size check_shape points_of check_length mark_on level_on index_on block last_level level_of sum_at within level_at index_of index_at value_at first_failing total nearest_up nearest in_limit weighted weighted_sum unit is_coordinate distance weight axis_weight weight_in joint joint_in joint_sum_in rounded estimate_in has is_other first_axis check_axes check_bits check_state content_at check_forward inside_at first_outside check_coordinates check_estimate estimate_in_unit
may_differ = (refl, refl, refl, refl)
