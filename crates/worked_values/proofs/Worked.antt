-- Every worked value of the list holds: each is what its definition computes to.
-- Assumes nothing.
use mathlib.Core.Path.{refl}
use lib.Count.{count_trailing_zeros}
use Rattle.naturals.specs.Sum.{sum_to}
use Rattle.naturals.specs.Test.{all}
use Rattle.naturals.specs.FirstFailing.{first_failing}
use Rattle.integers.specs.Half.{half, is_rate, in_limit, content_at}
use Rattle.integers.specs.Nearest.{nearest_up, nearest}
use Rattle.integers.specs.Total.{total}
use Rattle.numbering.specs.Binomial.{choose}
use Rattle.numbering.specs.Count.{vectors, shell, start, points}
use Rattle.numbering.specs.Point.{is_index, indexed, is_point}
use Rattle.numbering.specs.Number.{ending, rank, digit, position, first_of, number}
use Rattle.numbering.specs.Inverse.{block, last_level, level_of, sum_at, within, level_at, index_of, index_at}
use Rattle.numbering.specs.Parent.{is_border, twos, parent_level, parent_index, update}
use Rattle.hierarchy.specs.Turns.{value_at, values_of, sum_on, forward}
use Rattle.hierarchy.specs.Sets.{scaled, swept, table_of}
use Rattle.numbered.specs.Neighbours.{move, moved, beside, code_of}
use Rattle.numbered.specs.Neighbours as numbered_points
use Rattle.shapes.specs.Shapes.{check_limits, check_size, check_shape, points_of, check_length, counted}
use Rattle.grids.specs.Grids.{number_of, mark_on, level_on, index_on, neighbour}
use Rattle.interpolation.specs.Weighted.{weighted, weighted_sum}
use Rattle.surfaces.specs.Weights.{unit, is_coordinate, distance, weight, axis_weight, joint}
use Rattle.surfaces.specs.Surface.{weight_in, joint_in, joint_sum_in, rounded, estimate_in}
use Rattle.points.specs.Points.{check_lists, check_point}
use Rattle.numbers.specs.Numbers.{number_of_point}
use Rattle.states.specs.States.{has, is_other, first_axis, check_axes, check_bits, check_state}
use Rattle.tables.specs.Tables.{check_table, rate_at, check_rates, adopt}
use Rattle.whole.specs.Whole.{coefficients_of, rates_to_coefficients}
use Rattle.estimates.specs.Estimates.{check_forward, inside_at, first_outside, check_coordinates, check_estimate, estimate_in_unit}
use Rattle.faces.specs.Faces as all_faces
use Rattle.faces.specs.Packing as packing
use Rattle.faces.specs.Marked as marked
use Rattle.points.specs.Points.{mark_fits, fitting}
use Rattle.worked_values.specs.Worked.{AllHold, examples}

pub worked_values : AllHold examples
unfolding all_faces.faces all_faces.bit all_faces.bordered all_faces.borders all_faces.having all_faces.face_rank all_faces.last_mark all_faces.mark_of packing.inner_on packing.before packing.axis_of packing.packed marked.layer marked.border_points marked.face_start marked.in_face marked.border_number marked.borders_at marked.within_layer marked.number_at marked.mark_at marked.border_level_at marked.border_index_at mark_fits fitting sum_to all choose vectors shell start points is_index indexed is_point ending rank digit position first_of number check_limits check_size check_shape points_of check_length counted number_of mark_on level_on index_on check_lists check_point number_of_point half is_rate block last_level level_of sum_at within level_at index_of index_at is_border twos parent_level parent_index update count_trailing_zeros value_at values_of sum_on forward scaled swept table_of numbered_points.across move moved beside code_of numbered_points.neighbour neighbour first_failing check_table rate_at check_rates coefficients_of rates_to_coefficients total nearest_up nearest in_limit weighted weighted_sum unit is_coordinate distance weight axis_weight weight_in joint joint_in joint_sum_in rounded estimate_in has is_other first_axis check_axes check_bits check_state content_at adopt check_forward inside_at first_outside check_coordinates check_estimate estimate_in_unit
worked_values =
    (refl, (refl, (refl, (refl, (refl, (refl, (refl, (refl, ((refl, refl), ((refl, refl), ((refl, refl), ((refl, refl), ((refl, refl), ((refl, refl), ((refl, refl), (refl, (refl, (refl, (refl, (refl, (refl, ((refl, refl), ((refl, refl), ((refl, refl), (refl, ((refl, refl), (refl, (refl, (refl, (refl, ((refl, refl), (refl, ((refl, refl), (refl, ((refl, refl), (refl, ((refl, refl), (refl, ((refl, refl), ((refl, refl), (refl, (refl, (refl, ((refl, refl), (refl, ((refl, refl), tt))))))))))))))))))))))))))))))))))))))))))))))
