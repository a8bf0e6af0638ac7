-- Worked values on component grids, by computing: tables of the manual's section 18 and others, what is refused, and the order of work on three points in a row and
-- three by three.
-- Assumes nothing.
use Rattle.std.specs.Prelude.{Ok, Err}
use mathlib.Core.List.{[], ◌∷◌}
use mathlib.Core.Path.{◌≡◌, refl}
use lib.Count.{count_trailing_zeros}
use lib.IntN.{pos, negsuc}
use Rattle.naturals.specs.Sum.{sum_to, prod_to}
use Rattle.naturals.specs.Test.{all}
use Rattle.naturals.specs.FirstFailing.{first_failing}
use Rattle.refusals.specs.declared.Refusal.TheVariants.{TooManyPoints, Rate}
use Rattle.integers.specs.Half.{half, is_rate}
use Rattle.numbering.specs.Parent.{is_border, twos, parent_level, parent_index, update}
use Rattle.hierarchy.specs.Turns.{value_at, values_of, sum_on, forward}
use Rattle.hierarchy.specs.Sets.{scaled, swept, table_of}
use Rattle.numbered.specs.Neighbours.{move, moved, beside, code_of}
use Rattle.numbered.specs.Neighbours as numbered_points
use Rattle.component_grids.specs.Component.{across, across_on, points_to, place, share, position, place_at, level_at, index_at, neighbour}
use Rattle.states.specs.After.{left}
use Rattle.tables.specs.Tables.{rate_at, check_rates}
use Rattle.components.specs.Components.{low_at, check_levels, grid_points, check_grid, check_component, component_table, component_coefficients}
use Prim.Native.Nat.{ℕ}
use Rattle.numbering.specs.Point.{at}
use Rattle.hierarchy.specs.Work.{Item}
use Rattle.splits.specs.Splits.{steps_at, cut}
use Rattle.component_boxes.specs.Order.{widest, middle_of, half_of, away, order_from, order_in, half_span, centre, order_of}

-- One axis of top level 1; two axes of top levels 1 and 0, which have the same three points in the unit 4; two of top level 1. A number that is no rate, with its
-- position. A grid of 511 × 127 points, which is refused before its table is looked at.
pub worked_components :
    (component_coefficients (1 ∷ []) (pos 5 ∷ pos 3 ∷ pos 7 ∷ []) ≡ left (Ok tt) (pos 7 ∷ pos 6 ∷ pos 11 ∷ []))
    × (component_coefficients (1 ∷ 0 ∷ []) (pos 5 ∷ pos 3 ∷ pos 7 ∷ []) ≡ left (Ok tt) (pos 14 ∷ pos 12 ∷ pos 22 ∷ []))
    × (component_coefficients (1 ∷ 1 ∷ []) (pos 0 ∷ pos 2 ∷ pos 0 ∷ pos 3 ∷ pos 4 ∷ pos 5 ∷ pos 0 ∷ pos 6 ∷ pos 0 ∷ [])
    ≡ left (Ok tt) (negsuc 5 ∷ pos 0 ∷ negsuc 9 ∷ pos 4 ∷ pos 16 ∷ pos 12 ∷ negsuc 13 ∷ pos 16 ∷ negsuc 17 ∷ []))
    × (component_coefficients (1 ∷ []) (pos 5 ∷ pos 2147483648 ∷ pos 7 ∷ []) ≡ left (Err (Rate 1)) (pos 5 ∷ pos 2147483648 ∷ pos 7 ∷ []))
    × (component_coefficients (8 ∷ 6 ∷ []) [] ≡ left (Err TooManyPoints) [])
unfolding sum_to prod_to all first_failing half is_rate is_border twos parent_level parent_index update count_trailing_zeros value_at values_of sum_on forward scaled swept table_of numbered_points.across move moved beside code_of numbered_points.neighbour across across_on points_to place share position place_at level_at index_at neighbour rate_at check_rates low_at check_levels grid_points check_grid check_component component_table component_coefficients
worked_components = (refl, refl, refl, refl, refl)

-- The step of axis a (from 0) at code p, which is position p − 1.
abbrev step : ℕ → ℕ → Item
step a p = record { stage = a; point = p }

pub orders :
    (order_of 1 (at (1 ∷ [])) ≡ step 0 1 ∷ step 0 3 ∷ step 0 2 ∷ [])
    × (order_of 2 (at (1 ∷ 1 ∷ [])) ≡ step 0 4 ∷ step 0 1 ∷ step 1 1 ∷ step 0 7 ∷ step 1 7 ∷ step 1 4 ∷ step 0 6 ∷ step 0 3 ∷ step 1 3 ∷ step 0 9 ∷ step 1 9 ∷ step 1 6 ∷ step 0 5 ∷ step 0 2 ∷ step 1 2 ∷ step 0 8 ∷ step 1 8 ∷ step 1 5 ∷ [])
unfolding prod_to update steps_at cut across across_on points_to widest middle_of half_of away order_from order_in half_span centre order_of
orders = (refl, refl)
