-- Rates to coefficients on component grids (document 02, c). A grid is a list of top levels, one for each axis; axes count from 0 here.
-- Assumes nothing.
use Rattle.std.specs.Prelude.{Bool, ◌&&◌, List, ℕ, leb, eqb, ℤ, length}
use Rattle.naturals.specs.Test.{all}
use Rattle.refusals.specs.declared.Refusal.TheVariants.{Axes, Level, TableLength, TooManyPoints}
use Rattle.refusals.specs.Checks.{unless, ◌and_then◌, Verdict}
use Rattle.numbering.specs.Point.{at}
use Rattle.hierarchy.specs.Turns.{value_at, values_of}
use Rattle.hierarchy.specs.Sets.{table_of, every_axis}
use Rattle.component_grids.specs.Component.{points_to, neighbour}
use Rattle.shapes.specs.Shapes.{most_points}
use Rattle.states.specs.After.{Left, left_by}
use Rattle.tables.specs.Tables.{check_rates}

-- The top level of an axis.
abbrev pub tops_in : List ℕ → ℕ → ℕ
tops_in ls = at ls

-- The top level of axis t is at most 8.
unfoldable pub low_at : List ℕ → ℕ → Bool
low_at ls t = leb (tops_in ls t) 8

-- A list of 1 to 8 top levels, else refused with 1, each 0 to 8, else with 2.
unfoldable pub check_levels : List ℕ → Verdict
check_levels ls = unless (leb 1 (length ls) && leb (length ls) 8) Axes and_then unless (all (low_at ls) (length ls)) Level

-- The grid's number of points.
unfoldable pub grid_points : List ℕ → ℕ
grid_points ls = points_to (tops_in ls) (length ls)

-- A grid of more than 32,768 points is refused with 19, after 1 and 2.
unfoldable pub check_grid : List ℕ → Verdict
check_grid ls = check_levels ls and_then unless (leb (grid_points ls) most_points) TooManyPoints

-- A table of rates handed in with a grid: then refused with 3, by the grid's own number of points, or with 4 and the smallest position that holds no rate.
unfoldable pub check_component : List ℕ → List ℤ → Verdict
check_component ls xs = check_grid ls and_then unless (eqb (length xs) (grid_points ls)) TableLength and_then check_rates xs

-- The coefficients: each rate times 2 to the number of axes, then every axis turned forward whole by document 01's rule, smallest axis first.
unfoldable pub component_table : List ℕ → List ℤ → List ℤ
component_table ls xs =
    values_of (grid_points ls) (table_of (neighbour (length ls) (tops_in ls)) (length ls) every_axis (value_at xs))

-- Rates to coefficients on a component grid: refused with 1, 2, 19, 3 or 4.
unfoldable pub component_coefficients : List ℕ → List ℤ → Left
component_coefficients ls xs = left_by xs (check_component ls xs) (component_table ls xs)
