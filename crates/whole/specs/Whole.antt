-- Rates to coefficients whole, and coefficients to rates whole (document 01, "Parents and turns").
-- Assumes nothing.
use Rattle.std.specs.Prelude.{Bool, ◌&&◌, List, map, ℕ, zero, suc, eqb, ℤ, nat_abs, ◌-ℤ◌}
use Rattle.naturals.specs.Test.{all}
use Rattle.refusals.specs.declared.Refusal.TheVariants.{Contents}
use Rattle.refusals.specs.Checks.{unless, ◌and_then◌}
use Rattle.hierarchy.specs.Turns.{value_at, values_of, backward}
use Rattle.hierarchy.specs.Sets.{table_of, every_axis}
use Rattle.shapes.specs.declared.Shape.{Shape}
use Rattle.shapes.specs.Shapes.{points_of}
use Rattle.grids.specs.Grids.{neighbour, height}
use Rattle.states.specs.After.{Left, left_by}
use Rattle.tables.specs.Tables.{check_table, rate_at, check_rated, quotient}

-- The coefficients of rates: the table of the set of all axes.
unfoldable pub coefficients_of : Shape → List ℤ → List ℤ
coefficients_of s xs = values_of (points_of s) (table_of (neighbour s) s.axes every_axis (value_at xs))

-- Rates to coefficients: refused with 1, 2, 19, 3 or 4.
unfoldable pub rates_to_coefficients : Shape → List ℤ → Left
rates_to_coefficients s xs = left_by xs (check_rated s xs) (coefficients_of s xs)

-- A table turned back on each of the first k axes, the last of them first.
unfoldable pub back_all : Shape → ℕ → (ℕ → ℤ) → ℕ → ℤ
back_all s zero f = f
back_all s (suc k) f = back_all s k (backward (neighbour s) (height s) k f)

-- The rates that a table has, if any: turned back on every axis, and each value divided by 2^d.
unfoldable pub rates_of : Shape → List ℤ → List ℤ
rates_of s xs = map (quotient s.axes) (values_of (points_of s) (back_all s s.axes (value_at xs)))

-- Two lists hold the same number at a place: their difference is 0.
unfoldable pub same_at : List ℤ → List ℤ → ℕ → Bool
same_at xs ys p = eqb (nat_abs (value_at xs (suc p) -ℤ value_at ys (suc p))) 0

-- They are accepted rates, and the table is their coefficients. No other rates can have it (`refused_means`, `refused_where`), so one candidate decides.
unfoldable pub has_rates : Shape → List ℤ → Bool
has_rates s xs =
    all (rate_at (rates_of s xs)) (points_of s) && all (same_at (coefficients_of s (rates_of s xs)) xs) (points_of s)

-- Coefficients to rates: refused with 1, 2, 19, 3, or with 10 where no accepted rates have these coefficients.
unfoldable pub coefficients_to_rates : Shape → List ℤ → Left
coefficients_to_rates s xs = left_by xs (check_table s xs and_then unless (has_rates s xs) Contents) (rates_of s xs)
