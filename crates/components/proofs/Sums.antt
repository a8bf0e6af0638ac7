-- Coefficients of a sum are the sums of the coefficients, since the table of a set of axes is linear in the rates.
-- Assumes nothing.
use mathlib.Core.Path.{◌≡◌, ap, ◌∙◌, fun_ext}
use mathlib.Core.List.{List}
use Prim.Native.Nat.{ℕ}
use lib.IntN.{ℤ}
use lib.ListN.{length}
use Rattle.hierarchy.specs.Turns.{value_at, values_of}
use Rattle.hierarchy.specs.Sets.{table_of, every_axis}
use Rattle.hierarchy.proofs.Sums.{table_plus}
use Rattle.component_grids.specs.Component.{neighbour}
use Rattle.whole.specs.Accepted.{sums}
use Rattle.whole.proofs.Sums.{sums_held_at, values_plus}
use Rattle.components.specs.Components.{tops_in, grid_points, component_table}

-- Coefficients of a sum of two tables of one length are, place by place, the sums of theirs.
pub component_sum : (ls : List ℕ) (xs ys : List ℤ) → length xs ≡ length ys →
    component_table ls (sums xs ys) ≡ sums (component_table ls xs) (component_table ls ys)
unfolding component_table
component_sum ls xs ys e =
    let m = grid_points ls in
    let d = length ls in
    let nb = neighbour d (tops_in ls) in
    ap (λ (f : ℕ → ℤ). values_of m (table_of nb d every_axis f)) (fun_ext (sums_held_at xs ys e))
    ∙ ap (values_of m) (table_plus nb d every_axis (value_at xs) (value_at ys))
    ∙ values_plus m (table_of nb d every_axis (value_at xs)) (table_of nb d every_axis (value_at ys))
