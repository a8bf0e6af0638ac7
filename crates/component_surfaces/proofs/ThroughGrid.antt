-- The surface of the coefficients of rates accepted on a component grid passes through every rate, and no other whole coefficients have such a surface. From the same of
-- any numbered points with a zero border, since positions are a numbering of the grid's points and levels of at most 8 have whole coordinates.
-- Assumes nothing.
use Rattle.std.specs.Prelude.{Ok}
use mathlib.Core.Path.{◌≡◌, ap, sym, ◌∙◌}
use mathlib.Core.List.{List}
use Prim.Native.Nat.{ℕ, suc, ◌^◌, ◌<◌}
use native.Mathlib.Omega.{arith}
use lib.IntN.{ℤ, pos, ◌*ℤ◌}
use lib.ListN.{length, get_or}
use lib.Seq.{ext_get_or}
use Rattle.hierarchy.specs.Turns.{value_at}
use Rattle.hierarchy.specs.Sets.{table_of, every_axis}
use Rattle.hierarchy.proofs.Values.{value_zero, value_suc, values_length, values_at}
use Rattle.numbered.specs.Neighbours.{neighbour}
use Rattle.component_grids.specs.Component.{place_at, level_at, component}
use Rattle.component_grids.specs.Component as grids
use Rattle.component_grids.proofs.Levels.{level_le}
use Rattle.component_grids.proofs.Numbering.{numbering}
use Rattle.interpolation.specs.Hats.{Hats}
use Rattle.surfaces.specs.Weights.{unit}
use Rattle.surfaces.specs.Surface.{coordinates_in, Exactly, exact_value_in}
use Rattle.surfaces.proofs.Unit.{unit_bits, unit_is, WholeCoordinates}
use Rattle.surfaces.proofs.Instance.{grid_weight, grid_same, hats_in}
use Rattle.surfaces.proofs.Interpolates.{surface_through_in, only_surface_in}
use Rattle.tables.specs.Tables.{times}
use Rattle.components.specs.Components.{tops_in, grid_points, check_grid, component_table}
use Rattle.components.specs.Accepted.{AcceptedOn}
use Rattle.components.proofs.Checked.{LevelsIn, levels_passed, grid_levels}

-- The grid of a list of top levels, as numbered points.
module _ (ls : List ℕ) where
  component_table_length : (rs : List ℤ) → length (component_table ls rs) ≡ grid_points ls
  unfolding component_table
  component_table_length rs = values_length (grid_points ls) _

  coefficient_at : (rs : List ℤ) (q : ℕ) → q < grid_points ls →
      value_at (component_table ls rs) (suc q)
      ≡ table_of (neighbour (component (length ls) (tops_in ls))) (length ls) every_axis (value_at rs) (suc q)
  unfolding component_table grids.neighbour
  coefficient_at rs q h = value_suc (component_table ls rs) q ∙ values_at (grid_points ls) _ q h

  levels_whole : LevelsIn ls → WholeCoordinates unit_bits (component (length ls) (tops_in ls))
  unfolding level_at
  levels_whole range p t p_in axis = omega (arith, level_le (tops_in ls t) (place_at (tops_in ls) p t), range.tops t)

  -- The points of a grid that passes have hat functions.
  pub component_hats : check_grid ls ≡ Ok tt →
      Hats (grid_points ls) (length ls) unit (neighbour (component (length ls) (tops_in ls))) (grid_weight unit (component (length ls) (tops_in ls)))
      (grid_same (component (length ls) (tops_in ls)))
  unfolding grid_points
  component_hats passed = hats_in unit (numbering (length ls) (tops_in ls)) unit_bits unit_is (levels_whole (levels_passed ls (grid_levels ls passed)))

module _ (ls : List ℕ) (rs : List ℤ) (a : AcceptedOn ls rs) where
  range : LevelsIn ls
  range = levels_passed ls (grid_levels ls a.grid)

  -- The surface passes through every rate, times 2 to the number of axes.
  pub surface_of_component : (q : ℕ) → q < grid_points ls →
      Exactly
      (exact_value_in unit (component (length ls) (tops_in ls)) (value_at (component_table ls rs)) (coordinates_in unit (component (length ls) (tops_in ls)) q))
      (times (length ls) (get_or rs q (pos 0)))
  unfolding times grid_points
  surface_of_component q h =
      surface_through_in unit unit_bits unit_is (numbering (length ls) (tops_in ls)) range.low (levels_whole ls range) (value_at (component_table ls rs)) (value_at rs) (value_zero rs)
      (coefficient_at ls rs) q h
      ∙ ap (λ (z : ℤ). z *ℤ pos (2 ^ length ls) *ℤ pos (unit ^ length ls)) (value_suc rs q)

  -- No other coefficients have such a surface.
  pub only_component_through : (xs : List ℤ) → length xs ≡ grid_points ls →
      ((q : ℕ) → q < grid_points ls →
      Exactly (exact_value_in unit (component (length ls) (tops_in ls)) (value_at xs) (coordinates_in unit (component (length ls) (tops_in ls)) q))
      (times (length ls) (get_or rs q (pos 0)))) →
      xs ≡ component_table ls rs
  unfolding times grid_points
  only_component_through xs long through =
      ext_get_or (pos 0) xs (component_table ls rs) (long ∙ sym (component_table_length ls rs))
      (λ i h. at_place i (omega arith))
    where
      at_place : (i : ℕ) → i < grid_points ls → get_or xs i (pos 0) ≡ get_or (component_table ls rs) i (pos 0)
      at_place i h =
          sym (value_suc xs i)
          ∙ only_surface_in unit unit_bits unit_is (numbering (length ls) (tops_in ls)) range.low (levels_whole ls range) (value_at xs) (value_at rs) (value_zero rs)
          (λ q lt. through q lt ∙ ap (λ (z : ℤ). z *ℤ pos (2 ^ length ls) *ℤ pos (unit ^ length ls)) (sym (value_suc rs q)))
          i h
          ∙ sym (coefficient_at ls rs i h)
          ∙ value_suc (component_table ls rs) i
