-- What the call answers and leaves, step by step as the code goes: what the check refuses is refused; and accepted rates, each times 2 to the number of axes, are a
-- loaded table, in which work in the order leaves the coefficients, since it leaves what whole-axis sweeps do.
-- Assumes nothing.
use Rattle.std.specs.Prelude.{Err}
use mathlib.Core.Path.{◌≡◌, ap, ap₂, sym, subst, ◌∙◌, fun_ext}
use mathlib.Core.List.{List, map}
use Prim.Native.Nat.{ℕ, ◌^◌}
use lib.IntN.{ℤ, pos, zero-*ℤ}
use lib.ListN.{length, length-map}
use Rattle.refusals.specs.declared.Refusal.{Refusal}
use Rattle.hierarchy.specs.Turns.{value_at, values_of}
use Rattle.hierarchy.specs.Sets.{scaled}
use Rattle.hierarchy.specs.Work.{all_worked}
use Rattle.hierarchy.proofs.Values.{value_zero, value_mapped}
use Rattle.splits.specs.Splits.{itself}
use Rattle.component_grids.specs.Component.{points_to, neighbour}
use Rattle.component_boxes.specs.Order.{order_of}
use Rattle.component_boxes.proofs.Leaves.{order_leaves}
use Rattle.component_sweeps.specs.declared.grid.Layout.{Layout}
use Rattle.component_sweeps.specs.Steps.{tops_of}
use Rattle.component_order.specs.InOrder.{Loaded, worked_in, in_order}
use Rattle.states.specs.After.{left}
use Rattle.tables.specs.Tables.{times}
use Rattle.components.specs.Components.{tops_in, grid_points, component_table, check_component, component_coefficients}
use Rattle.components.specs.Steps.{LaidOut}
use Rattle.components.specs.Accepted.{AcceptedOn}
use Rattle.components.proofs.Checked.{LevelsIn, levels_passed, grid_levels}
use Rattle.components.proofs.Stages.{rates_small}

-- What the check refuses, the call does: it leaves the list as it was.
pub component_refused : (ls : List ℕ) (xs : List ℤ) (r : Refusal) → check_component ls xs ≡ Err r → left (Err r) xs ≡ component_coefficients ls xs
unfolding component_coefficients
component_refused ls xs r e = rw e

-- A rate times 2^d at each place.
loaded_at : (d : ℕ) (xs : List ℤ) (p : ℕ) → value_at (map (times d) xs) p ≡ scaled d (value_at xs) p
unfolding times scaled
loaded_at d xs p = value_mapped (times d) xs (zero-*ℤ (pos (2 ^ d))) p

module _ (ls : List ℕ) (xs : List ℤ) (a : AcceptedOn ls xs) where
  range : LevelsIn ls
  range = levels_passed ls (grid_levels ls a.grid)

  loaded : Loaded (length ls) (tops_in ls) (map (times (length ls)) xs)
  unfolding grid_points
  loaded =
      record {
        long = length-map xs (times (length ls)) ∙ a.long;
        rates = value_at xs;
        border = value_zero xs;
        small = rates_small ls xs a;
        holds = loaded_at (length ls) xs;
      }

  -- Work in the order of the splits leaves the numbers of whole-axis sweeps.
  pub component_in_order : in_order (length ls) (tops_in ls) (map (times (length ls)) xs) ≡ component_table ls xs
  unfolding worked_in component_table grid_points
  component_in_order =
      let d = length ls in
      let tops = tops_in ls in
      ap (λ (f : ℕ → ℤ). values_of (points_to tops d) (all_worked (neighbour d tops) itself (order_of d tops) f)) (fun_ext (loaded_at d xs))
      ∙ ap (values_of (points_to tops d)) (order_leaves d tops range.low (value_at xs) (value_zero xs))

  -- In the layout of the grid.
  module _ (g : Layout) (out : LaidOut ls g) where
    pub may_work : Loaded g.axes (tops_of g) (map (times (length ls)) xs)
    may_work =
        subst (λ (tops : ℕ → ℕ). Loaded g.axes tops (map (times (length ls)) xs)) (sym out.tops)
        (subst (λ (d : ℕ). Loaded d (tops_in ls) (map (times (length ls)) xs)) (sym out.axes) loaded)

    pub work_ends : in_order g.axes (tops_of g) (map (times (length ls)) xs) ≡ component_table ls xs
    work_ends =
        ap₂ (λ (d : ℕ) (tops : ℕ → ℕ). in_order d tops (map (times (length ls)) xs)) out.axes out.tops ∙ component_in_order
