-- What the order of work leaves in a loaded table.
-- Assumes nothing.
use Rattle.std.specs.Prelude.{List, ◌≡◌, ℕ, ◌^◌, ◌≤◌, ℤ, pos, nat_abs, length}
use Rattle.hierarchy.specs.Turns.{value_at, values_of}
use Rattle.hierarchy.specs.Sets.{scaled}
use Rattle.hierarchy.specs.Work.{Item, all_worked}
use Rattle.splits.specs.Splits.{itself}
use Rattle.component_grids.specs.Component.{points_to, neighbour}
use Rattle.component_boxes.specs.Order.{order_of}

module _ (d : ℕ) (tops : ℕ → ℕ) where
  -- A loaded table: each value is a rate times 2^d.
  pub record Loaded (xs : List ℤ) : Type 0 where
    pub long : length xs ≡ points_to tops d
    pub rates : ℕ → ℤ
    pub border : rates 0 ≡ pos 0
    pub small : (p : ℕ) → nat_abs (rates p) ≤ 2 ^ 31
    pub holds : (p : ℕ) → value_at xs p ≡ scaled d rates p

  -- The table that a list of steps leaves, each made in place when its turn comes.
  unfoldable pub worked_in : List Item → List ℤ → List ℤ
  worked_in is xs = values_of (points_to tops d) (all_worked (neighbour d tops) itself is (value_at xs))

  -- The table that the steps of the whole grid leave, in the order of the splits.
  abbrev pub in_order : List ℤ → List ℤ
  in_order xs = worked_in (order_of d tops) xs
