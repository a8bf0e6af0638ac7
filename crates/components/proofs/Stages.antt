-- Every half that the turns meet is whole, and every value stays within the content limit: a sum that is met has its doublings to come, and eight axes take a rate of
-- at most 2^31 to at most 2^47.
-- Assumes nothing.
use mathlib.Core.Path.{◌≡◌}
use mathlib.Core.Bool.{true}
use mathlib.Core.List.{List}
use Prim.Native.Nat.{ℕ, zero, suc, ◌^◌, ◌≤◌, ◌<◌}
use native.Mathlib.Omega.{arith}
use lib.IntN.{ℤ, pos, nat_abs}
use lib.ListN.{length, get_or}
use Rattle.naturals.proofs.Cases.{le_or_lt}
use Rattle.integers.specs.Half.{is_even, in_limit}
use Rattle.integers.proofs.Sizes.{rate_size}
use Rattle.hierarchy.specs.Turns.{value_at, sum_on}
use Rattle.hierarchy.specs.Sets.{every_axis}
use Rattle.hierarchy.proofs.Values.{value_zero, value_suc, value_past}
use Rattle.hierarchy.proofs.Closed.{halves_whole}
use Rattle.component_grids.specs.Component.{neighbour}
use Rattle.component_boxes.specs.Stages.{stages_of}
use Rattle.component_boxes.proofs.Limits.{stage_in_limit}
use Rattle.components.specs.Components.{tops_in, grid_points}
use Rattle.components.specs.Accepted.{AcceptedOn}
use Rattle.components.proofs.Checked.{levels_passed, grid_levels}

module _ (ls : List ℕ) (rs : List ℤ) where
  -- The sums that the turn of an axis meets, after the axes before it, are even.
  pub component_halves_whole : (k : ℕ) → k < length ls → (p : ℕ) →
      is_even (sum_on (neighbour (length ls) (tops_in ls)) k (stages_of (length ls) (tops_in ls) (value_at rs) k) p) ≡ true
  unfolding stages_of
  component_halves_whole k h p = halves_whole (neighbour (length ls) (tops_in ls)) (length ls) every_axis k (value_at rs) p h

  module _ (a : AcceptedOn ls rs) where
    pub rates_small : (p : ℕ) → nat_abs (value_at rs p) ≤ 2 ^ 31
    rates_small zero = rw (value_zero rs) (omega arith)
    rates_small (suc p) =
        le_or_lt (grid_points ls) p
        (λ past. rw (value_past rs (suc p) (omega (arith, a.long))) (omega arith))
        (λ h. rw (value_suc rs p) (rate_size (get_or rs p (pos 0)) (a.each p h)))

    -- Every value is within the content limit after each of the axes.
    pub component_in_limit : (k : ℕ) → k ≤ length ls → (p : ℕ) → in_limit (stages_of (length ls) (tops_in ls) (value_at rs) k p) ≡ true
    component_in_limit =
        stage_in_limit (length ls) (tops_in ls) (value_at rs) (levels_passed ls (grid_levels ls a.grid)).high rates_small
