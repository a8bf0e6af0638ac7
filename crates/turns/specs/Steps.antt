-- The steps of a turn, in either direction: forward (true) or back. A turn that is tried is carried out where it is accepted, else the table is left as it was.
-- Assumes nothing.
use Rattle.refusals.specs.declared.Refusal.{Refusal}
use Rattle.std.specs.Prelude.{Bool, true, false, List, ℕ, ◌-◌, ℤ, if◌then◌else◌, Result, Ok, Err}
use Rattle.refusals.specs.Checks.{answer}
use Rattle.shapes.specs.declared.Shape.{Shape}
use Rattle.grids.specs.Turned.{turned_table, former_table}
use Rattle.states.specs.declared.State.{State}
use Rattle.states.specs.After.{After}
use Rattle.states.specs.States.{toggled}
use Rattle.turns.specs.Turns.{is_accepted, check_waits, forward_turn, back_turn}

-- Whether it was carried out, and the table that it left.
pub record Tried : Type 0 where
  pub done : Bool
  pub table : List ℤ

abbrev pub tried : Bool → List ℤ → Tried
tried done xs = record { done = done; table = xs }

unfoldable pub forward_tried : Shape → ℕ → List ℤ → Tried
forward_tried s t xs = if is_accepted s t xs then tried true (turned_table s t xs) else tried false xs

unfoldable pub back_tried : Shape → ℕ → List ℤ → Tried
back_tried s t xs =
    if is_accepted s t (former_table s t xs) then tried true (former_table s t xs) else tried false xs

abbrev pub tried_on : Bool → Shape → ℕ → List ℤ → Tried
tried_on true s t xs = forward_tried s t xs
tried_on false s t xs = back_tried s t xs

-- The state that a turn leaves: the bit of its axis is changed; refused where the axis does not wait for it.
unfoldable pub marked_as : Bool → State → ℕ → Result State Refusal
marked_as ahead s axis = answer Err (check_waits ahead s axis) (Ok (toggled s (axis - 1)))

-- The whole turn, as the two definitions have it.
abbrev pub turn_on : Bool → State → List ℤ → ℕ → After
turn_on true s xs axis = forward_turn s xs axis
turn_on false s xs axis = back_turn s xs axis
