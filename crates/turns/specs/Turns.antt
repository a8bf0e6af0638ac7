-- What a turn answers and what it leaves in the table (document 01, "Parents and turns" and the two tables of refusals).
-- Assumes nothing.
use Rattle.std.specs.Prelude.{Bool, true, false, not, List, ℕ, ◌-◌, ℤ, length, Ok}
use Rattle.refusals.specs.declared.Refusal.TheVariants.{Contents, AlreadyForward, NotForward}
use Rattle.refusals.specs.Checks.{unless, ◌and_then◌, answer, Verdict}
use Rattle.hierarchy.specs.Turns.{value_at, accepted}
use Rattle.shapes.specs.Shapes.{points_of, check_axis}
use Rattle.shapes.specs.declared.Shape.{Shape}
use Rattle.grids.specs.Grids.{neighbour}
use Rattle.grids.specs.Turned.{turned_table, former_table}
use Rattle.states.specs.declared.State.{State}
use Rattle.states.specs.After.{After, after, kept}
use Rattle.states.specs.States.{has, marked, cleared, check_state}

-- The forward turn on place t is accepted: every sum is even, and all values before and after are within the content limit.
unfoldable pub is_accepted : Shape → ℕ → List ℤ → Bool
is_accepted s t xs = accepted (neighbour s) (points_of s) t (value_at xs)

-- A state, a table of that many places and an axis: refused with 1, 2, 14, 19, 3 or 5.
unfoldable pub check_turn : State → ℕ → ℕ → Verdict
check_turn s places axis = check_state s places and_then check_axis s.shape axis

-- An axis waits for a turn: forward (true), refused with 15 where it is forward already; back, with 16 where it is not forward.
abbrev pub check_waits : Bool → State → ℕ → Verdict
check_waits true s axis = unless (not (has s.forward (axis - 1))) (AlreadyForward axis)
check_waits false s axis = unless (has s.forward (axis - 1)) (NotForward axis)

-- Forward on an axis: then 15 where it is forward already, and 10 where the turn is not accepted.
unfoldable pub forward_turn : State → List ℤ → ℕ → After
forward_turn s xs axis =
    answer (kept xs)
    (check_turn s (length xs) axis
    and_then check_waits true s axis
    and_then unless (is_accepted s.shape (axis - 1) xs) Contents)
    (after (Ok (marked s (axis - 1))) (turned_table s.shape (axis - 1) xs))

-- Back on an axis: then 16 where it is not forward, and 10 where no accepted forward turn leads to the table.
unfoldable pub back_turn : State → List ℤ → ℕ → After
back_turn s xs axis =
    answer (kept xs)
    (check_turn s (length xs) axis
    and_then check_waits false s axis
    and_then unless (is_accepted s.shape (axis - 1) (former_table s.shape (axis - 1) xs)) Contents)
    (after (Ok (cleared s (axis - 1))) (former_table s.shape (axis - 1) xs))
