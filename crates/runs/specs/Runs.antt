-- A list of forward and back calls (document 01, "A run of turns"): each is handed the table, and the state that the call before it answered or, if that was
-- refused, the state which that one was handed. The calls are the very definitions of the turns.
-- Assumes nothing.
use Rattle.refusals.specs.Checks.{Verdict}
use Rattle.refusals.specs.declared.Refusal.{Refusal}
use Rattle.std.specs.Prelude.{List, [], ◌∷◌, ℤ, Result, Ok, Err}
use Rattle.hierarchy.specs.declared.Turn.{Turn}
use Rattle.hierarchy.specs.declared.Turn.TheVariants.{Forward, Back}
use Rattle.states.specs.declared.State.{State}
use Rattle.states.specs.After.{After}
use Rattle.turns.specs.Turns.{forward_turn, back_turn}

-- One call.
abbrev pub carried_out : Turn → State → List ℤ → After
carried_out (Forward axis) s xs = forward_turn s xs axis
carried_out (Back axis) s xs = back_turn s xs axis

-- The state that the next call is handed.
abbrev pub handed_on : State → Result State Refusal → State
handed_on s (Ok next) = next
handed_on s (Err r) = s

-- Passed, or refused with this number and place.
abbrev pub verdict_of : Result State Refusal → Verdict
verdict_of (Ok next) = Ok tt
verdict_of (Err r) = Err r

-- What a run leaves: the answers in order, the state, and the table.
pub record Ran : Type 0 where
  pub answers : List Verdict
  pub state : State
  pub table : List ℤ

abbrev pub answering : Verdict → Ran → Ran
answering v r = record { answers = v ∷ r.answers; state = r.state; table = r.table }

unfoldable pub run : List Turn → State → List ℤ → Ran
run [] s xs = record { answers = []; state = s; table = xs }
run (call ∷ calls) s xs =
    answering (verdict_of (carried_out call s xs).answer)
    (run calls (handed_on s (carried_out call s xs).answer) (carried_out call s xs).table)
