-- A state and a table that pass the checks go on to a state and a table that pass them, turn by turn: a turn that was done can be taken back, so what it leaves
-- passes the checks of a turn; a refused one leaves all as it was.
-- Assumes nothing.
use Rattle.std.specs.Prelude.{Ok, Err}
use mathlib.Core.Path.{◌≡◌, refl}
use mathlib.Core.Bool.{not}
use mathlib.Core.List.{List, [], ◌∷◌}
use Prim.Native.Nat.{ℕ, ◌-◌}
use lib.IntN.{ℤ}
use lib.ListN.{length}
use Rattle.refusals.specs.declared.Refusal.TheVariants.{Contents, AlreadyForward, NotForward}
use Rattle.refusals.specs.Checks.{unless, ◌and_then◌, answer, Verdict}
use Rattle.refusals.proofs.Passing.{first_passed}
use Rattle.hierarchy.specs.declared.Turn.{Turn}
use Rattle.hierarchy.specs.declared.Turn.TheVariants.{Forward, Back}
use Rattle.shapes.specs.Shapes.{check_axis}
use Rattle.states.specs.declared.State.{State}
use Rattle.states.specs.After.{After, after, kept}
use Rattle.states.specs.States.{has, check_state}
use Rattle.grids.specs.Turned.{former_table}
use Rattle.turns.specs.Turns.{is_accepted, check_turn, forward_turn, back_turn}
use Rattle.turns.proofs.Checking.{MayTurn, may_turn}
use Rattle.turns.proofs.BothWays.{went_forward, went_back, forward_then_back, back_then_forward}
use Rattle.runs.specs.Runs.{carried_out, handed_on, run}

-- What may be turned passes the checks of the state and the table.
may_passes : (s : State) (places axis : ℕ) → MayTurn s places axis → check_state s places ≡ Ok tt
unfolding check_turn
may_passes s places axis m = first_passed (check_state s places) (check_axis s.shape axis) (may_turn s places axis m)

-- A call that leaves the table where it is refused, and what passes where it is done.
left_so : (s given : State) (xs zs : List ℤ) (v : Verdict) (x : After) → check_state s (length xs) ≡ Ok tt → x ≡ answer (kept xs) v (after (Ok given) zs) →
    ((next : State) (ys : List ℤ) → x ≡ after (Ok next) ys → check_state next (length ys) ≡ Ok tt) →
    check_state (handed_on s x.answer) (length x.table) ≡ Ok tt
left_so s given xs zs (Ok _) x e h done = rw h (done given zs h)
left_so s given xs zs (Err r) x e h done = rw h e

turn_keeps_passing : (call : Turn) (s : State) (xs : List ℤ) → check_state s (length xs) ≡ Ok tt →
    let x = carried_out call s xs in check_state (handed_on s x.answer) (length x.table) ≡ Ok tt
unfolding forward_turn back_turn
turn_keeps_passing (Forward axis) s xs e =
    left_so s _ xs _
    (check_turn s (length xs) axis
    and_then unless (not (has s.forward (axis - 1))) (AlreadyForward axis)
    and_then unless (is_accepted s.shape (axis - 1) xs) Contents)
    (forward_turn s xs axis) e refl
    (λ next ys done. may_passes next (length ys) axis (went_back next s ys xs axis (forward_then_back s next xs ys axis done)).0.may)
turn_keeps_passing (Back axis) s xs e =
    left_so s _ xs _
    (check_turn s (length xs) axis
    and_then unless (has s.forward (axis - 1)) (NotForward axis)
    and_then unless (is_accepted s.shape (axis - 1) (former_table s.shape (axis - 1) xs)) Contents)
    (back_turn s xs axis) e refl
    (λ next ys done. may_passes next (length ys) axis (went_forward next s ys xs axis (back_then_forward s next xs ys axis done)).0.may)

pub keeps_passing : (calls : List Turn) (s : State) (xs : List ℤ) → check_state s (length xs) ≡ Ok tt →
    check_state (run calls s xs).state (length (run calls s xs).table) ≡ Ok tt
unfolding run
keeps_passing [] s xs e = e
keeps_passing (call ∷ calls) s xs e =
    keeps_passing calls (handed_on s (carried_out call s xs).answer) (carried_out call s xs).table (turn_keeps_passing call s xs e)
