-- What passed checks of a turn tell: a shape in range, no stray bit, a table of its points and an axis of it. And where all that holds they pass:
-- each check is one test of these.
-- Assumes nothing.
use Rattle.std.specs.Prelude.{Ok}
use mathlib.Core.Path.{◌≡◌}
use Prim.Native.Nat.{ℕ, ◌-◌, ◌^◌, ◌≤◌, ◌<◌}
use native.Mathlib.Omega.{arith}
use borrow.Author.Tests.{le-leb}
use Rattle.refusals.proofs.Passing.{first_passed, next_passed}
use Rattle.shapes.specs.Shapes.{check_axis, points_of}
use Rattle.shapes.proofs.Checked.{InRange, axis_in_range}
use Rattle.states.specs.declared.State.{State}
use Rattle.states.specs.States.{check_state}
use Rattle.states.proofs.Checked.{state_passed, state_passes}
use Rattle.turns.specs.Turns.{check_turn}

pub record MayTurn (s : State) (places axis : ℕ) : Type 0 where
  pub range : InRange s.shape
  pub few : s.forward < 2 ^ s.shape.axes
  pub long : places ≡ points_of s.shape
  pub first : 1 ≤ axis
  pub last : axis ≤ s.shape.axes

-- The place of the axis.
pub place_of : {s : State} {places axis : ℕ} → MayTurn s places axis → axis - 1 < s.shape.axes
place_of m = omega (arith, m.first, m.last)

pub turn_passed : (s : State) (places axis : ℕ) → check_turn s places axis ≡ Ok tt → MayTurn s places axis
unfolding check_turn
turn_passed s places axis e =
    let stands = state_passed s places (first_passed (check_state s places) (check_axis s.shape axis) e) in
    let one = axis_in_range s.shape axis (next_passed (check_state s places) (check_axis s.shape axis) e) in
    record {
      range = stands.range;
      few = stands.few;
      long = stands.long;
      first = one.0;
      last = one.1;
    }

pub may_turn : (s : State) (places axis : ℕ) → MayTurn s places axis → check_turn s places axis ≡ Ok tt
unfolding check_turn check_axis
may_turn s places axis m =
    rw (
      state_passes s places (record { range = m.range; few = m.few; long = m.long }),
      le-leb 1 axis m.first,
      le-leb axis s.shape.axes m.last,
    )
