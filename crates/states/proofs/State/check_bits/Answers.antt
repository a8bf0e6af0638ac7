-- `State::check_bits` meets its contract: a one shifted by d is 2^d, and the one test compares the byte with it.
-- Assumes nothing.
use Prim.Native.Nat.{◌^◌}
use native.Mathlib.Omega.{arith}
use borrow.Author.Tests.{le-ltb, lt-ltb}
use Rattle.naturals.proofs.Shifts.{one_shifted}
use Rattle.states.specs.States.{check_bits}
use Rattle.states.proofs.State.check_bits.Goals as goal

pub returns-then-self-from : goal.returns-then-self-from
unfolding check_bits
returns-then-self-from c =
    let state = c.args.self in
    simp (le-ltb state.forward (2 ^ state.shape.axes) (omega (arith, one_shifted 32 state.shape.axes (omega arith))))

pub returns : goal.returns
unfolding check_bits
returns c =
    let state = c.args.self in
    simp (lt-ltb state.forward (2 ^ state.shape.axes) (omega (arith, one_shifted 32 state.shape.axes (omega arith))))
