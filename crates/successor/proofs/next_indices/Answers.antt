-- `successor::next_indices` meets its contract: each way out is one of `Indices`.
-- Assumes nothing.
use mathlib.Core.Path.{◌≡◌}
use Prim.Native.Nat.{suc, ◌*◌, ◌%◌, ◌^◌, ◌<◌}
use native.Mathlib.Omega.{arith}
use native.Mathlib.Numerals.{add-one}
use lib.ListN.{length, take, get_or}
use lib.Seq.{get_or-take, length-take-le}
use Rattle.numbering.specs.Point.{at}
use Rattle.successor.proofs.Indices.{turned_steps, turned_raised, turned_past, level_small, index_small, bound}
use Rattle.successor.proofs.next_indices.Goals.{In-loop-t}
use Rattle.successor.proofs.next_indices.Goals as goal

front : (c : In-loop-t) → length (take c.args.axes c.args.levels.now) ≡ c.args.axes
front c = length-take-le c.args.axes c.args.levels.now (omega (arith, c.requires.0, c.told-levels))

inside : (c : In-loop-t) → c.loop-t.t < c.args.axes
inside c = omega (arith, c.loop-t-test.true, front c)

-- the bound of the index at hand, as the code has it
limit : (c : In-loop-t) → 2 * 2 ^ get_or (take c.args.axes c.args.levels.now) c.loop-t.t 0 % 2 ^ 32 ≡ 2 ^ suc (at c.args.levels.now c.loop-t.t)
limit c =
    rw (get_or-take c.args.axes c.args.levels.now c.loop-t.t 0 (inside c))
    (bound c.requires.0 c.requires.1 c.loop-t.invariant (inside c))

pub overflow_add-raised : goal.overflow_add-raised
overflow_add-raised c =
    omega (arith, index_small c.requires.0 c.requires.1 c.loop-t.invariant (inside (goal.at.overflow_add-raised c).In-loop-t))

pub overflow_shl-level : goal.overflow_shl-level
overflow_shl-level c =
    let here = inside (goal.at.overflow_shl-level c).In-loop-t in
    rw (get_or-take c.args.axes c.args.levels.now c.loop-t.t 0 here) (omega (arith, level_small c.requires.0 c.requires.1 c.loop-t.invariant here))

pub returns-then-raised-level : goal.returns-then-raised-level
returns-then-raised-level c =
    let here = (goal.at.returns-then-raised-level c).In-loop-t in
    turned_raised c.requires.0 c.requires.1 c.loop-t.invariant (inside here) (omega (arith, limit here, c.if-raised-level.true))

pub loop-t-preserved : goal.loop-t-preserved
loop-t-preserved c =
    let here = (goal.at.loop-t-preserved c).In-loop-t in
    rw add-one (turned_steps c.requires.0 c.requires.1 c.loop-t.invariant (inside here) (omega (arith, limit here, c.if-raised-level.false)))

pub returns : goal.returns
returns c =
    turned_past c.requires.0 c.requires.1 c.loop-t.invariant
    (omega (arith, c.loop-t-test.false, length-take-le c.args.axes c.args.levels.now (omega (arith, c.requires.0, c.told-levels))))
