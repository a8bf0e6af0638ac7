-- `lists::block` meets its contract: after each turn of the loop all runs up to the one with the digit 2j − 2 are done, and the next one has its left parents
-- at the points from number `near` on.
-- Assumes nothing.
use mathlib.Core.Path.{◌≡◌}
use Prim.Native.Nat.{◌+◌, ◌-◌, ◌*◌}
use Rattle.lists.proofs.Sums.{near_at}
use Rattle.lists.proofs.Blocks.{RunsDone}
use Rattle.lists.proofs.block.Given as goal

abbrev pub invariant-loop-j : goal.invariant-loop-j
invariant-loop-j g l =
    RunsDone g.D.Direction.ahead l.v l.first (2 * l.j - 1) (l.x + l.width) l.fn.table l.odd l.table
    × (l.near ≡ near_at l.v l.starts l.beyond (l.j - 1))
