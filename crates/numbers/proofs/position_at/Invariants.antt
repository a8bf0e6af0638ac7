-- `numbers::position_at` meets its contract. The loop's invariant is `Packed`.
-- Assumes nothing.
use Rattle.std.proofs.Common.{length}
use Rattle.numbering.specs.Point.{at}
use Rattle.numbers.proofs.Packed.{Packed}
use Rattle.numbers.proofs.position_at.Given as goal

abbrev pub invariant-loop-bits : goal.invariant-loop-bits
invariant-loop-bits l = Packed (at l.vector.levels) (at l.indices) l.vector.axes (length l.yielded) l.position l.sum
