-- `numbers::indices_of` meets its contract. The loop's invariant is `Unpacked`.
-- Assumes nothing.
use Rattle.numbering.specs.Point.{at}
use Rattle.numbers.proofs.Unpacked.{Unpacked}
use Rattle.numbers.proofs.indices_of.Given as goal

abbrev pub invariant-loop-t : goal.invariant-loop-t
invariant-loop-t l = Unpacked (at l.vector.levels) l.position l.vector.axes l.indices l.t l.rest
