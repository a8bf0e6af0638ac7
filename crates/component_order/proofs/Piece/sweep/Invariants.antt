-- `Piece::sweep` meets its contract. The loop's invariant: the axes before `axis` are done on the box, and all else is as it was; when all are done, that is what
-- the steps in order leave.
-- Assumes nothing.
use Rattle.numbering.specs.Point.{at}
use Rattle.component_sweeps.specs.Steps.{tops_of}
use Rattle.component_order.specs.Steps.{MixedOn, SweptTo}
use Rattle.component_order.proofs.Piece.sweep.Given as goal

abbrev pub invariant-loop-axis : goal.invariant-loop-axis
invariant-loop-axis l =
    (mixed : MixedOn l.self l.initial.table) →
    SweptTo l.self.of.grid.now.axes (tops_of l.self.of.grid.now) (at l.self.of.levels) l.self.of.centre l.axis mixed.standing.rates l.initial.table l.table
