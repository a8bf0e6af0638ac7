-- `Starts::back_from` meets its contract. The loop's invariant: the cursors before j are filled in.
-- Assumes nothing.
use Prim.Native.Nat.{◌+◌, ◌-◌}
use Rattle.numbering.specs.Point.{at}
use Rattle.cursors.specs.Steps.{Filled}
use Rattle.cursors.proofs.starts.Starts.back_from.Given as goal

abbrev pub invariant-loop-j : goal.invariant-loop-j
invariant-loop-j l = Filled (λ j. at l.self.places (l.sum + l.past - j)) 9 1 l.j l.cursors
