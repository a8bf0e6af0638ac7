-- `Starts::of` meets its contract. The loop's invariant: the starts of the sums below s are filled in.
-- Assumes nothing.
use Prim.Native.Nat.{◌+◌}
use Rattle.numbering.specs.Count.{start}
use Rattle.cursors.specs.Steps.{Filled}
use Rattle.cursors.proofs.starts.Starts.of.Given as goal

abbrev pub invariant-loop-s : goal.invariant-loop-s
invariant-loop-s l = Filled (λ s. l.facet.base + start l.facet.axes s) 10 0 l.s l.places
