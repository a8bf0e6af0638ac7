-- `evaluation::marked_table` meets its contract. The loop's invariant: the axes passed have their hats.
-- Assumes nothing.
use Rattle.std.proofs.Common.{◌≡◌, ℕ, ◌<◌, [], length, get_or}
use Rattle.numbering.specs.Point.{at}
use Rattle.evaluation.specs.Steps.{MarkedHats}
use Rattle.evaluation.proofs.marked_table.Given as goal

abbrev pub invariant-loop-t : goal.invariant-loop-t
invariant-loop-t l = (length l.hats ≡ 8) × ((k : ℕ) → k < l.t → MarkedHats (at l.coordinates k) (get_or l.hats k []))
