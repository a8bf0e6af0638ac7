-- `evaluation::tabulated` meets its contract. The loop's invariant: the axes passed have their hats.
-- Assumes nothing.
use Rattle.std.proofs.Common.{◌≡◌, ℕ, ◌<◌, [], length, get_or}
use Rattle.numbering.specs.Point.{at}
use Rattle.evaluation.specs.Steps.{AxisHats}
use Rattle.evaluation.proofs.tabulated.Given as goal

abbrev pub invariant-loop-t : goal.invariant-loop-t
invariant-loop-t l = (length l.hats ≡ 8) × ((k : ℕ) → k < l.t → AxisHats (at l.coordinates k) (get_or l.hats k []))
