-- `written_numbers::put_number` meets its contract. The loop's invariant is `Grouped`, and the measure is what is left of the number.
-- Assumes nothing.
use Rattle.written_numbers.proofs.Groups.{Grouped}
use Rattle.written_numbers.proofs.put_number.Given as goal

abbrev pub invariant-loop-left : goal.invariant-loop-left
invariant-loop-left l = Grouped l.number l.initial.out l.place l.out l.left l.at

abbrev pub decreases-loop-left : goal.decreases-loop-left
decreases-loop-left l = l.left
