-- `house_writer::put_rates` meets its contract. The loop's invariant is `Placed`, and the measure is the rates that are left.
-- Assumes nothing.
use lib.ListN.{length}
use Rattle.house_writer.proofs.Rates.{Placed}
use Rattle.house_writer.proofs.put_rates.Given as goal

abbrev pub invariant-loop-number : goal.invariant-loop-number
invariant-loop-number g l = let r = g.R.FiledRates in Placed (r.rates l.fn.rates) (r.rates l.left) l.initial.out l.out l.at

abbrev pub decreases-loop-number : goal.decreases-loop-number
decreases-loop-number g l = length (g.R.FiledRates.rates l.left)
