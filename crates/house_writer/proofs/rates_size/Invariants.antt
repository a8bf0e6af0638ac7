-- `house_writer::rates_size` meets its contract. The loop's invariant is `Sized`, and the measure is the rates that are left.
-- Assumes nothing.
use lib.ListN.{length}
use Rattle.house_writer.proofs.Rates.{Sized}
use Rattle.house_writer.proofs.rates_size.Given as goal

abbrev pub invariant-loop-number : goal.invariant-loop-number
invariant-loop-number g l = let r = g.R.FiledRates in Sized (r.rates l.fn.rates) (r.rates l.left) l.total

abbrev pub decreases-loop-number : goal.decreases-loop-number
decreases-loop-number g l = length (g.R.FiledRates.rates l.left)
