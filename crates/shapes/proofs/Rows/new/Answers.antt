-- `shapes::Rows::new` meets the invariant of its type: all entries of the three constants are tested.
-- Assumes nothing.
use Rattle.shapes.proofs.Binomials.{rows_hold}
use Rattle.shapes.proofs.Counts.{counts_hold}
use Rattle.shapes.proofs.Starts.{starts_hold}
use Rattle.shapes.proofs.Rows.new.Goals as goal

pub invariant_of-result : goal.invariant_of-result
invariant_of-result c = record { right = rows_hold; added = starts_hold; summed = counts_hold }
