-- `house_numbers::long_number` meets its contract. The loop's invariant is `Gathered`.
-- Assumes nothing.
use lib.ListN.{drop}
use Rattle.house_numbers.proofs.Gathering.{Gathered}
use Rattle.house_numbers.proofs.long_number.Given as goal

abbrev pub invariant-loop-place : goal.invariant-loop-place
invariant-loop-place g l = Gathered l.bytes l.value l.place (drop l.place l.bytes)
