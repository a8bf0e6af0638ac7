-- `house_rates::fill_short` meets its contract. The loop's invariant is `Filled`.
-- Assumes nothing.
use mathlib.Core.List.{map}
use lib.ListN.{drop}
use Rattle.house_numbers.specs.Numbers.{rate_of}
use Rattle.house_rates.proofs.Filling.{Filled}
use Rattle.house_rates.proofs.fill_short.Given as goal

abbrev pub invariant-loop-place : goal.invariant-loop-place
invariant-loop-place l = Filled (map rate_of l.bytes) (map rate_of (drop l.place l.bytes)) l.initial.table l.table l.place
