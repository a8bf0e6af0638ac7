-- `CheckedRates::fill` meets its contract. The loop's invariant is `Filled`.
-- Assumes nothing.
use Rattle.house_rates.specs.Held.{rates_of}
use Rattle.house_rates.proofs.Filling.{Filled}
use Rattle.house_rates.proofs.CheckedRates.fill.Given as goal

abbrev pub invariant-loop-place : goal.invariant-loop-place
invariant-loop-place l = Filled (rates_of l.self) (rates_of l.rates) l.initial.place-items l.place-items l.place-index
