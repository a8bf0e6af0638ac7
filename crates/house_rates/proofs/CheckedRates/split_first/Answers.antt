-- `CheckedRates::split_first` meets its contract: where none is counted, there is no rate.
-- Assumes nothing.
use Rattle.house_rates.specs.Rates.{read_rates}
use Rattle.house_rates.specs.Steps.{rates_read}
use Rattle.house_rates.specs.Held.{rates_of}
use Rattle.house_rates.proofs.CheckedRates.split_first.Goals as goal

pub returns-then-self-eq0 : goal.returns-then-self-eq0
unfolding rates_of rates_read read_rates
returns-then-self-eq0 c = rw c.if-self-eq0.true
