-- Of a checked file: the checked rates are those of its bytes.
-- Assumes nothing.
use Rattle.house_rates.specs.Held.{rates_of}
use Rattle.house_writer.proofs.filed_rates.CheckedRatesFiledRates.enough.Goals as goal

pub returns : goal.returns
unfolding rates_of
returns c = c.enough_again.ensures
