-- Of a table: five bytes for each rate are always enough.
-- Assumes nothing.
use native.Mathlib.Omega.{arith}
use Rattle.house_file.proofs.Lengths.{rates_most}
use Rattle.house_writer.proofs.filed_rates.TableRatesFiledRates.enough.Goals as goal

pub returns : goal.returns
returns c = omega (arith, rates_most c.args.self.rates.now)
