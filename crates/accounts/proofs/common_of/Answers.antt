-- `accounts::common_of` meets its contract: it adds what the definition adds.
-- Assumes nothing.
use Rattle.std.proofs.Common.{arith}
use Rattle.naturals.specs.Sum.{sum_to}
use Rattle.accounts.specs.Steps.{common_over}
use Rattle.accounts.proofs.common_of.Goals as goal

pub returns : goal.returns
unfolding common_over sum_to
returns c = omega (arith, c.above.ensures, c.above-2.ensures, c.above-3.ensures, c.above-4.ensures)
