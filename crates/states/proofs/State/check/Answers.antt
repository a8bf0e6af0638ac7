-- `State::check` meets its contract: what passed says that no bit is set above the axes.
-- Assumes nothing.
use Rattle.std.proofs.Common.{sym}
use Rattle.states.proofs.Checked.{few_bits}
use Rattle.states.proofs.State.check.Goals as goal

pub invariant_of-result-clause-bits : goal.invariant_of-result-clause-bits
invariant_of-result-clause-bits c = few_bits c.args.self (sym c.in_ok-check_bits.ensures)
