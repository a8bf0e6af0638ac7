-- `states::State::has_axis` meets its contract: a shift and a mask give the bit.
-- Assumes nothing.
use Rattle.states.proofs.Bits.{test_bit}
use Rattle.states.proofs.State.has_axis.Goals as goal

pub returns : goal.returns
returns c = test_bit c.args.self.forward c.args.t
