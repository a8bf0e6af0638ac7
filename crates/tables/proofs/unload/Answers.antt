-- `tables::unload` meets its contract: the checks that refuse answer in their order, and where all pass every value is divided.
-- Assumes nothing.
use Rattle.tables.proofs.unload.Goals as goal

pub invariant_of-factor : goal.invariant_of-factor
invariant_of-factor c = record { few = rw c.in_ok-checked.ensures.state at c.in_ok-checked.checked.few }
