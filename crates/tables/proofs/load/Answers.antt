-- `tables::load` meets its contract: the check refuses, or every rate is scaled.
-- Assumes nothing.
use Rattle.std.proofs.Common.{sym, arith}
use Rattle.tables.proofs.Checking.{rated_opens, rated_passes}
use Rattle.tables.proofs.load.Goals as goal

pub invariant_of-factor : goal.invariant_of-factor
invariant_of-factor c =
    record { few = omega (arith, rated_opens c.args.shape c.args.table.now (sym c.in_ok-check_rated.ensures)) }

pub scale-requires : goal.scale-requires
scale-requires c = rated_passes c.args.shape c.args.table.now (sym c.in_ok-check_rated.ensures)
