-- `tables::adopt` meets its contract: the checks that refuse answer in their order, and where all pass every axis is forward.
-- Assumes nothing.
use Rattle.std.proofs.Common.{sym, arith}
use Rattle.tables.proofs.Checking.{table_passed}
use Rattle.tables.proofs.adopt.Goals as goal

pub all_forward-requires : goal.all_forward-requires
all_forward-requires c = omega (arith, table_passed c.args.shape c.args.table.now (sym c.in_ok-check_table.ensures))
