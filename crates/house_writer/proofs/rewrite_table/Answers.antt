-- `house_writer::rewrite_table` meets its contract: where the reader's checks pass, the form of what is read is put.
-- Assumes nothing.
use mathlib.Core.Path.{sym}
use Rattle.house_file.proofs.Accepting.{table_fitted}
use Rattle.house_writer.proofs.rewrite_table.Goals as goal

pub put_file-requires : goal.put_file-requires
put_file-requires c = let a = c.args in (table_fitted _ a.shape a.rest.now _ _ (sym c.in_ok-rates.ensures)).shaped
