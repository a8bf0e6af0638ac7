-- `reports::contents::put_table` meets its contract: a shape that is refused, or the table of its points.
-- Assumes nothing.
use mathlib.Core.Path.{sym}
use Rattle.buffers.proofs.Puts.{put_as}
use Rattle.reports.proofs.Texts.{shape_refused}
use Rattle.reports.proofs.contents.put_table.Goals as goal

pub returns-in-Err : goal.returns-in-Err
returns-in-Err c =
    let a = c.args in
    put_as (shape_refused a.shape c.in-Err.why a.table.now (sym c.in-Err.ensures)) c.put_refused.ensures
