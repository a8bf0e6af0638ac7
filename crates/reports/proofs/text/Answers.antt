-- `reports::text` meets its contract: what the reader leaves leads to the report of the file's bytes, and there is room for it.
-- Assumes nothing.
use native.Mathlib.Omega.{arith}
use Rattle.buffers.proofs.Puts.{put_as}
use Rattle.reports.proofs.Texts.{put_whole}
use Rattle.reports.proofs.Accepted.{held_report, refused_report, report_length}
use Rattle.reports.proofs.text.Goals as goal

pub returns-in-Err : goal.returns-in-Err
returns-in-Err c =
    let bytes = c.args.bytes.now in
    let whole =
    put_whole
    (put_as (refused_report bytes _ (omega arith) c.in-Err.why c.read.new.table c.in-Err.ensures) c.put_refused.ensures)
    (omega (arith, report_length bytes)) in
    record { put = whole.0; out_after = whole.1.0; prefix_len = whole.1.1 }

pub returns-in-Ok : goal.returns-in-Ok
returns-in-Ok c =
    let bytes = c.args.bytes.now in
    let whole =
    put_whole
    (put_as (held_report bytes _ (omega arith) c.in-Ok.shape c.read.new.table c.in-Ok.ensures) c.put_table.ensures)
    (omega (arith, report_length bytes)) in
    record { put = whole.0; out_after = whole.1.0; prefix_len = whole.1.1 }
