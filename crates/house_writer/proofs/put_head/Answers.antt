-- `house_writer::put_head` meets its contract: d and n of a shape in range take one byte each.
-- Assumes nothing.
use native.Mathlib.Omega.{arith}
use Rattle.shapes.proofs.Checked.{passed_in_range}
use Rattle.buffers.proofs.Puts.{put_then, put_length}
use Rattle.house_file.proofs.Lengths.{one_byte}
use Rattle.house_writer.proofs.put_head.Goals as goal

pub put_number-level-requires : goal.put_number-level-requires
put_number-level-requires c =
    let d = c.args.shape.axes in
    omega (arith, one_byte d (passed_in_range c.args.shape c.requires.0).high)

pub put_number-requires : goal.put_number-requires
put_number-requires c =
    let s = c.args.shape in
    let range = passed_in_range s c.requires.0 in
    let put = c.put_number-level.ensures in
    omega (arith, one_byte s.axes range.high, one_byte s.level range.top, put.after, put_length put)

pub returns : goal.returns
returns c =
    put_then c.put_number-level.ensures c.put_number.ensures
