-- `reports::contents::put_coefficients` meets its contract: the refused line, or the first line and the lines of the coefficients, which have room.
-- Assumes nothing.
use mathlib.Core.Path.{ap, ◌∙◌}
use mathlib.Core.List.{◌++◌}
use Prim.Native.Nat.{ℕ}
use native.Mathlib.Omega.{arith}
use Rattle.texts.specs.Text.{heading_of, point_lines}
use Rattle.reports.specs.Report.{table_text}
use Rattle.buffers.proofs.Puts.{put_behind, put_as}
use Rattle.reports.proofs.Texts.{counted_points, refused_text, passed_text}
use Rattle.reports.proofs.contents.put_coefficients.Goals as goal

pub returns-in-Err : goal.returns-in-Err
returns-in-Err c =
    let xs = c.rates_to_coefficients.new.table in
    put_as (refused_text c.args.shape c.in-Err.why xs _ c.in-Err.ensures) c.put_refused.ensures

pub returns-in-Ok : goal.returns-in-Ok
unfolding table_text
returns-in-Ok c =
    let a = c.args in
    let xs = c.rates_to_coefficients.new.table in
    put_as
    (ap (λ (n : ℕ). heading_of a.shape.axes a.shape.level n ++ point_lines 0 xs) (counted_points a.shape a.count c.requires.0)
    ∙ passed_text a.shape xs _ c.in-Ok.ensures)
    (put_behind c.put_heading-end.ensures.put (omega arith) c.put_points.ensures.put)
