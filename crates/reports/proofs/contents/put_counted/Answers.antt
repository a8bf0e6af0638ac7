-- `reports::contents::put_counted` meets its contract: too few places are refused, and else as many are lent as there are points.
-- Assumes nothing.
use mathlib.Core.Path.{◌∙◌}
use native.Mathlib.Omega.{arith}
use Rattle.buffers.proofs.Puts.{put_as}
use Rattle.std.proofs.lemmas.Slice.{between_from_start}
use Rattle.reports.proofs.Texts.{counted_passed, counted_points, short_refused, prefix_text}
use Rattle.reports.proofs.contents.put_counted.Goals as goal

pub returns-in_default : goal.returns-in_default
returns-in_default c =
    let a = c.args in
    let few = c.in_default.ensures.lookup.0 in
    put_as
    (short_refused a.shape a.table.now (counted_passed a.shape a.count c.requires.0) (omega (arith, counted_points a.shape a.count c.requires.0, few)))
    c.put_refused.ensures

pub returns : goal.returns
returns c =
    let a = c.args in
    let lent = c.in-Some.ensures.lookup.0.2 ∙ between_from_start a.table.now a.count in
    put_as (prefix_text a.shape a.count a.table.now c.requires.0) (rw lent at c.put_coefficients.ensures)
