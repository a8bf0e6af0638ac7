-- `texts::lines::put_point` meets its contract: its four pieces are the line.
-- Assumes nothing.
use mathlib.Core.Path.{ap, ap₂, ◌∙◌}
use mathlib.Core.List.{List, ◌++◌}
use Prim.Native.Nat.{ℕ}
use native.Mathlib.Omega.{arith}
use mir.Syntax.{w64}
use mir.ValLaws.{to_z-of_z}
use Rattle.std.specs.Fmt as printed
use Rattle.texts.specs.Text.{space, line_feed, point_line}
use Rattle.buffers.proofs.Puts.{put_behind, put_as, put_length}
use Rattle.texts.proofs.Decimals.{printed_decimal, printed_signed}
use Rattle.texts.proofs.lines.put_point.Goals as goal

pub returns-clause-put : goal.returns-clause-put
unfolding point_line
returns-clause-put c =
    let a = c.args in
    let first = c.put_number-end.ensures.put in
    let second = put_behind first (omega arith) c.put-end.ensures in
    let third = put_behind second (omega (arith, put_length second)) c.put_number-end-2.ensures.put in
    let last = put_behind third (omega (arith, put_length third)) c.put.ensures in
    put_as
    (ap₂ (λ (p v : List ℕ). p ++ space ++ v ++ line_feed) (printed_decimal a.point c.ranges.point.fits) (ap printed.signed_decimal (to_z-of_z w64 a.value c.ranges.value) ∙ printed_signed a.value (omega (arith, c.ranges.value))))
    last
