-- `successor::next_face` meets its contract: the number one higher is that of a point, or past the last.
-- Assumes nothing.
use Rattle.std.specs.Prelude.{Some}
use mathlib.Core.Path.{ap, ◌∙◌}
use native.Mathlib.Numerals.{add-one}
use native.Mathlib.Omega.{arith}
use Rattle.successor.proofs.OnFace.{marked_some, marked_none}
use Rattle.successor.proofs.next_face.Goals as goal

pub returns-then-border_points-next : goal.returns-then-border_points-next
returns-then-border_points-next c = marked_none _ _ _ (omega (arith, c.border_points.ensures, c.if-border_points-next.true))

pub returns : goal.returns
returns c =
    ap Some (rw (add-one c.args.number) at c.border_point.ensures)
    ∙ marked_some _ _ _ (omega (arith, c.border_points.ensures, c.if-border_points-next.false))
