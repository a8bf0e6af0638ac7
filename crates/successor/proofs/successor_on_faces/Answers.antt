-- `successor::successor_on_faces` meets its contract: the check of the point decides the refusal, and what it passes is a point of the shape.
-- Assumes nothing.
use Rattle.std.specs.Prelude.{Ok}
use mathlib.Core.Path.{sym, ap, ◌∙◌}
use Rattle.numbering.specs.Point.{at}
use Rattle.shapes.proofs.Layers.{most_bordered}
use Rattle.points.proofs.Handed.{point_checked, handed}
use Rattle.points.proofs.Passed.{marks_by_value}
use Rattle.successor.specs.Successor.{successor_of}
use Rattle.successor.proofs.Sorts.{after_bordered}
use Rattle.successor.proofs.successor_on_faces.Goals as goal

pub next_marked-requires : goal.next_marked-requires
next_marked-requires c =
    let p = handed _ _ _ _ (sym c.in_ok-p.ensures) in
    let marks = ap at c.padded.ensures ∙ marks_by_value p.passes in
    (most_bordered p.passes.shape c.requires, p.passes.shape.top, rw (marks, p.levels, p.indices) p.passes.named.marked)

pub returns : goal.returns
unfolding successor_of
returns c =
    let given = sym c.in_ok-p.ensures in
    let p = handed _ _ _ _ given in
    let marks = ap at c.padded.ensures ∙ marks_by_value p.passes in
    rw (point_checked _ _ _ _ given, ← p.levels, ← p.indices, ← marks) (ap Ok (c.next_marked.ensures ∙ after_bordered c.args.shape c.requires _ _ _))
