use mathlib.Core.Path.{ap}
use native.Mathlib.Omega.{arith}
use borrow.Author.Rules.{rules}
use lib.IntN.{pos}
use lib.ListN.{get_or}
use mir.Syntax.{w64}
use mir.ValLaws.{to_z-of_z}
use Rattle.texts.specs.Text.{point_line}
use Rattle.buffers.proofs.Puts.{put_as}
use Rattle.texts.proofs.Listing.{listed_starts, listed_steps, listed_ends}
use Rattle.texts.proofs.lines.put_points.Goals as goal

pub loop-p-init : goal.loop-p-init
loop-p-init c = listed_starts

pub loop-p-preserved : goal.loop-p-preserved
loop-p-preserved c =
    let table = c.args.table.now in
    let p = c.loop-p.p in
    let line = c.put_point-end.ensures in
    listed_steps
    c.loop-p.invariant
    (omega arith)
    (omega arith)
    (put_as (ap (point_line p) (to_z-of_z w64 (get_or table p (pos 0)) (search rules))) line.put)
    (omega arith)

pub returns-clause-put : goal.returns-clause-put
returns-clause-put c = listed_ends c.loop-p.invariant (omega arith)
