-- `sweeps::lower` meets its contract: with a zero border the table is one face, which ends with its last point.
-- Assumes nothing.
use mathlib.Core.Path.{sym, ◌∙◌}
use mathlib.Core.Bool.{true}
use native.Mathlib.Omega.{arith}
use Rattle.lists.specs.Lists.{whole_turn}
use Rattle.sweeps.proofs.Faces.{all_turned, all_odds, all_worked}
use Rattle.sweeps.proofs.lower.Goals as goal

pub lower_face-requires : goal.lower_face-requires
lower_face-requires c =
    let face = c.whole.ensures in
    let last = c.last-last.ensures in
    ((rw face.0 c.requires.0, λ code. omega (arith, c.requires.1 code)), record { axes = last.0 ∙ sym face.1; sum = rw face.0 last.1; rank = rw (face.0, face.1) last.2 })

pub returns-clause-walked : goal.returns-clause-walked
returns-clause-walked c =
    let face = c.whole.ensures in
    rw (face.0, face.1, face.2) at c.lower_face.ensures.walked ∙ all_worked c.args.line c.if-line.false c.args.table.now c.requires.0 true c.args.table.now

pub returns-clause-turned : goal.returns-clause-turned
unfolding whole_turn
returns-clause-turned c =
    let face = c.whole.ensures in
    rw (face.0, face.1, face.2) at c.lower_face.ensures.turned ∙ all_turned c.args.line c.if-line.false c.args.table.now c.requires.0 true

pub returns-clause-odds : goal.returns-clause-odds
returns-clause-odds c =
    let face = c.whole.ensures in
    all_odds c.args.line c.if-line.false c.args.table.now c.requires.0 c.args.table.now c.lower_face.result
    (rw (face.0, face.1, face.2) at c.lower_face.ensures.odds)
