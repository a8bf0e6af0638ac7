-- `sweeps::raise` meets its contract: with a zero border the table is one face, which ends with its last point.
-- Assumes nothing.
use mathlib.Core.Path.{◌∙◌}
use mathlib.Core.Bool.{false}
use Rattle.lists.specs.Lists.{whole_turn}
use Rattle.sweeps.proofs.Faces.{all_turned, all_odds, all_worked}
use Rattle.sweeps.proofs.raise.Goals as goal

pub returns-clause-walked : goal.returns-clause-walked
returns-clause-walked c =
    let face = c.whole.ensures in
    rw (face.0, face.1, face.2) at c.raise_face.ensures.walked ∙ all_worked c.args.line c.if-line.false c.args.table.now c.requires.0 false c.args.table.now

pub returns-clause-turned : goal.returns-clause-turned
unfolding whole_turn
returns-clause-turned c =
    let face = c.whole.ensures in
    rw (face.0, face.1, face.2) at c.raise_face.ensures.turned ∙ all_turned c.args.line c.if-line.false c.args.table.now c.requires.0 false

pub returns-clause-odds : goal.returns-clause-odds
returns-clause-odds c =
    let face = c.whole.ensures in
    all_odds c.args.line c.if-line.false c.args.table.now c.requires.0 c.raise_face.new.table c.raise_face.result
    (rw (face.0, face.1, face.2) at c.raise_face.ensures.odds)
