-- `numolefays_parent` meets its contract: the flag 0 is that of a zero border.
-- Assumes nothing.
use mathlib.Core.Path.{sym, ◌∙◌}
use Rattle.answers.proofs.Flag.{zero_sparse}
use Rattle.numolefays.proofs.point_calls.numolefays_parent.Goals as goal

pub returns-then-border-eq0 : goal.returns-then-border-eq0
returns-then-border-eq0 c =
    let shape = c.sparse-shape.ensures ∙ sym (zero_sparse c.args.axes c.args.level c.args.border c.if-border-eq0.true) in
    rw (c.parent-answer.ensures, shape, c.side_of-side.ensures) at c.hand_located.ensures
