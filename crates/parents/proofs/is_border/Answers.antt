-- `parents::is_border` meets its contract: the two tests are those of the border.
-- Assumes nothing.
use borrow.Author.Tests.{eq-eqb}
use Rattle.numbering.specs.Parent.{is_border}
use Rattle.parents.proofs.Reducing.{past_zero}
use Rattle.parents.proofs.is_border.Goals as goal

pub returns-then-numerator-eq0 : goal.returns-then-numerator-eq0
unfolding is_border
returns-then-numerator-eq0 c = rw (eq-eqb c.args.numerator 0 c.if-numerator-eq0.true)

pub returns-else-numerator-eq0 : goal.returns-else-numerator-eq0
returns-else-numerator-eq0 c = past_zero _ _ c.requires c.if-numerator-eq0.false
