-- `points::mark_fits` meets its contract: the tests are those of the definition, one after the other.
-- Assumes nothing.
use borrow.Author.Tests.{eq-eqb, ne_eqb, lt-leb, le-leb}
use Rattle.points.specs.Points.{mark_fits}
use Rattle.points.proofs.mark_fits.Goals as goal

pub returns-then-mark-eq0 : goal.returns-then-mark-eq0
unfolding mark_fits
returns-then-mark-eq0 c = simp (eq-eqb c.args.mark 0 c.if-mark-eq0.true)

pub returns-then-not-border : goal.returns-then-not-border
unfolding mark_fits
returns-then-not-border c = simp (ne_eqb c.args.mark 0 c.if-mark-eq0.false, c.if-not-border.true)

pub returns-then-mark-gt2 : goal.returns-then-mark-gt2
unfolding mark_fits
returns-then-mark-gt2 c =
    simp (ne_eqb c.args.mark 0 c.if-mark-eq0.false, c.if-not-border.false, lt-leb c.args.mark 2 c.if-mark-gt2.true)

pub returns-then-level-ne0 : goal.returns-then-level-ne0
unfolding mark_fits
returns-then-level-ne0 c =
    simp (
      ne_eqb c.args.mark 0 c.if-mark-eq0.false,
      c.if-not-border.false,
      le-leb c.args.mark 2 c.if-mark-gt2.false,
      ne_eqb c.args.level 0 c.if-level-ne0.true,
    )

pub returns : goal.returns
unfolding mark_fits
returns c =
    simp (
      ne_eqb c.args.mark 0 c.if-mark-eq0.false,
      c.if-not-border.false,
      le-leb c.args.mark 2 c.if-mark-gt2.false,
      eq-eqb c.args.level 0 c.if-level-ne0.false,
    )
