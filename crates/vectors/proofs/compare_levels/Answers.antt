use mathlib.Core.Path.{sym}
use Rattle.std.specs.declared.cmp.Ordering.TheVariants.{Equal}
use Rattle.std.proofs.lemmas.Cmp.{ranked}
use Rattle.vectors.proofs.Compared.{sum_decides, compared_starts, level_decides, compared_steps, compared_ends}
use Rattle.vectors.proofs.compare_levels.Goals as goal

pub returns-in_default : goal.returns-in_default
returns-in_default c =
    sym (sum_decides _ _ 8 _ (rw (c.total.ensures, c.total-2.ensures) at c.cmp.ensures) c.in_default.not-Equal)

pub loop-t-init : goal.loop-t-init
loop-t-init c = compared_starts _ _ 8 (rw (c.total.ensures, c.total-2.ensures) at (ranked c.total.result c.total-2.result Equal c.in-Equal.ensures))

pub returns-in_default-cmp : goal.returns-in_default-cmp
returns-in_default-cmp c = sym (level_decides c.loop-t.invariant c.loop-t-test.true _ c.cmp-in-loop-t.ensures c.in_default-cmp.not-Equal)

pub loop-t-preserved : goal.loop-t-preserved
loop-t-preserved c = compared_steps c.loop-t.invariant c.loop-t-test.true (ranked _ _ Equal c.in-Equal-cmp.ensures)

pub returns : goal.returns
returns c = sym (compared_ends c.loop-t.invariant c.loop-t-test.false)
