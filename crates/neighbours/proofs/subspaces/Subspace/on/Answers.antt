-- `Subspace::on` meets its contract: what it puts together is a level vector for a turn, by `Seeing`.
-- Assumes nothing.
use mathlib.Core.Path.{◌∙◌}
use native.Mathlib.Omega.{arith}
use Rattle.neighbours.proofs.Seeing.{before_is, before_small, end_small}
use Rattle.neighbours.proofs.subspaces.Subspace.on.Goals as goal

pub overflow_add-result : goal.overflow_add-result
overflow_add-result c = omega (arith, end_small c.args.facet c.args.vector.now _ c.requires.0 c.requires.1 c.requires.2)

pub level_sum-requires : goal.level_sum-requires
level_sum-requires c = omega (arith, before_small c.args.facet c.args.vector.now _ c.requires.0 c.requires.1 c.requires.2)

pub invariant_of-result-clause-before : goal.invariant_of-result-clause-before
invariant_of-result-clause-before c = c.level_sum.ensures ∙ before_is c.args.facet c.args.vector.now _ c.requires.0 c.requires.1 c.requires.2
