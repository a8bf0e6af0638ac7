-- `Facet::whole` meets its contract: it is the face that `Whole` speaks of.
-- Assumes nothing.
use Rattle.neighbours.proofs.Whole.{whole}
use Rattle.neighbours.proofs.facets.Facet.whole.Goals as goal

pub invariant_of-result-clause-sits : goal.invariant_of-result-clause-sits
invariant_of-result-clause-sits c = whole c.args.line c.requires
