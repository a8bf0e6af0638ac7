-- `LevelVector::last` meets its contract: its rank is one below the count of the sum's level vectors.
-- Assumes nothing.
use mathlib.Core.Path.{refl}
use Rattle.vectors.proofs.Preceding.{last_vector, last_rank_lem}
use Rattle.vectors.proofs.LevelVector.last.Goals as goal

pub invariant_of-result : goal.invariant_of-result
invariant_of-result c =
    record { some = c.requires.0; few = c.requires.1; vector = last_vector c.args.axes c.args.sum c.requires.0 c.requires.1 }

pub returns : goal.returns
returns c = (refl, refl, last_rank_lem c.args.axes c.args.sum c.requires.0 c.requires.1)
