-- `LevelVector::first` meets its contract: eight zeros are a level vector of sum 0.
-- Assumes nothing.
use Rattle.vectors.proofs.Following.{first_of_all}
use Rattle.vectors.proofs.LevelVector.first.Goals as goal

pub invariant_of-result : goal.invariant_of-result
invariant_of-result c = record { some = c.requires.0; few = c.requires.1; vector = first_of_all c.args.axes }
