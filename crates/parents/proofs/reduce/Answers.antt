-- `parents::reduce` meets its contract: the trailing zeros are the factors of two of the numerator.
-- Assumes nothing.
use Rattle.numbering.proofs.Parents.{Inside}
use Rattle.parents.proofs.Reducing.{zeros_le, level_is, index_is}
use Rattle.parents.proofs.reduce.Goals.{Start}
use Rattle.parents.proofs.reduce.Goals as goal

between : (c : Start) → Inside c.args.level c.args.numerator
between c = record { even = c.requires.1; pos = c.requires.2; below = c.requires.3 }

pub overflow_sub-result : goal.overflow_sub-result
overflow_sub-result c = zeros_le _ _ c.requires.0 (between (goal.at.overflow_sub-result c).Start)

pub returns : goal.returns
returns c = (level_is _ _ c.requires.0 (between (goal.at.returns c).Start), index_is _ _ c.requires.0 (between (goal.at.returns c).Start))
