-- Before the first level list of a sum the cursors stand where the smaller sums start.
-- Assumes nothing.
use Rattle.cursors.proofs.Filling.{before_first, cursors_filled}
use Rattle.cursors.proofs.starts.Starts.before_first.Goals as goal

pub returns : goal.returns
returns c =
    cursors_filled c.args.self.now c.args.sum 0 0 c.requires (λ j le. before_first c.args.self.now c.args.sum j c.requires le) c.back_from.ensures
