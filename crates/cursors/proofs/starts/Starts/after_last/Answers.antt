-- After the last level list of a sum they stand where the sums after the smaller ones start.
-- Assumes nothing.
use Rattle.cursors.proofs.Filling.{after_last, cursors_filled}
use Rattle.cursors.proofs.starts.Starts.after_last.Goals as goal

pub returns : goal.returns
returns c =
    cursors_filled c.args.self.now c.args.sum 1 _ c.requires (λ j le. after_last c.args.self.now c.args.sum j c.requires le) c.back_from.ensures
