use Rattle.component_sweeps.proofs.Covering.{covers_none}
use Rattle.component_sweeps.proofs.axis.BoxAxis.spread.Goals as goal

pub loop-more-init : goal.loop-more-init
loop-more-init c = covers_none c.args.self.now
