use mathlib.Core.Path.{refl}
use native.Mathlib.Omega.{arith}
use Rattle.cursors.proofs.Filling.{fills}
use Rattle.cursors.proofs.starts.Starts.back_from.Goals as goal

pub loop-j-preserved : goal.loop-j-preserved
loop-j-preserved c = fills c.loop-j.j _ c.loop-j.invariant (omega (arith, c.args.self.now.facet.line.top)) refl
