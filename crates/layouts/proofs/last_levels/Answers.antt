-- `layouts::last_levels` meets its contract: eight zeros, and the top level in the place of the last axis where there is one.
-- Assumes nothing.
use native.Mathlib.Omega.{arith}
use Rattle.layouts.proofs.Laid.{levels_set, levels_none}
use Rattle.layouts.proofs.last_levels.Goals as goal

pub returns-then-axes-gt0 : goal.returns-then-axes-gt0
returns-then-axes-gt0 c = levels_set c.args.axes c.args.level c.if-axes-gt0.true c.requires

pub returns-else-axes-gt0 : goal.returns-else-axes-gt0
returns-else-axes-gt0 c = levels_none c.args.axes c.args.level (omega (arith, c.if-axes-gt0.false))
