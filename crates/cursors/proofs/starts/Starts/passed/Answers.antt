-- `Starts::passed` meets its contract: what a cursor is past the start of its sum are the points of the lists that it has passed.
-- Assumes nothing.
use native.Mathlib.Omega.{arith}
use Rattle.cursors.proofs.Across.{place_before, at_list, past_list}
use Rattle.cursors.proofs.starts.Starts.passed.Goals as goal

pub overflow_sub-result : goal.overflow_sub-result
overflow_sub-result c = place_before c.args.self.now c.args.v c.requires.0 c.requires.1

pub returns-then-j-eq0 : goal.returns-then-j-eq0
returns-then-j-eq0 c = at_list c.args.self.now c.args.v c.requires.0 c.requires.1 c.args.j c.if-j-eq0.true

pub returns-then-v-j : goal.returns-then-v-j
returns-then-v-j c = past_list c.args.v c.args.j (omega (arith, c.if-v-j.true))
