-- `layouts::bit` meets its contract: case by case.
-- Assumes nothing.
use mathlib.Core.Path.{sym}
use native.Mathlib.Omega.{arith}
use Rattle.faces.proofs.Ranks.{bit_inner, bit_border}
use Rattle.layouts.proofs.bit.Goals as goal

pub returns-then-mark-eq0 : goal.returns-then-mark-eq0
returns-then-mark-eq0 c = sym (bit_inner c.args.mark c.if-mark-eq0.true)

pub returns-else-mark-eq0 : goal.returns-else-mark-eq0
returns-else-mark-eq0 c = sym (bit_border c.args.mark (omega (arith, c.if-mark-eq0.false)))
