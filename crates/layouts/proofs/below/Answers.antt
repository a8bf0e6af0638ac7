-- `layouts::below` meets its contract: all entries of the constant are tested.
-- Assumes nothing.
use mathlib.Core.Path.{◌∙◌}
use native.Mathlib.Omega.{arith}
use Rattle.layouts.proofs.Smaller.{smaller_read}
use Rattle.layouts.proofs.below.Goals as goal

pub returns : goal.returns
returns c =
    let a = c.args in
    c.from.ensures ∙ smaller_read a.axes a.borders a.mark c.requires.0 (omega (arith, c.requires.1, c.requires.0)) c.requires.2
