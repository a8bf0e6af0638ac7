-- `parents::moved` meets its contract: each of the two lists has eight places, and one of them is written.
-- Assumes nothing.
use mathlib.Core.Path.{refl}
use borrow.Author.Rules.{rules}
use Rattle.parents.proofs.Stepped.{written}
use Rattle.parents.proofs.moved.Goals as goal

pub returns : goal.returns
returns c =
    let a = c.args in
    rw (
      written a.p.levels a.t a.level (search rules) c.requires,
      written a.p.indices a.t a.index (search rules) c.requires,
    )
    refl
