-- `numbers::on_face` meets its contract: a list of eight marks is the list of what it holds.
-- Assumes nothing.
use mathlib.Core.Path.{refl}
use borrow.Author.Rules.{rules}
use Rattle.numbering.specs.Point.{at}
use Rattle.points.proofs.Eight.{eight_ext}
use Rattle.numbers.proofs.on_face.Goals as goal

pub returns : goal.returns
returns c =
    rw (c.spread-levels.ensures, c.spread-indices.ensures, ← eight_ext (at c.args.marks) c.args.marks (search rules) (λ t h. refl)) refl
