-- `shapes::Rows::points` meets its contract: the points are those whose level sum is at most the top level.
-- Assumes nothing.
use mathlib.Core.Path.{sym, ap, ◌∙◌}
use native.Mathlib.Numerals.{add-one}
use Rattle.numbering.specs.Count.{start}
use Rattle.numbering.proofs.Numbering.{points_is}
use Rattle.shapes.proofs.Rows.points.Goals as goal

pub returns : goal.returns
returns c = c.start.ensures ∙ ap (start c.args.axes) (add-one c.args.level) ∙ sym (points_is c.args.axes c.args.level)
