-- `shapes::Rows::count` meets its contract: the table has a row for each number of axes of either sort, and each entry is the count of that shape.
-- Assumes nothing.
use mathlib.Core.Path.{ap, sym, ◌∙◌}
use Prim.Native.Nat.{ℕ, ◌≤◌}
use native.Mathlib.Omega.{arith}
use Rattle.shapes.specs.Shapes.{most_axes}
use Rattle.shapes.specs.Rows.{entry}
use Rattle.shapes.proofs.Checked.{most_small}
use Rattle.shapes.proofs.Layers.{points_plain, points_bordered}
use Rattle.shapes.proofs.Rows.count.Goals.{then-shape, else-shape}
use Rattle.shapes.proofs.Rows.count.Goals as goal

pub returns : goal.returns
returns c =
    let rows = c.args.self.now in
    let s = c.args.shape in
    let read = λ (r : ℕ). entry rows.counts.now r s.level in
    elim c.if-shape.branch [
      | then-shape w ↦
          let few : s.axes ≤ 4 = omega (arith, c.requires.1, ap most_axes w.if-shape.true) in
          c.from.ensures ∙ ap read w.row-is ∙ rows.summed.bordered s.axes s.level few c.requires.2 ∙ sym (points_bordered s w.if-shape.true)
      | else-shape w ↦
          let few : s.axes ≤ 8 = omega (arith, c.requires.1, most_small s.border) in
          c.from.ensures ∙ ap read w.row-is ∙ rows.summed.plain s.axes s.level c.requires.0 few c.requires.2 ∙ sym (points_plain s w.if-shape.false)
    ]
