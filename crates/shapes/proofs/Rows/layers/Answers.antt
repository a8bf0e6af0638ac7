-- `shapes::Rows::layers` meets its contract: each turn adds the points of one layer, and five of them are far below the width.
-- Assumes nothing.
use mathlib.Core.Path.{sym}
use native.Mathlib.Numerals.{add-one}
use native.Mathlib.Omega.{arith}
use Rattle.naturals.proofs.Sums.{sum_to_zero, sum_to_suc}
use Rattle.faces.specs.Marked.{layer}
use Rattle.shapes.proofs.Layers.{layer_small, layers_small}
use Rattle.shapes.proofs.Rows.layers.Goals as goal

pub loop-b-init : goal.loop-b-init
loop-b-init c = sym (sum_to_zero (layer c.args.axes c.args.level))

pub overflow_add-before : goal.overflow_add-before
overflow_add-before c =
    let a = c.args in
    let b = c.loop-b.b in
    omega (
      arith,
      c.loop-b.invariant,
      c.layer-before.ensures,
      layers_small a.axes a.level b c.requires.0 c.requires.1 (omega (arith, c.requires.2)),
      layer_small a.axes a.level b c.requires.0 c.requires.1 (omega (arith, c.requires.2)),
      c.requires.0,
      c.requires.2,
    )

pub loop-b-preserved : goal.loop-b-preserved
loop-b-preserved c =
    let f = layer c.args.axes c.args.level in
    rw add-one (omega (arith, c.loop-b.invariant, c.layer-before.ensures, sum_to_suc f c.loop-b.b))
