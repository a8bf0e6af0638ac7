-- `shapes::Rows::layer` meets its contract: its product is far below the width.
-- Assumes nothing.
use mathlib.Core.Path.{sym, ap₂, ◌∙◌}
use Prim.Native.Nat.{◌*◌}
use native.Mathlib.Omega.{arith}
use Rattle.faces.proofs.Numbering.{layer_is}
use Rattle.shapes.proofs.Layers.{layer_small}
use Rattle.shapes.proofs.Rows.layer.Goals as goal

pub overflow_mul-result : goal.overflow_mul-result
overflow_mul-result c =
    let a = c.args in
    omega (
      arith,
      ap₂ ◌*◌ c.faces.ensures c.points.ensures,
      layer_is a.axes a.level a.borders,
      layer_small a.axes a.level a.borders c.requires.0 c.requires.1 c.requires.2,
    )

pub returns : goal.returns
returns c = ap₂ ◌*◌ c.faces.ensures c.points.ensures ∙ sym (layer_is c.args.axes c.args.level c.args.borders)
