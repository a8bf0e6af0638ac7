-- `shapes::Rows::faces` meets its contract: C(d, b) is read off the table, and the shift loses no bit.
-- Assumes nothing.
use mathlib.Core.Path.{ap, ◌∙◌}
use Prim.Native.Nat.{◌*◌, ◌^◌, ◌%◌}
use Rattle.shapes.proofs.Layers.{faces_read}
use Rattle.shapes.proofs.Rows.faces.Goals as goal

pub returns : goal.returns
returns c =
    ap (λ v. v * 2 ^ c.args.borders % 2 ^ 64) c.vectors.ensures ∙ faces_read c.args.axes c.args.borders c.requires.0 c.requires.1
