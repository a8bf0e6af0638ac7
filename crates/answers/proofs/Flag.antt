-- The flag 0 is that of a zero border.
-- Assumes nothing.
use mathlib.Core.Path.{◌≡◌, refl}
use Prim.Native.Nat.{ℕ}
use Rattle.shapes.specs.Shapes.{sparse}
use Rattle.answers.specs.Answers.{shape_of}

pub zero_sparse : (axes level border : ℕ) → border ≡ 0 → shape_of axes level border ≡ sparse axes level
zero_sparse axes level border none = rw none refl
