-- `layouts::lower_to_upper` meets its contract: the difference of two entries is the number of faces between, and the product is small.
-- Assumes nothing.
use mathlib.Core.Path.{◌≡◌, ap₂}
use Prim.Native.Nat.{◌-◌, ◌*◌, ◌≤◌, ◌<◌}
use native.Mathlib.Numerals.{add-one}
use native.Mathlib.Nat.{mul-le-mul_left}
use native.Mathlib.Omega.{arith}
use Rattle.numbering.specs.Count.{points}
use Rattle.faces.specs.Faces.{faces}
use Rattle.shapes.proofs.Layers.{faces_few, points_at_most}
use Rattle.layouts.proofs.Upper.{lower_faces}
use Rattle.layouts.proofs.lower_to_upper.Goals.{After-points}
use Rattle.layouts.proofs.lower_to_upper.Goals as goal

pub overflow_sub-lower_faces : goal.overflow_sub-lower_faces
overflow_sub-lower_faces c =
    let a = c.args in
    omega (arith, rw add-one at c.below.ensures, rw add-one at c.below-2.ensures, lower_faces a.place a.borders)

made : (c : After-points) → c.points.result * (c.below.result - c.below-2.result) ≡ points c.args.inner c.args.level * faces c.args.place c.args.borders
made c =
    let a = c.args in
    let apart : c.below.result - c.below-2.result ≡ faces a.place a.borders
    = omega (arith, rw add-one at c.below.ensures, rw add-one at c.below-2.ensures, lower_faces a.place a.borders) in
    ap₂ ◌*◌ c.points.ensures apart

pub overflow_mul-result : goal.overflow_mul-result
overflow_mul-result c =
    let a = c.args in
    let few : faces a.place a.borders ≤ 128 = omega (arith, faces_few a.place a.borders (omega (arith, c.requires.0)) c.requires.1) in
    let low : points a.inner a.level < 4294967296 = points_at_most a.inner a.level (omega (arith, c.requires.2)) c.requires.3 in
    record { fits = omega (arith, made (goal.at.overflow_mul-result c).After-points, mul-le-mul_left (points a.inner a.level) few, low) }

pub returns : goal.returns
returns c = made (goal.at.returns c).After-points
