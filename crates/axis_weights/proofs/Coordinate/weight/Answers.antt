-- `axis_weights::Coordinate::weight` meets its contract: the shifts lose nothing, and where the distance is larger than the unit nothing is left.
-- Assumes nothing.
use mathlib.Core.Path.{◌≡◌, ap₂, ◌∙◌}
use Prim.Native.Nat.{suc, ◌+◌, ◌*◌, ◌%◌, ◌^◌}
use native.Mathlib.Omega.{arith}
use Rattle.surfaces.specs.Weights.{unit, distance}
use Rattle.surfaces.proofs.Hat.{weight_is}
use Rattle.surfaces.proofs.Unit.{unit_bits, unit_is}
use Rattle.axis_weights.proofs.Weighing.{here_shifted, centre_shifted, apart_is}
use Rattle.axis_weights.proofs.Coordinate.weight.Goals as goal

pub returns : goal.returns
returns c =
    let a = c.args in
    let x = a.self.x in
    let apart : c.abs_diff-apart.result ≡ distance (x * 2 ^ suc a.level) (a.index * unit) =
    c.abs_diff-apart.ensures
    ∙ apart_is (x * 2 ^ (a.level + 1) % 2 ^ 64) (a.index * 2 ^ unit_bits % 2 ^ 64)
    ∙ ap₂ distance (here_shifted x a.level a.self.inside c.requires.0) (centre_shifted a.level a.index c.requires.0 c.requires.1) in
    omega (arith, weight_is unit x a.level a.index, apart, unit_is, c.saturating_sub.ensures)
