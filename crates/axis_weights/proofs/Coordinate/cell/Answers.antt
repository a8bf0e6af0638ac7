-- `axis_weights::Coordinate::cell` meets its contract: the shifts are the product and the division of the definition.
-- Assumes nothing.
use mathlib.Core.Path.{ap₂, sym, ◌∙◌}
use Prim.Native.Nat.{ℕ, ◌/◌}
use native.Mathlib.Omega.{arith}
use Rattle.surfaces.proofs.Unit.{unit_is}
use Rattle.axis_weights.proofs.Weighing.{cell_shifted, cell_inside, cell_border}
use Rattle.axis_weights.proofs.Coordinate.cell.Goals as goal

pub returns-then-self : goal.returns-then-self
returns-then-self c =
    let here = c.args.self in
    ap₂ (λ (y u : ℕ). y / u) (cell_shifted here.x c.args.level here.inside c.requires) (sym unit_is)
    ∙ sym (cell_inside here.x c.args.level (omega (arith, unit_is)))

pub returns-else-self : goal.returns-else-self
returns-else-self c = sym (cell_border c.args.self.x c.args.level (omega (arith, unit_is)))
