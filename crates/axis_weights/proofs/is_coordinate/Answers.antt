-- `axis_weights::is_coordinate` meets its contract: a one shifted by the bits is the unit.
-- Assumes nothing.
use mathlib.Core.Path.{ap, sym}
use Prim.Native.Nat.{ℕ}
use lib.Dec.{leb}
use Rattle.surfaces.specs.Weights.{is_coordinate}
use Rattle.surfaces.proofs.Unit.{unit_is}
use Rattle.axis_weights.proofs.is_coordinate.Goals as goal

pub returns : goal.returns
unfolding is_coordinate
returns c = ap (λ (u : ℕ). leb c.args.x u) (sym unit_is)
