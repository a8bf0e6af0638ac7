-- As the call answers for a table with a zero border: an estimate at coordinates of which one is 0 or the unit is 0, whatever the values. True of the surface.
-- Assumes nothing.
use Rattle.std.specs.Prelude.{Ok}
use mathlib.Core.Bool.{false}
use mathlib.Core.Path.{◌≡◌}
use mathlib.Core.List.{List}
use Prim.Native.Nat.{ℕ, ◌<◌}
use lib.IntN.{ℤ, pos}
use Rattle.numbering.specs.Point.{at}
use Rattle.hierarchy.specs.Turns.{value_at}
use Rattle.surfaces.specs.Weights.{unit}
use Rattle.surfaces.specs.Border.{OnBorder}
use Rattle.surfaces.proofs.Border.{border_estimate}
use Rattle.states.specs.declared.State.{State}
use Rattle.estimates.specs.Estimates.{estimate}
use Rattle.estimates.proofs.Rounding.{answered}

pub answer_border : (s : State) → s.shape.border ≡ false → (table : List ℤ) (xs : List ℕ) (t : ℕ) → t < s.shape.axes → OnBorder unit (at xs) t →
    (v : ℤ) → estimate s table xs ≡ Ok v → v ≡ pos 0
answer_border s zero table xs t axis border =
    answered s table xs (λ (v : ℤ). v ≡ pos 0) (border_estimate s.shape zero (at xs) t axis border (value_at table))
