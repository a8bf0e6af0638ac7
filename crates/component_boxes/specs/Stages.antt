-- The tables after each whole-axis sweep of a component grid.
-- Assumes nothing.
use Rattle.std.specs.Prelude.{ℕ, ℤ}
use Rattle.hierarchy.specs.Sets.{every_axis, scaled, swept}
use Rattle.component_grids.specs.Component.{neighbour}

-- Each rate times 2^d, then changed by the rule of the forward turn on each of the first k axes, smallest first.
unfoldable pub stages_of : ℕ → (ℕ → ℕ) → (ℕ → ℤ) → ℕ → ℕ → ℤ
stages_of d tops r k = swept (neighbour d tops) every_axis k (scaled d r)
