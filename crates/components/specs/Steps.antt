-- What the steps of the call answer: the layout of a grid.
-- Assumes nothing.
use Rattle.std.specs.Prelude.{List, ◌≡◌, ℕ, length}
use Rattle.component_sweeps.specs.declared.grid.Layout.{Layout}
use Rattle.component_sweeps.specs.Steps.{tops_of}
use Rattle.components.specs.Components.{tops_in}

-- The layout of the grid of a list of top levels.
pub record LaidOut (ls : List ℕ) (g : Layout) : Type 0 where
  pub axes : g.axes ≡ length ls
  pub tops : tops_of g ≡ tops_in ls
