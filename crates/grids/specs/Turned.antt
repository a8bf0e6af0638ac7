-- What a turn leaves in the table of a shape (document 01, "Parents and turns").
-- Assumes nothing.
use Rattle.std.specs.Prelude.{List, ℕ, ℤ}
use Rattle.hierarchy.specs.Turns.{value_at, values_of, forward, backward}
use Rattle.shapes.specs.Shapes.{points_of}
use Rattle.shapes.specs.declared.Shape.{Shape}
use Rattle.grids.specs.Grids.{neighbour, height}

-- The table of a shape after the forward turn on place t (axis t + 1), and the one that a forward turn takes to it.
unfoldable pub turned_table : Shape → ℕ → List ℤ → List ℤ
turned_table s t xs = values_of (points_of s) (forward (neighbour s) t (value_at xs))

unfoldable pub former_table : Shape → ℕ → List ℤ → List ℤ
former_table s t xs =
    values_of (points_of s) (backward (neighbour s) (height s) t (value_at xs))
