-- What the lists of a turned and of a former table hold, and how long they are. Either list has the first N values of a function that is 0 at the border and
-- past the points, since a turn leaves 0 where there is no point; so it holds that function at every code, and its length is N.
-- Assumes nothing.
use mathlib.Core.Path.{◌≡◌, ◌∙◌}
use mathlib.Core.List.{List}
use Prim.Native.Nat.{ℕ}
use native.Mathlib.Omega.{arith}
use lib.IntN.{ℤ}
use lib.ListN.{length}
use Rattle.hierarchy.specs.Turns.{value_at, forward, backward}
use Rattle.hierarchy.proofs.Inverse.{forward_zero, forward_past, backward_zero, backward_past}
use Rattle.hierarchy.proofs.Values.{value_zero, value_past, values_length, value_of_values}
use Rattle.shapes.specs.Shapes.{points_of}
use Rattle.shapes.specs.declared.Shape.{Shape}
use Rattle.grids.specs.Grids.{neighbour, depth, height}
use Rattle.grids.specs.Turned.{turned_table, former_table}
use Rattle.grids.proofs.Instance.{grid}

module _ (s : Shape) (t : ℕ) where
  pub turned_length : (xs : List ℤ) → length (turned_table s t xs) ≡ points_of s
  unfolding turned_table
  turned_length xs = values_length (points_of s) (forward (neighbour s) t (value_at xs))

  pub former_length : (xs : List ℤ) → length (former_table s t xs) ≡ points_of s
  unfolding former_table
  former_length xs = values_length (points_of s) (backward (neighbour s) (height s) t (value_at xs))

  pub turned_holds : (xs : List ℤ) → length xs ≡ points_of s → value_at (turned_table s t xs) ≡ forward (neighbour s) t (value_at xs)
  unfolding turned_table
  turned_holds xs len =
      let m = points_of s in
      let nb = neighbour s in
      value_of_values m (forward nb t (value_at xs))
      (forward_zero m nb (depth s) (grid s) t (value_at xs) (value_zero xs))
      (λ p h. forward_past m nb (depth s) (grid s) t (value_at xs) (value_zero xs) p h ∙ value_past xs p (omega arith))

  pub former_holds : (xs : List ℤ) → length xs ≡ points_of s → value_at (former_table s t xs) ≡ backward (neighbour s) (height s) t (value_at xs)
  unfolding former_table
  former_holds xs len =
      let m = points_of s in
      let nb = neighbour s in
      value_of_values m (backward nb (height s) t (value_at xs))
      (backward_zero m nb (depth s) (grid s) t (height s) (value_at xs) (value_zero xs))
      (λ p h. backward_past m nb (depth s) (grid s) t (height s) (value_at xs) (value_zero xs) p h ∙ value_past xs p (omega arith))
