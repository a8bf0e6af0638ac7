-- The turns of document 01 ("Parents and turns"), for any neighbours. A table is a function from codes to whole numbers, 0 at code 0.
-- Assumes nothing.
use Rattle.std.specs.Prelude.{Bool, ◌&&◌, List, [], ◌∷◌, ◌++◌, ℕ, zero, suc, ℤ, pos, ◌+ℤ◌, ◌-ℤ◌, get_or}
use Rattle.naturals.specs.Test.{all}
use Rattle.integers.specs.Half.{half, is_even, in_limit}
use Rattle.numbering.specs.declared.Side.TheVariants.{Left, Right}
use Rattle.hierarchy.specs.Grid.{Neighbours}

-- What a list of values holds at a code: 0 where there is no point, and past the end.
unfoldable pub value_at : List ℤ → ℕ → ℤ
value_at xs zero = pos 0
value_at xs (suc p) = get_or xs p (pos 0)

-- The list of a table's values at the first m points.
unfoldable pub values_of : ℕ → (ℕ → ℤ) → List ℤ
values_of zero f = []
values_of (suc m) f = values_of m f ++ (f (suc m) ∷ [])

module _ (nb : Neighbours) where
  -- The sum of the two parents' values.
  unfoldable pub sum_on : ℕ → (ℕ → ℤ) → ℕ → ℤ
  sum_on t f p = f (nb t Left p) +ℤ f (nb t Right p)

  -- Forward on axis t (hierarchization): each value becomes itself minus half the sum of its two parents' values.
  unfoldable pub forward : ℕ → (ℕ → ℤ) → ℕ → ℤ
  forward t f p = f p -ℤ half (sum_on t f p)

  -- At one point the turn is accepted: the values before and after are within the content limit, and the sum is even.
  unfoldable pub accepted_at : ℕ → (ℕ → ℤ) → ℕ → Bool
  accepted_at t f p = in_limit (f (suc p)) && is_even (sum_on t f (suc p)) && in_limit (forward t f (suc p))

  -- It is accepted at all m points.
  unfoldable pub accepted : ℕ → ℕ → (ℕ → ℤ) → Bool
  accepted m t f = all (accepted_at t f) m

  -- Back on axis t (dehierarchization): the value at a code is the present one plus half the sum of the parents' values of the result.
  -- The first argument bounds how many parents lie one above the other.
  unfoldable pub backward : ℕ → ℕ → (ℕ → ℤ) → ℕ → ℤ
  backward zero t x p = x p
  backward (suc k) t x p = x p +ℤ half (backward k t x (nb t Left p) +ℤ backward k t x (nb t Right p))
