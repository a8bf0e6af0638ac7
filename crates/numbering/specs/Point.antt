-- Points of a shape (document 01, "Terms and limits"). A point has a level and an index on each axis: two functions from an axis to a number.
-- Assumes nothing.
use Rattle.std.specs.Prelude.{Bool, ◌&&◌, List, ◌≡◌, ℕ, suc, ◌^◌, ◌%◌, ◌≤◌, ◌<◌, leb, ltb, eqb, get_or}
use Rattle.naturals.specs.Sum.{sum_to}
use Rattle.naturals.specs.Test.{all}

-- What a list holds for an axis, and 0 past its end.
abbrev pub at : List ℕ → ℕ → ℕ
at xs t = get_or xs t 0

-- On one axis: an odd index from 1 to 2^(l+1) − 1.
unfoldable pub is_index : ℕ → ℕ → Bool
is_index l i = eqb (i % 2) 1 && ltb i (2 ^ suc l)

-- The index on axis t is one of its level.
unfoldable pub indexed : (ℕ → ℕ) → (ℕ → ℕ) → ℕ → Bool
indexed l i t = is_index (l t) (i t)

-- The levels l and indices i name a point of d axes and top level n: the levels sum to at most n, and each index is one of its level.
unfoldable pub is_point : ℕ → ℕ → (ℕ → ℕ) → (ℕ → ℕ) → Bool
is_point d n l i = leb (sum_to l d) n && all (indexed l i) d

-- The same as a fact: what the laws say of points.
pub record IsPoint (d n : ℕ) (l i : ℕ → ℕ) : Type 0 where
  pub sum : sum_to l d ≤ n
  pub odd : (t : ℕ) → t < d → i t % 2 ≡ 1
  pub below : (t : ℕ) → t < d → i t < 2 ^ suc (l t)
