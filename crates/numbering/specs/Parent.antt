-- Hierarchical parents: the neighbours of a point on an axis (document 01, "Parents and turns").
-- Assumes nothing.
use Rattle.std.specs.Prelude.{Bool, ◌||◌, ℕ, suc, ◌+◌, ◌-◌, ◌/◌, ◌^◌, eqb, if◌then◌else◌}
use Rattle.std.specs.Int.Count.{count_trailing_zeros}
use Rattle.numbering.specs.declared.Side.{Side}
use Rattle.numbering.specs.declared.Side.TheVariants.{Left, Right}

-- On an axis where a point has level l and index i, its neighbours lie at (i − 1) / 2^(l+1) and (i + 1) / 2^(l+1): the numerators.
abbrev pub numerator : Side → ℕ → ℕ
numerator Left i = i - 1
numerator Right i = i + 1

-- A neighbour at 0 or 1 is the border.
unfoldable pub is_border : ℕ → ℕ → Bool
is_border l m = eqb m 0 || eqb m (2 ^ suc l)

-- How many factors of two a numerator m has: its trailing zeros, for which m bits are enough.
unfoldable pub twos : ℕ → ℕ
twos m = count_trailing_zeros m m

-- Numerator m and denominator 2^(l+1) without the factors of two that they share are the parent's odd index and 2^(its level + 1).
unfoldable pub parent_level : ℕ → ℕ → ℕ
parent_level l m = l - twos m

unfoldable pub parent_index : ℕ → ℕ
parent_index m = m / 2 ^ twos m

-- The same numbers on every axis but t, where it is v.
unfoldable pub update : (ℕ → ℕ) → ℕ → ℕ → ℕ → ℕ
update f t v u = if eqb u t then v else f u

-- What lies beside a point: the border, or a point with its levels and indices.
pub data Neighbour : Type 0 where
  border : Neighbour
  inner : (ℕ → ℕ) → (ℕ → ℕ) → Neighbour

-- The point of levels l and indices i with those of numerator m on axis t.
abbrev pub moved : ℕ → ℕ → (ℕ → ℕ) → (ℕ → ℕ) → Neighbour
moved t m l i = inner (update l t (parent_level (l t) m)) (update i t (parent_index m))

-- The parent on one side on axis t.
unfoldable pub parent : ℕ → Side → (ℕ → ℕ) → (ℕ → ℕ) → Neighbour
parent t side l i =
    if is_border (l t) (numerator side (i t)) then border else moved t (numerator side (i t)) l i
