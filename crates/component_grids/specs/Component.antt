-- Component grids (document 02, c): full grids that are refined differently on each axis, with zero borders. Their points are those whose level on each axis is
-- at most that axis's top level. Top levels are a function from an axis to a number, as levels and indices are.
-- Assumes nothing.
use Rattle.std.specs.Prelude.{false, ℕ, suc, ◌+◌, ◌-◌, ◌*◌, ◌/◌, ◌%◌, ◌^◌}
use Rattle.naturals.specs.Sum.{sum_to, prod_to}
use Rattle.numbering.specs.declared.Side.{Side}
use Rattle.numbering.specs.Parent.{parent_level, parent_index}
use Rattle.numbered.specs.Numbered.{unmarked, Numbered}
use Rattle.numbered.specs.Neighbours as numbered_points

-- How many points an axis of top level n has.
unfoldable pub across : ℕ → ℕ
across n = 2 ^ suc n - 1

unfoldable pub across_on : (ℕ → ℕ) → ℕ → ℕ
across_on tops t = across (tops t)

-- How many points the first k axes have together: the product of theirs. With k the number of axes these are the points of the grid; two points that follow
-- each other on axis k (from 0) lie so many positions apart.
unfoldable pub points_to : (ℕ → ℕ) → ℕ → ℕ
points_to tops k = prod_to (across_on tops) k

-- Where a point of level l and index i lies on an axis of top level n, in steps of the finest level: i / 2^(l+1) is so many times 1 / 2^(n+1).
unfoldable pub place : ℕ → ℕ → ℕ → ℕ
place n l i = i * 2 ^ (n - l)

-- The layout by coordinate, axis 1 running fastest: the position of a point is the sum over the axes of its place less 1, times the points of the axes before.
unfoldable pub share : (ℕ → ℕ) → (ℕ → ℕ) → (ℕ → ℕ) → ℕ → ℕ
share tops l i t = (place (tops t) (l t) (i t) - 1) * points_to tops t

unfoldable pub position : ℕ → (ℕ → ℕ) → (ℕ → ℕ) → (ℕ → ℕ) → ℕ
position d tops l i = sum_to (share tops l i) d

-- The place of position p on axis t, from 1 on. Place / 2^(n+1) in lowest terms is index / 2^(level+1).
unfoldable pub place_at : (ℕ → ℕ) → ℕ → ℕ → ℕ
place_at tops p t = p / points_to tops t % across (tops t) + 1

unfoldable pub level_at : (ℕ → ℕ) → ℕ → ℕ → ℕ
level_at tops p t = parent_level (tops t) (place_at tops p t)

unfoldable pub index_at : (ℕ → ℕ) → ℕ → ℕ → ℕ
index_at tops p t = parent_index (place_at tops p t)

-- The component grid of d axes: its points by position, with a zero border.
abbrev pub component : ℕ → (ℕ → ℕ) → Numbered
component d tops =
    record {
      axes = d;
      count = points_to tops d;
      border = false;
      number = λ m. position d tops;
      mark = λ p. unmarked;
      level = level_at tops;
      index = index_at tops;
    }

-- The neighbour of a code on axis t (from 0), on either side, by document 01's rule: code 0 is the border, code p + 1 is position p.
unfoldable pub neighbour : ℕ → (ℕ → ℕ) → ℕ → Side → ℕ → ℕ
neighbour d tops t side p = numbered_points.neighbour (component d tops) t side p

-- How deep a code lies on an axis: one more than its level there, and 0 at the border.
unfoldable pub depth : ℕ → (ℕ → ℕ) → ℕ → ℕ → ℕ
depth d tops t p = numbered_points.depth (component d tops) t p
