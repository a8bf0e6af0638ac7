-- The order of work on a component grid (document 02, c): the interval is split at its middle point into two halves and a middle, along the axis with most
-- points left, and the parts are split again. Axes count from 0, so the axes s to t − 1 here are axes s + 1 to t of the papers; `tops` are the top levels of the grid.
-- Assumes nothing.
use Rattle.std.specs.Prelude.{List, ◌++◌, ℕ, zero, suc, ◌+◌, ◌-◌, ◌*◌, ◌^◌, leb, ltb, if◌then◌else◌}
use Rattle.numbering.specs.Parent.{update}
use Rattle.hierarchy.specs.Work.{Item}
use Rattle.splits.specs.Splits.{steps_at, cut}
use Rattle.component_grids.specs.Component.{across, points_to}

-- A box is known by the position of its middle point and its levels: on each axis it has as many points as an axis of that top level, half of them, rounded down,
-- on either side of the middle.

-- The axis with most points left among the first d, the smallest of several.
unfoldable pub widest : (ℕ → ℕ) → ℕ → ℕ
widest k zero = 0
widest k (suc t) = if ltb (across (k (widest k t))) (across (k t)) then t else widest k t

-- The levels of the middle of a box split along axis r, where one point is left, and those of its halves, where each has one level less.
unfoldable pub middle_of : (ℕ → ℕ) → ℕ → ℕ → ℕ
middle_of k r = update k r 0

unfoldable pub half_of : (ℕ → ℕ) → ℕ → ℕ → ℕ
half_of k r = update k r (k r - 1)

-- How many positions the middle of a half lies away from that of the box.
unfoldable pub away : (ℕ → ℕ) → (ℕ → ℕ) → ℕ → ℕ
away tops k r = 2 ^ (k r - 1) * points_to tops r

module _ (d : ℕ) (tops : ℕ → ℕ) where
  -- The steps of the axes s to t − 1 in the box of levels k with the middle point at position p, in order. A single point does them one after the other. Else r is
  -- the axis with most points left, sought among all; the middle does the axes before the cut, then the left half and the right half do all, then the middle the
  -- rest. The first argument is at least the number of points left, which falls.
  unfoldable pub order_from : ℕ → ℕ → ℕ → (ℕ → ℕ) → ℕ → List Item
  order_from zero s t k p = steps_at (t - s) s (suc p)
  order_from (suc g) s t k p =
      let r : ℕ = widest k d in
      if leb (across (k r)) 1
      then steps_at (t - s) s (suc p)
      else order_from g s (cut s t r) (middle_of k r) p
      ++ (order_from g s t (half_of k r) (p - away tops k r)
      ++ (order_from g s t (half_of k r) (p + away tops k r)
      ++ order_from g (cut s t r) t (middle_of k r) p))

  unfoldable pub order_in : ℕ → ℕ → (ℕ → ℕ) → ℕ → List Item
  order_in s t k p = order_from (points_to k d) s t k p

-- How many positions the middle point of a box of levels k comes after the box's first position, in a grid of d axes.
unfoldable pub half_span : ℕ → (ℕ → ℕ) → (ℕ → ℕ) → ℕ
half_span zero tops k = 0
half_span (suc t) tops k = half_span t tops k + (2 ^ k t - 1) * points_to tops t

-- The middle point of the whole grid: on each axis the point of level 0.
unfoldable pub centre : ℕ → (ℕ → ℕ) → ℕ
centre d tops = half_span d tops tops

-- The order on the whole grid.
unfoldable pub order_of : ℕ → (ℕ → ℕ) → List Item
order_of d tops = order_in d tops 0 d tops (centre d tops)
