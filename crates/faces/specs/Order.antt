-- The order of points with marks (document 02, g): by number of border axes, then by marks from the last axis down, then as document 01 orders points. It may look at
-- all axes for that: a border axis has level 0 and index 1 and decides nothing, so this is document 01's order over the inner axes.
-- Assumes nothing.
use Rattle.std.specs.Prelude.{ℕ}
use Rattle.std.specs.declared.cmp.Ordering.{Ordering}
use Rattle.numbering.specs.Order.{by, by_levels, order_of_points}
use Rattle.faces.specs.Faces.{borders}

-- Two points of d axes, with marks m and o, levels l and k, indices i and j.
unfoldable pub order_of_marked : ℕ → (ℕ → ℕ) → (ℕ → ℕ) → (ℕ → ℕ) → (ℕ → ℕ) → (ℕ → ℕ) → (ℕ → ℕ) → Ordering
order_of_marked d m l i o k j = by (borders m d) (borders o d) (by_levels m o d (order_of_points d l i k j))
