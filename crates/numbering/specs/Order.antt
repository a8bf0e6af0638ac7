-- The order of points (document 01, "Numbering the points"): by level sum, then by level vector from the last axis down, then by position.
-- Assumes nothing.
use Rattle.std.specs.Prelude.{ℕ, zero, suc, ltb, if◌then◌else◌}
use Rattle.naturals.specs.Sum.{sum_to}
use Rattle.numbering.specs.Number.{position}
use Rattle.std.specs.declared.cmp.Ordering.{Ordering}
use Rattle.std.specs.declared.cmp.Ordering.TheVariants.{Less, Equal, Greater}

-- a and b as numbers; where they are equal, what the next criterion says.
abbrev pub by : ℕ → ℕ → Ordering → Ordering
by a b next = if ltb a b then Less else if ltb b a then Greater else next

-- Levels of the first k axes, from the last of them down to the first; where they are all equal, what the next criterion says.
unfoldable pub by_levels : (ℕ → ℕ) → (ℕ → ℕ) → ℕ → Ordering → Ordering
by_levels l m zero next = next
by_levels l m (suc k) next = by (l k) (m k) (by_levels l m k next)

-- Two level vectors of d axes.
unfoldable pub order_of_levels : ℕ → (ℕ → ℕ) → (ℕ → ℕ) → Ordering → Ordering
order_of_levels d l m next = by (sum_to l d) (sum_to m d) (by_levels l m d next)

-- Two points of d axes, with levels l and m, indices i and j.
unfoldable pub order_of_points : ℕ → (ℕ → ℕ) → (ℕ → ℕ) → (ℕ → ℕ) → (ℕ → ℕ) → Ordering
order_of_points d l i m j = order_of_levels d l m (by (position l i d) (position m j d) Equal)
