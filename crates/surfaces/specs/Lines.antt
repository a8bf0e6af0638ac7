-- Lines of points along an axis, and the one-axis sums on them.
-- Assumes nothing.
use Rattle.std.specs.Prelude.{Bool, ◌&&◌, ◌||◌, ℕ, eqb, ℤ, if◌then◌else◌}
use Rattle.naturals.specs.Test.{all}
use Rattle.numbered.specs.Numbered.{Numbered}
use Rattle.shapes.specs.declared.Shape.{Shape}
use Rattle.shapes.specs.Shapes.{points_of}
use Rattle.grids.specs.Grids.{numbered}
use Rattle.interpolation.specs.Weighted.{weighted_sum}
use Rattle.surfaces.specs.Surface.{coordinates_of, weight_on}

-- Point numbers p and q have the same mark, level and index on axis t.
unfoldable pub same_in : Numbered → ℕ → ℕ → ℕ → Bool
same_in g p q t = eqb (g.mark p t) (g.mark q t) && (eqb (g.level p t) (g.level q t) && eqb (g.index p t) (g.index q t))

module _ (s : Shape) where
  abbrev pub same_on : ℕ → ℕ → ℕ → Bool
  same_on = same_in (numbered s)

  -- On axis u: it is axis t, or they are the same there.
  unfoldable pub same_beside : ℕ → ℕ → ℕ → ℕ → Bool
  same_beside t p q u = eqb u t || same_on p q u

  -- They lie on one line along axis t: they are the same on every other axis.
  unfoldable pub on_line : ℕ → ℕ → ℕ → Bool
  on_line t p q = all (same_beside t p q) s.axes

  -- The weight of point p on axis t alone at the coordinates of point q, for p on the line of q along axis t; 0 for every other p.
  unfoldable pub line_weight : ℕ → ℕ → ℕ → ℕ
  line_weight t q p = if on_line t p q then weight_on s (coordinates_of s q) p t else 0

  -- The sum of value times axis weight over the points of the line of q along axis t.
  unfoldable pub line_sum : ℕ → (ℕ → ℤ) → ℕ → ℤ
  line_sum t c q = weighted_sum (points_of s) c (line_weight t q)
