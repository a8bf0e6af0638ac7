-- How far an estimate can be off from the exact value of the surface (document 02, f): by at most 1/2 + (d − 1) × S / the unit. First of any points, w p t
-- being the weight of point number p on axis t, whatever grid they are of; then of numbered points and of a shape.
-- Assumes nothing.
use Rattle.std.specs.Prelude.{Bool, true, ◌≡◌, ℕ, suc, ◌+◌, ◌-◌, ◌*◌, ◌^◌, ◌≤◌, ◌<◌, ltb, ℤ, nat_abs, if◌then◌else◌}
use Rattle.std.specs.Int.{div_ceil}
use Rattle.naturals.specs.Sum.{sum_to}
use Rattle.naturals.specs.Test.{all}
use Rattle.integers.specs.Nearest.{apart}
use Rattle.numbered.specs.Numbered.{Numbered}
use Rattle.shapes.specs.declared.Shape.{Shape}
use Rattle.grids.specs.Grids.{numbered}
use Rattle.surfaces.specs.Weights.{unit}
use Rattle.surfaces.specs.Surface.{weight_in, Fraction}

-- ---- S

-- The axis weight v t is above zero.
unfoldable pub above_zero : (ℕ → ℕ) → ℕ → Bool
above_zero v t = ltb 0 (v t)

-- A point is reached: its weight is above zero on each of the d axes. (Its joint weight, being rounded down, need not be.)
unfoldable pub is_reached : ℕ → (ℕ → ℕ) → Bool
is_reached d v = all (above_zero v) d

-- The absolute coefficient of point number p if it is reached, else 0.
unfoldable pub absolute_reached : ℕ → (ℕ → ℕ → ℕ) → (ℕ → ℤ) → ℕ → ℕ
absolute_reached d w c p = if is_reached d (w p) then nat_abs (c (suc p)) else 0

-- S: the sum of the absolute coefficients of the points that are reached, of the first m.
unfoldable pub absolute_sum : ℕ → ℕ → (ℕ → ℕ → ℕ) → (ℕ → ℤ) → ℕ
absolute_sum m d w c = sum_to (absolute_reached d w c) m

-- ---- the margin

-- The whole number z differs from the fraction f, whose denominator is u to the d, by at most 1/2 + (d − 1) × s / u. Both sides stand times twice the
-- denominator.
abbrev pub WithinMargin : ℕ → ℕ → ℕ → ℤ → Fraction → Type 0
WithinMargin u d s z f = 2 * apart f.denominator f.numerator z ≤ f.denominator + 2 * ((d - 1) * s * u ^ (d - 1))

-- 1/2 + (d − 1) × s / u, which is u + 2 × (d − 1) × s over 2 × u, rounded up to a whole number.
unfoldable pub margin : ℕ → ℕ → ℕ → ℕ
margin u d s = div_ceil (u + 2 * ((d - 1) * s)) (2 * u)

-- The whole number z differs from the fraction f by at most k.
abbrev pub DiffersByAtMost : ℕ → ℤ → Fraction → Type 0
DiffersByAtMost k z f = apart f.denominator f.numerator z ≤ k * f.denominator

-- ---- numbered points

-- Where the points have values on the border, the coordinates x are at most the unit u: an upper border's weight is the coordinate. With a zero border this
-- says nothing.
abbrev pub WithinUnit : ℕ → Numbered → (ℕ → ℕ) → Type 0
WithinUnit u g x = (t : ℕ) → t < g.axes → g.border ≡ true → x t ≤ u

unfoldable pub absolute_sum_in : ℕ → Numbered → (ℕ → ℤ) → (ℕ → ℕ) → ℕ
absolute_sum_in u g c x = absolute_sum g.count g.axes (weight_in u g x) c

-- ---- the points of a shape

abbrev pub absolute_sum_at : Shape → (ℕ → ℤ) → (ℕ → ℕ) → ℕ
absolute_sum_at s = absolute_sum_in unit (numbered s)
