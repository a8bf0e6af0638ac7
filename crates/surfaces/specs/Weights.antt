-- Coordinates and weights (document 01, "Estimates"). Coordinates are a function from an axis to a number, as levels and indices are.
-- Assumes nothing.
use Rattle.std.specs.Prelude.{Bool, ℕ, zero, suc, ◌+◌, ◌-◌, ◌*◌, ◌/◌, ◌^◌, leb}

-- The unit: a coordinate x is a whole number from 0 to 1,048,576, meaning x / 1,048,576, and weights are counted in the same unit.
unfoldable pub unit : ℕ
unit = 1048576

-- The rest is said of any unit u (document 02, e, speaks of two).

-- x is a coordinate: at most the unit.
unfoldable pub is_coordinate : ℕ → ℕ → Bool
is_coordinate u x = leb x u

-- The coordinate of a point on one axis: i / 2^(l+1) in units. The division loses nothing where 2^(l+1) divides the unit.
unfoldable pub coordinate : ℕ → ℕ → ℕ → ℕ
coordinate u l i = i * u / 2 ^ suc l

-- How far apart two numbers are, |a − b|. (A difference of natural numbers stops at 0.)
unfoldable pub distance : ℕ → ℕ → ℕ
distance a b = (a - b) + (b - a)

-- The weight at x of a point of level l and index i on one axis: the unit − |x × 2^(l+1) − i × the unit|, or 0 where that is negative. (The hat function
-- of the point.)
unfoldable pub weight : ℕ → ℕ → ℕ → ℕ → ℕ
weight u x l i = u - distance (x * 2 ^ suc l) (i * u)

-- The same of a point of mark a on the axis (document 02, g): inside (0), of its level and index. A lower border (1) lies at 0, and its weight is the unit − x; an
-- upper border (2) lies at the unit, and its weight is x.
unfoldable pub axis_coordinate : ℕ → ℕ → ℕ → ℕ → ℕ
axis_coordinate u zero l i = coordinate u l i
axis_coordinate u (suc zero) l i = 0
axis_coordinate u (suc (suc a)) l i = u

unfoldable pub axis_weight : ℕ → ℕ → ℕ → ℕ → ℕ → ℕ
axis_weight u x zero l i = weight u x l i
axis_weight u x (suc zero) l i = u - x
axis_weight u x (suc (suc a)) l i = x

-- The joint weight over the first k axes, w t being the weight on axis t: it starts at the unit; for each axis in turn it is multiplied by the axis weight,
-- divided by the unit and rounded down.
unfoldable pub joint : ℕ → (ℕ → ℕ) → ℕ → ℕ
joint u w zero = u
joint u w (suc k) = joint u w k * w k / u
