-- The surface of a table of coefficients: its exact value at coordinates, and the estimate (document 01, "Estimates"). A table is a function from
-- codes to whole numbers: code 0 is no point, and code p + 1 is point number p. First for any unit and any numbered points, then for those of a shape.
-- Assumes nothing.
use Rattle.std.specs.Prelude.{◌≡◌, ℕ, ◌^◌, ℤ, pos, ◌*ℤ◌}
use Rattle.naturals.specs.Sum.{prod_to}
use Rattle.integers.specs.Nearest.{nearest}
use Rattle.numbered.specs.Numbered.{Numbered}
use Rattle.shapes.specs.declared.Shape.{Shape}
use Rattle.grids.specs.Grids.{numbered}
use Rattle.interpolation.specs.Weighted.{weighted_sum}
use Rattle.surfaces.specs.Weights.{unit, axis_coordinate, axis_weight, joint}

module _ (u : ℕ) (g : Numbered) where
  -- The coordinates of point number q, in the unit u.
  unfoldable pub coordinates_in : ℕ → ℕ → ℕ
  coordinates_in q t = axis_coordinate u (g.mark q t) (g.level q t) (g.index q t)

  -- The weight of point number p on axis t at the coordinates x.
  unfoldable pub weight_in : (ℕ → ℕ) → ℕ → ℕ → ℕ
  weight_in x p t = axis_weight u (x t) (g.mark p t) (g.level p t) (g.index p t)

  -- The product of the axis weights of point number p at the coordinates x, and its joint weight.
  unfoldable pub product_in : (ℕ → ℕ) → ℕ → ℕ
  product_in x p = prod_to (weight_in x p) g.axes

  unfoldable pub joint_in : (ℕ → ℕ) → ℕ → ℕ
  joint_in x p = joint u (weight_in x p) g.axes

  -- The sum over all points of coefficient times product of axis weights.
  unfoldable pub surface_in : (ℕ → ℤ) → (ℕ → ℕ) → ℤ
  surface_in c x = weighted_sum g.count c (product_in x)

  -- The sum over all points of coefficient times joint weight, which an estimate divides.
  unfoldable pub joint_sum_in : (ℕ → ℤ) → (ℕ → ℕ) → ℤ
  joint_sum_in c x = weighted_sum g.count c (joint_in x)

-- A fraction of two whole numbers.
pub record Fraction : Type 0 where
  pub numerator : ℤ
  pub denominator : ℕ

-- The fraction is this whole number: its numerator is the number times its denominator.
abbrev pub Exactly : Fraction → ℤ → Type 0
Exactly f z = f.numerator ≡ z *ℤ pos f.denominator

-- The exact value of the surface at the coordinates x: the sum over the unit to the d.
abbrev pub exact_value_in : ℕ → Numbered → (ℕ → ℤ) → (ℕ → ℕ) → Fraction
exact_value_in u g c x = record { numerator = surface_in u g c x; denominator = u ^ g.axes }

-- The last division of an estimate: by the unit, to the nearest whole number, halves away from zero (document 02, b).
unfoldable pub rounded : ℕ → ℤ → ℤ
rounded u z = nearest u z

-- The estimate at the coordinates x: the sum over all points of coefficient times joint weight, divided once.
unfoldable pub estimate_in : ℕ → Numbered → (ℕ → ℤ) → (ℕ → ℕ) → ℤ
estimate_in u g c x = rounded u (joint_sum_in u g c x)

-- The same for the points of a shape, in the unit.
module _ (s : Shape) where
  abbrev pub coordinates_of : ℕ → ℕ → ℕ
  coordinates_of = coordinates_in unit (numbered s)

  abbrev pub weight_on : (ℕ → ℕ) → ℕ → ℕ → ℕ
  weight_on = weight_in unit (numbered s)

  abbrev pub product_at : (ℕ → ℕ) → ℕ → ℕ
  product_at = product_in unit (numbered s)

  abbrev pub joint_at : (ℕ → ℕ) → ℕ → ℕ
  joint_at = joint_in unit (numbered s)

  abbrev pub surface : (ℕ → ℤ) → (ℕ → ℕ) → ℤ
  surface = surface_in unit (numbered s)

  abbrev pub joint_sum : (ℕ → ℤ) → (ℕ → ℕ) → ℤ
  joint_sum = joint_sum_in unit (numbered s)

  abbrev pub exact_value : (ℕ → ℤ) → (ℕ → ℕ) → Fraction
  exact_value = exact_value_in unit (numbered s)

  abbrev pub estimate_at : (ℕ → ℤ) → (ℕ → ℕ) → ℤ
  estimate_at = estimate_in unit (numbered s)
