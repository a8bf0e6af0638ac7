-- The coordinates of a point of a shape, as the call for an estimate is given them.
-- Assumes nothing.
use Rattle.std.specs.Prelude.{List, [], ◌∷◌, ◌++◌, ℕ, zero, suc}
use Rattle.shapes.specs.declared.Shape.{Shape}
use Rattle.surfaces.specs.Surface.{coordinates_of}

-- The list of the first k values of a function.
unfoldable pub first_values : ℕ → (ℕ → ℕ) → List ℕ
first_values zero f = []
first_values (suc k) f = first_values k f ++ (f k ∷ [])

-- The coordinates of point number q, one for each axis.
unfoldable pub coordinate_list : Shape → ℕ → List ℕ
coordinate_list s q = first_values s.axes (coordinates_of s q)
