-- What the promises of the whole calls speak of: accepted rates, and the sum of two tables place by place (document 01, "A run of turns").
-- Assumes nothing.
use Rattle.std.specs.Prelude.{true, List, [], ◌∷◌, ◌≡◌, ℕ, ◌<◌, ℤ, pos, ◌+ℤ◌, length, get_or, Ok}
use Rattle.integers.specs.Half.{is_rate}
use Rattle.shapes.specs.declared.Shape.{Shape}
use Rattle.shapes.specs.Shapes.{points_of, check_shape}

-- Rates are accepted where the shape is not refused and there are N numbers, each a rate.
pub record Accepted (s : Shape) (rs : List ℤ) : Type 0 where
  pub shape : check_shape s ≡ Ok tt
  pub long : length rs ≡ points_of s
  pub each : (p : ℕ) → p < points_of s → is_rate (get_or rs p (pos 0)) ≡ true

-- Two tables of one length, added place by place.
unfoldable pub sums : List ℤ → List ℤ → List ℤ
sums [] ys = []
sums (x ∷ xs) [] = []
sums (x ∷ xs) (y ∷ ys) = (x +ℤ y) ∷ sums xs ys
