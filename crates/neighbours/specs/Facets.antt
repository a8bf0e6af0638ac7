-- A face of a table as a turn on an axis meets it (document 02, g): a sparse table of the table's top level over the face's inner axes, of which the axis is one.
-- Its points are the numbers from its first one on. Across the border of the axis there lies, on either side, a face without the axis, whose points do not move
-- on it. With a zero border the table is one face, and nothing lies across the border.
-- Assumes nothing.
use Rattle.std.specs.Prelude.{Bool, true, false, ◌≡◌, ℕ, suc, ◌+◌, ◌-◌, ◌*◌, ◌/◌, ◌^◌, ◌≤◌, ◌<◌, Option, Some, None}
use Rattle.naturals.specs.Sum.{sum_to}
use Rattle.numbering.specs.declared.Side.{Side}
use Rattle.numbering.specs.declared.Side.TheVariants.{Left, Right}
use Rattle.numbering.specs.Count.{points}
use Rattle.numbering.specs.Number.{position, first_of, number}
use Rattle.numbering.specs.Inverse.{level_at, index_at}
use Rattle.numbering.specs.Parent.{numerator, is_border, parent_level, parent_index, update}
use Rattle.hierarchy.specs.Grid.{Neighbours, Still}
use Rattle.faces.specs.Packing.{skip}
use Rattle.shapes.specs.declared.Shape.{Shape}
use Rattle.shapes.specs.Shapes.{points_of}
use Rattle.grids.specs.Grids.{neighbour}
use Rattle.neighbours.specs.declared.facets.Rims.{Rims}

-- ---- inside the face

-- Whether the border lies beside the point of levels l and indices i on the axis in place j.
abbrev pub on_border : ℕ → Side → (ℕ → ℕ) → (ℕ → ℕ) → Bool
on_border j b l i = is_border (l j) (numerator b (i j))

-- The number, within a face of k inner axes, of its parent there.
abbrev pub parent_number : ℕ → ℕ → Side → (ℕ → ℕ) → (ℕ → ℕ) → ℕ
parent_number k j b l i = number k (update l j (parent_level (l j) (numerator b (i j)))) (update i j (parent_index (numerator b (i j))))

-- ---- across the border

-- Levels without the one in place j.
unfoldable pub without : ℕ → (ℕ → ℕ) → ℕ → ℕ
without j l u = l (skip j u)

-- The same point without the axis, by its number within the face across the border, which has k − 1 inner axes: in the level list without the axis it stands at
-- the position without the axis's digit.
abbrev pub number_without : ℕ → ℕ → (ℕ → ℕ) → (ℕ → ℕ) → ℕ
number_without k j l i = first_of (k - 1) (without j l) + (position l i j + position l i k / 2 ^ sum_to l (suc j) * 2 ^ sum_to l j)

-- The code of the point across the border that x others come before from the first numbers on; with a zero border it is 0, since nothing lies there.
abbrev pub rim_on : Rims → Side → ℕ
rim_on rims Left = rims.lower
rim_on rims Right = rims.upper

unfoldable pub across : Option Rims → Side → ℕ → ℕ
across None b x = 0
across (Some rims) b x = suc (rim_on rims b + x)

-- The points that x others come before, from these numbers on.
abbrev pub further : Rims → ℕ → Rims
further rims x = record { lower = rims.lower + x; upper = rims.upper + x }

unfoldable pub moved_on : Option Rims → ℕ → Option Rims
moved_on None x = None
moved_on (Some rims) x = Some (further rims x)

-- ---- the face

-- A code apart from the points number lo to hi − 1 of a face from number `base` on: if it is a point, it stands in the face before them; if not there, it stands
-- behind them and does not move.
abbrev pub Apart : Neighbours → ℕ → ℕ → ℕ → ℕ → ℕ → Type 0
Apart nb t base lo hi q = 0 < q → (base < q) × (lo < q → (hi < q) × Still nb t q)

-- In the shape s, a face of k inner axes from number `base` on, with the axis of place t in place j among them and so first numbers across the border. Off the
-- border the neighbours are the parents inside the face; across it they are the same points without the axis, where there are any, and do not move.
pub record Sits (s : Shape) (t k j base : ℕ) (rims : Option Rims) : Type 0 where
  pub inside : base + points k s.level ≤ points_of s
  pub low : (r : Rims) → rims ≡ Some r → (r.lower ≤ points_of s) × (r.upper ≤ points_of s)
  pub inner : (q : ℕ) → q < points k s.level → (b : Side) → on_border j b (level_at k s.level q) (index_at k s.level q) ≡ false →
      neighbour s t b (suc (base + q)) ≡ suc (base + parent_number k j b (level_at k s.level q) (index_at k s.level q))
  pub outer : (q : ℕ) → q < points k s.level → (b : Side) → on_border j b (level_at k s.level q) (index_at k s.level q) ≡ true →
      neighbour s t b (suc (base + q)) ≡ across rims b (number_without k j (level_at k s.level q) (index_at k s.level q))
  pub apart : (q : ℕ) → q < points k s.level → (b : Side) → on_border j b (level_at k s.level q) (index_at k s.level q) ≡ true →
      Apart (neighbour s) t base base (base + points k s.level) (neighbour s t b (suc (base + q)))
