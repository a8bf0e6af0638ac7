-- What a turn of one axis in a box asks and leaves.
-- Assumes nothing.
use Rattle.std.specs.Prelude.{true, List, ◌≡◌, ℕ, suc, ◌+◌, ◌-◌, ◌*◌, ◌^◌, ◌≤◌, ◌<◌, ℤ, ◌+ℤ◌, ◌-ℤ◌, length, Option, Some, None}
use Rattle.integers.specs.Half.{half, in_limit}
use Rattle.numbering.specs.Point.{at}
use Rattle.numbering.specs.Parent.{twos}
use Rattle.hierarchy.specs.Turns.{value_at, forward}
use Rattle.shapes.specs.Shapes.{most_points}
use Rattle.component_grids.specs.Component.{points_to, place_at, neighbour}
use Rattle.component_boxes.specs.Boxes.{Near, Fits}
use Rattle.component_sweeps.specs.declared.Parents.{Parents}
use Rattle.component_sweeps.specs.declared.axis.Spread.{Spread}
use Rattle.component_sweeps.specs.declared.grid.Layout.{Layout}
use Rattle.component_sweeps.specs.declared.grid.GridBox.{GridBox}

-- The top levels of a layout, by axis.
abbrev pub tops_of : Layout → ℕ → ℕ
tops_of g = at g.tops

module _ (d : ℕ) (tops : ℕ → ℕ) (t : ℕ) (set : ℕ → Type 0) where
  -- A table of the grid's points: its values are within the content limit, and those of the set are so after a forward turn on axis t.
  pub record Limited (xs : List ℤ) : Type 0 where
    pub long : length xs ≡ points_to tops d
    pub before : (p : ℕ) → in_limit (value_at xs p) ≡ true
    pub after : (p : ℕ) → set p → in_limit (forward (neighbour d tops) t (value_at xs) (suc p)) ≡ true

  -- The points of the set are turned forward on axis t, and all others are as they were.
  pub record TurnedOn (xs ys : List ℤ) : Type 0 where
    pub long : length ys ≡ length xs
    pub on : (p : ℕ) → set p → value_at ys (suc p) ≡ forward (neighbour d tops) t (value_at xs) (suc p)
    pub off : (p : ℕ) → (set p → ⊥) → value_at ys (suc p) ≡ value_at xs (suc p)

-- ---- one value, and a set of values

-- The codes of the positions so far behind and ahead of position p, and 0 where there is none.
abbrev pub behind : ℕ → Option ℕ → ℕ
behind p (Some far) = suc (p - far)
behind p None = 0

abbrev pub ahead : ℕ → Option ℕ → ℕ
ahead p (Some far) = suc (p + far)
ahead p None = 0

-- The value at position p less half the sum of those of its parents.
unfoldable pub lowered : List ℤ → ℕ → Parents → ℤ
lowered xs p a = value_at xs (suc p) -ℤ half (value_at xs (behind p a.left) +ℤ value_at xs (ahead p a.right))

-- One position.
pub record CanStep (p : ℕ) (a : Parents) (xs : List ℤ) : Type 0 where
  pub inside : p < length xs
  pub before : (far : ℕ) → a.left ≡ Some far → far ≤ p
  pub after : (far : ℕ) → a.right ≡ Some far → p + far < length xs
  pub own : in_limit (value_at xs (suc p)) ≡ true
  pub behind_in : in_limit (value_at xs (behind p a.left)) ≡ true
  pub ahead_in : in_limit (value_at xs (ahead p a.right)) ≡ true

-- A set of positions.
module _ (a : Parents) (set : ℕ → Type 0) where
  -- Each of its values can be lowered, by values that are not of the set.
  pub record CanLower (xs : List ℤ) : Type 0 where
    pub each : (p : ℕ) → set p → CanStep p a xs
    pub before : (p far : ℕ) → set p → a.left ≡ Some far → set (p - far) → ⊥
    pub after : (p far : ℕ) → set p → a.right ≡ Some far → set (p + far) → ⊥

  -- Its values are lowered, and all others are as they were.
  pub record LoweredOn (xs ys : List ℤ) : Type 0 where
    pub long : length ys ≡ length xs
    pub on : (p : ℕ) → set p → value_at ys (suc p) ≡ lowered xs p a
    pub off : (p : ℕ) → (set p → ⊥) → value_at ys (suc p) ≡ value_at xs (suc p)

-- So many positions, each a unit from the one before.
pub record InRun (first width unit p : ℕ) : Type 0 where
  pub index : ℕ
  pub inside : index < width
  pub is : p ≡ first + index * unit

-- So many runs, each so far from the one before.
pub record InBand (first width lines apart unit p : ℕ) : Type 0 where
  pub line : ℕ
  pub index : ℕ
  pub below : line < lines
  pub inside : index < width
  pub is : p ≡ first + line * apart + index * unit

-- The positions of a spread's first run, and of all its runs.
abbrev pub Run : Spread → ℕ → ℕ → Type 0
Run b first = InRun first b.width b.unit

abbrev pub Band : Spread → ℕ → ℕ → Type 0
Band b first = InBand first b.width b.lines b.apart b.unit

-- A step beyond the last position is still a number of the width.
abbrev pub Room : Spread → List ℤ → Type 0
Room b xs = length xs + b.unit < 2 ^ 64

pub record CanRun (b : Spread) (first : ℕ) (a : Parents) (xs : List ℤ) : Type 0 where
  pub room : Room b xs
  pub step : 1 ≤ b.unit
  pub can : CanLower a (Run b first) xs

-- No two runs of a band overlap.
pub record CanBand (b : Spread) (first : ℕ) (a : Parents) (xs : List ℤ) : Type 0 where
  pub room : Room b xs
  pub some : 1 ≤ b.width
  pub step : 1 ≤ b.unit
  pub wide : 1 < b.lines → b.width * b.unit ≤ b.apart
  pub can : CanLower a (Band b first) xs

-- ---- the lines of a box

-- A turn of one axis in a box of a grid: the grid's axes and top levels, the box's levels and its middle point's position, the turned axis.
pub record Turn : Type 0 where
  pub axes : ℕ
  pub tops : ℕ → ℕ
  pub levels : ℕ → ℕ
  pub centre : ℕ
  pub axis : ℕ

module _ (g : Turn) where
  abbrev pub place_on : ℕ → ℕ → ℕ
  place_on p t = place_at g.tops p t

  abbrev pub middle : ℕ → ℕ
  middle t = place_at g.tops g.centre t

  abbrev pub InBox : ℕ → Type 0
  InBox = Near g.axes g.tops g.levels g.centre

  -- The turn of a set of the box's points.
  abbrev pub Asked : (ℕ → Type 0) → List ℤ → Type 0
  Asked set xs = Limited g.axes g.tops g.axis set xs

  abbrev pub Turned : (ℕ → Type 0) → List ℤ → List ℤ → Type 0
  Turned set xs ys = TurnedOn g.axes g.tops g.axis set xs ys

  pub record Ground : Type 0 where
    pub axis : g.axis < g.axes
    pub fits : Fits g.axes g.tops g.levels g.centre
    pub low : (t : ℕ) → g.tops t ≤ 8
    pub few : g.axes ≤ 8
    pub small : points_to g.tops g.axes ≤ most_points

  -- The box's points that have the places of position q on the axes from j on, the turned one aside.
  pub record Row (j q p : ℕ) : Type 0 where
    pub near : InBox p
    pub same : (u : ℕ) → j ≤ u → u < g.axes → (u ≡ g.axis → ⊥) → place_on p u ≡ place_on q u

  -- Those among them whose place on the turned axis is of a kind.
  pub record Along (j q : ℕ) (kind : ℕ → Type 0) (p : ℕ) : Type 0 where
    pub row : Row j q p
    pub there : kind (place_on p g.axis)

  -- Position q is the first of them: on the axes below j and on the turned one it has the box's lowest place.
  pub record First (j q : ℕ) : Type 0 where
    pub near : InBox q
    pub below : (u : ℕ) → u < j → u < g.axes → place_on q u + 2 ^ g.levels u ≡ middle u + 1
    pub own : place_on q g.axis + 2 ^ g.levels g.axis ≡ middle g.axis + 1

  -- The points of the lines of a band with one place on the turned axis: those that have the places of position q on the axes from j on.
  abbrev pub Across : ℕ → ℕ → ℕ → Type 0
  Across j q = Along j q (λ x. x ≡ place_on q g.axis)

  -- From the first of them on, they are a band.
  pub record Banded (j width lines apart unit : ℕ) : Type 0 where
    pub some : 1 ≤ width
    pub step : 1 ≤ unit
    pub wide : 1 < lines → width * unit ≤ apart
    pub into : (q p : ℕ) → First j q → InBand q width lines apart unit p → Across j q p
    pub from : (q p : ℕ) → First j q → Across j q p → InBand q width lines apart unit p

-- The turn of axis t in a box.
abbrev pub turn_of : GridBox → ℕ → Turn
turn_of b t =
    record {
      axes = b.grid.now.axes;
      tops = tops_of b.grid.now;
      levels = at b.levels;
      centre = b.centre;
      axis = t;
    }

-- A place that reaches so far.
abbrev pub Reaches : ℕ → ℕ → Type 0
Reaches reach x = 2 ^ twos x ≡ reach

-- The parents of a place that reaches so far: none where that is an end of the axis.
pub record ParentsAt (stride end x reach : ℕ) (a : Parents) : Type 0 where
  pub left_some : (far : ℕ) → a.left ≡ Some far → (far ≡ stride * reach) × (x ≡ reach → ⊥)
  pub left_none : a.left ≡ None → x ≡ reach
  pub right_some : (far : ℕ) → a.right ≡ Some far → (far ≡ stride * reach) × (x + reach ≡ end → ⊥)
  pub right_none : a.right ≡ None → x + reach ≡ end

-- ---- the whole box

-- Position q is the box's first, with the lowest place on each axis.
pub record Corner (b : GridBox) (q : ℕ) : Type 0 where
  pub inside : q < points_to (tops_of b.grid.now) b.grid.now.axes
  pub lowest : (u : ℕ) → u < b.grid.now.axes → place_at (tops_of b.grid.now) q u + 2 ^ at b.levels u ≡ place_at (tops_of b.grid.now) b.centre u + 1

-- A band has the box's points on so many axes; and neither a run nor the lines reach beyond the points of these axes.
pub record Covers (b : GridBox) (t : ℕ) (s : Spread) : Type 0 where
  pub few : s.from ≤ b.grid.now.axes
  pub many : 1 ≤ s.lines
  pub far : 1 ≤ s.apart
  pub step : 1 ≤ s.unit
  pub short : s.width * s.unit ≤ points_to (tops_of b.grid.now) s.from
  pub low : s.lines * s.apart ≤ points_to (tops_of b.grid.now) s.from
  pub banded : Banded (turn_of b t) s.from s.width s.lines s.apart s.unit
