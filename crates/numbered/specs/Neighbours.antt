-- Neighbours by number on a grid, with a zero border or with values on it: code 0 is no point, code p + 1 is point number p.
-- Assumes nothing.
use Rattle.std.specs.Prelude.{Bool, true, false, ◌&&◌, ℕ, zero, suc, eqb, ltb, if◌then◌else◌}
use Rattle.numbering.specs.declared.Side.{Side}
use Rattle.numbering.specs.Parent.{numerator, is_border, parent_level, parent_index, update}
use Rattle.numbered.specs.Numbered.{Numbered, mark_of}

-- What lies beside a point on one axis: no value, or what has this mark, level and index there.
pub data Move : Type 0 where
  stop : Move
  to : ℕ → ℕ → ℕ → Move

-- Across the border: the border point on that side, or no value with a zero border.
unfoldable pub across : Bool → Side → Move
across true side = to (mark_of side) 0 1
across false side = stop

-- Beside mark a, level l and index i: on the border nothing, since a border point does not move on its axis; inside, the border where the neighbour's coordinate
-- is 0 or 1, and else the parent.
unfoldable pub move : Bool → Side → ℕ → ℕ → ℕ → Move
move border side a l i =
    if eqb a 0
    then (if is_border l (numerator side i) then across border side else to 0 (parent_level l (numerator side i)) (parent_index (numerator side i)))
    else stop

-- What lies beside a point: no value, or a point with its marks, levels and indices.
pub data Place : Type 0 where
  nowhere : Place
  somewhere : (ℕ → ℕ) → (ℕ → ℕ) → (ℕ → ℕ) → Place

-- A point moved on axis t.
unfoldable pub moved : ℕ → (ℕ → ℕ) → (ℕ → ℕ) → (ℕ → ℕ) → Move → Place
moved t m l i stop = nowhere
moved t m l i (to a v w) = somewhere (update m t a) (update l t v) (update i t w)

-- What lies beside the point of marks m, levels l and indices i on axis t, and beside what lies beside a point.
unfoldable pub beside : Bool → ℕ → Side → (ℕ → ℕ) → (ℕ → ℕ) → (ℕ → ℕ) → Place
beside border t side m l i = moved t m l i (move border side (m t) (l t) (i t))

unfoldable pub beyond : Bool → ℕ → Side → Place → Place
beyond border t side nowhere = nowhere
beyond border t side (somewhere m l i) = beside border t side m l i

-- The code of what lies beside a point.
unfoldable pub code_of : Numbered → Place → ℕ
code_of g nowhere = 0
code_of g (somewhere m l i) = suc (g.number m l i)

-- The neighbour of a code on axis t (from 0), on either side: beside no point, past the last number and on an axis that there is not it is no point.
unfoldable pub neighbour : Numbered → ℕ → Side → ℕ → ℕ
neighbour g t side zero = 0
neighbour g t side (suc p) =
    if ltb p g.count && ltb t g.axes then code_of g (beside g.border t side (g.mark p) (g.level p) (g.index p)) else 0

-- How deep a mark and a level lie on an axis: 0 on the border, else the level and one more.
unfoldable pub deep : ℕ → ℕ → ℕ
deep a l = if eqb a 0 then suc l else 0

-- How deep a code lies on an axis.
unfoldable pub depth : Numbered → ℕ → ℕ → ℕ
depth g t zero = 0
depth g t (suc p) = deep (g.mark p t) (g.level p t)
