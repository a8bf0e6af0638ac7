-- The one point of a level that can have a weight above 0 on an axis.
-- Assumes nothing.
use Rattle.std.specs.Prelude.{ℕ, zero, suc, ◌+◌, ◌*◌, ◌/◌, ◌^◌, ltb, if◌then◌else◌}
use Rattle.surfaces.specs.Weights.{unit}

-- On one axis, the cell of level l in which x lies, counted from 0. The point in the middle of it alone can have a weight above 0 at x. At the unit itself no
-- point has, and 0 stands for the cell.
unfoldable pub cell_of : ℕ → ℕ → ℕ
cell_of x l = if ltb x unit then x * 2 ^ l / unit else 0

-- The same of the points of mark a: inside (0) the cell in which x lies, on a border the only cell there is, of level 0.
unfoldable pub marked_cell : ℕ → ℕ → ℕ → ℕ
marked_cell x zero l = cell_of x l
marked_cell x (suc a) l = 0

-- The index of the point in the middle of a cell.
abbrev pub index_of_cell : ℕ → ℕ
index_of_cell cell = 2 * cell + 1
