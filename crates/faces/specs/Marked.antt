-- Points of a table with values on the border, and their numbers (document 02, g): a point's number is how many points come before it. Faces stand one after the
-- other in their order, and on each stands the sparse table of document 01 over its inner axes, with the same top level.
-- Assumes nothing.
use Rattle.std.specs.Prelude.{◌≡◌, ℕ, suc, ◌+◌, ◌-◌, ◌*◌, ◌/◌, ◌%◌, ◌≤◌, ◌<◌, eqb, ltb, if◌then◌else◌}
use Rattle.naturals.specs.Sum.{sum_to}
use Rattle.numbering.specs.Count.{points}
use Rattle.numbering.specs.Point.{IsPoint}
use Rattle.numbering.specs.Number.{number}
use Rattle.numbering.specs.Inverse.{block, level_at, index_at}
use Rattle.faces.specs.Faces.{faces, borders, face_rank, mark_of}
use Rattle.faces.specs.Packing.{before, packed}

-- The marks m, levels l and indices i are those of a point of d axes and top level n: levels and indices as in document 01, no mark but 0, 1 and 2, and level 0 and
-- index 1 on a border axis. Past the axes there is nothing.
pub record Marked (d n : ℕ) (m l i : ℕ → ℕ) : Type 0 where
  pub point : IsPoint d n l i
  pub mark : (t : ℕ) → t < d → m t ≤ 2
  pub level : (t : ℕ) → t < d → 0 < m t → l t ≡ 0
  pub index : (t : ℕ) → t < d → 0 < m t → i t ≡ 1
  pub no_mark : (t : ℕ) → d ≤ t → m t ≡ 0
  pub no_level : (t : ℕ) → d ≤ t → l t ≡ 0
  pub no_index : (t : ℕ) → d ≤ t → i t ≡ 0

-- How many points lie on the faces with b border axes: on each of these faces as many as a sparse table over the d − b inner axes has. Over no axes that is 1, the
-- one point of a face without inner axes.
unfoldable pub layer : ℕ → ℕ → ℕ → ℕ
layer d n b = faces d b * points (d - b) n

-- N: the points of all faces, with 0 to d border axes.
unfoldable pub border_points : ℕ → ℕ → ℕ
border_points d n = sum_to (layer d n) (suc d)

-- The number of the first point of a face: all points of faces with fewer border axes, then those of each face that comes before with as many.
unfoldable pub face_start : ℕ → ℕ → (ℕ → ℕ) → ℕ
face_start d n m = sum_to (layer d n) (borders m d) + points (d - borders m d) n * face_rank m d

-- The number of a point within its face: document 01's, over the inner axes.
unfoldable pub in_face : ℕ → (ℕ → ℕ) → (ℕ → ℕ) → (ℕ → ℕ) → ℕ
in_face d m l i = number (d - borders m d) (packed m d l) (packed m d i)

-- The number of a point: that of the first point of its face, then the number within the face.
unfoldable pub border_number : ℕ → ℕ → (ℕ → ℕ) → (ℕ → ℕ) → (ℕ → ℕ) → ℕ
border_number d n m l i = face_start d n m + in_face d m l i

-- The point of number p, read off the number.
module _ (d n p : ℕ) where
  -- How many border axes it has.
  unfoldable pub borders_at : ℕ
  borders_at = block (layer d n) d p

  -- How many points of faces with as many border axes come before it.
  unfoldable pub within_layer : ℕ
  within_layer = p - sum_to (layer d n) borders_at

  -- Its number within its face.
  unfoldable pub number_at : ℕ
  number_at = within_layer % points (d - borders_at) n

  -- Its mark on axis t: the face is the one that so many others come before; 0 past axis d.
  unfoldable pub mark_at : ℕ → ℕ
  mark_at = mark_of d borders_at (within_layer / points (d - borders_at) n)

  -- Its level on axis t: on an inner axis that of the point of the face, at the axis's place among the inner ones; 0 on a border axis and past axis d.
  unfoldable pub border_level_at : ℕ → ℕ
  border_level_at t = if ltb t d then (if eqb (mark_at t) 0 then level_at (d - borders_at) n number_at (before mark_at t) else 0) else 0

  -- Its index on axis t, in the same way; 1 on a border axis, 0 past axis d.
  unfoldable pub border_index_at : ℕ → ℕ
  border_index_at t = if ltb t d then (if eqb (mark_at t) 0 then index_at (d - borders_at) n number_at (before mark_at t) else 1) else 0
