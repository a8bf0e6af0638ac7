-- The faces of a table with values on the border, one after the other (document 02, g): each face of the order has a number from 0 on, and its points are the numbers
-- from the first point of the face up to that of the next.
-- Assumes nothing.
use Rattle.std.specs.Prelude.{ℕ, suc, ◌+◌, ◌-◌}
use Rattle.naturals.specs.Sum.{sum_to}
use Rattle.numbering.specs.Count.{points}
use Rattle.numbering.specs.Inverse.{block}
use Rattle.faces.specs.Faces.{faces, borders, face_rank, mark_of}

-- How many faces a table of d axes has, with 0 to d border axes.
unfoldable pub all_faces : ℕ → ℕ
all_faces d = sum_to (faces d) (suc d)

-- The number of a face: all faces with fewer border axes come before it, and those with as many of a smaller rank.
unfoldable pub face_number : ℕ → (ℕ → ℕ) → ℕ
face_number d m = sum_to (faces d) (borders m d) + face_rank m d

-- How many border axes face number f has.
unfoldable pub borders_of : ℕ → ℕ → ℕ
borders_of d f = block (faces d) d f

-- Its marks: of the faces with as many border axes it is the one that so many others come before.
unfoldable pub marks_of : ℕ → ℕ → ℕ → ℕ
marks_of d f = mark_of d (borders_of d f) (f - sum_to (faces d) (borders_of d f))

-- How many inner axes it has.
unfoldable pub inner_of : ℕ → ℕ → ℕ
inner_of d f = d - borders_of d f

-- How many points it has: those of the sparse table over its inner axes.
unfoldable pub points_on : ℕ → ℕ → ℕ → ℕ
points_on d n f = points (inner_of d f) n

-- The number of its first point: the points of all faces before it. Past the last face that is N.
unfoldable pub row : ℕ → ℕ → ℕ → ℕ
row d n f = sum_to (points_on d n) f
