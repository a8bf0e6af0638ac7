-- The faces of a table with values on the border, by value: what the walks over a table read of each face (document 02, g).
-- Assumes nothing.
use Rattle.std.specs.Prelude.{List, [], ◌≡◌, ℕ, suc, eqb, get_or, if◌then◌else◌}
use Rattle.numbering.specs.Point.{at}
use Rattle.faces.specs.Row.{marks_of, inner_of, row}
use Rattle.layouts.specs.declared.Face.{Face}

-- The last level list of k axes and top level n: it has n on the last axis and 0 elsewhere.
unfoldable pub last_levels : ℕ → ℕ → ℕ → ℕ
last_levels k n t = if eqb (suc t) k then n else 0

-- A face by value is face number f of d axes and top level n: it has its marks, how many inner axes it has, its last level list over these, and the number of its
-- first point.
pub record IsFace (d n f : ℕ) (face : Face) : Type 0 where
  pub marks : at face.marks ≡ marks_of d f
  pub levels : at face.levels ≡ last_levels (inner_of d f) n
  pub inner : face.inner ≡ inner_of d f
  pub start : face.start ≡ row d n f

-- What a list of faces has at a place.
abbrev pub no_face : Face
no_face = record { marks = []; levels = []; inner = 0; start = 0 }

abbrev pub face_at : List Face → ℕ → Face
face_at faces f = get_or faces f no_face
