-- A turn as work on level lists, one after the other (document 02, d).
-- Assumes nothing.
use Rattle.std.specs.Prelude.{Bool, true, false, List, [], ◌∷◌, ℕ, zero, suc, ℤ, eqb, if◌then◌else◌}
use Rattle.faces.specs.Row.{marks_of, inner_of, row}
use Rattle.shapes.specs.declared.Shape.{Shape}
use Rattle.walks.specs.Walks.{Levels, walk_down, walk_up}
use Rattle.grids.specs.Faces.{faces_of}
use Rattle.lists.specs.Lists.{list_worked}

-- In the face of k inner axes from number `base` on: the work on the level lists of a walk, in its order.
unfoldable pub lists_worked : Bool → Shape → ℕ → ℕ → ℕ → List Levels → List ℤ → List ℤ
lists_worked ahead s t base k [] xs = xs
lists_worked ahead s t base k (l ∷ ls) xs = lists_worked ahead s t base k ls (list_worked ahead s t base k l xs)

-- The walk of a turn over the level lists of k axes and top level n: down forward (true), up back.
abbrev pub walk : Bool → ℕ → ℕ → List Levels
walk true k n = walk_down k n
walk false k n = walk_up k n

-- The work on face number f: on its level lists; none where the axis is a border axis of the face, since there nothing moves.
unfoldable pub face_worked : Bool → Shape → ℕ → ℕ → List ℤ → List ℤ
face_worked ahead s t f xs =
    if eqb (marks_of s.axes f t) 0
    then lists_worked ahead s t (row s.axes s.level f) (inner_of s.axes f) (walk ahead (inner_of s.axes f) s.level) xs
    else xs

-- A forward turn: the work on the first f faces, the last of these first.
unfoldable pub faces_down : Shape → ℕ → ℕ → List ℤ → List ℤ
faces_down s t zero xs = xs
faces_down s t (suc f) xs = faces_down s t f (face_worked true s t f xs)

-- A back turn: the work on k faces from number f on, in their order.
unfoldable pub faces_up : Shape → ℕ → ℕ → ℕ → List ℤ → List ℤ
faces_up s t f zero xs = xs
faces_up s t f (suc k) xs = faces_up s t (suc f) k (face_worked false s t f xs)

-- The work of a turn on all faces of the table.
unfoldable pub table_worked : Bool → Shape → ℕ → List ℤ → List ℤ
table_worked true s t xs = faces_down s t (faces_of s) xs
table_worked false s t xs = faces_up s t 0 (faces_of s) xs
