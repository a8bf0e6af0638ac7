-- With a zero border there is one face, inside on every axis, and its lists are the level vectors themselves.
-- Assumes nothing.
use mathlib.Core.Bool.{Bool, false}
use mathlib.Core.List.{List}
use mathlib.Core.Path.{◌≡◌}
use Prim.Native.Nat.{ℕ, ◌<◌}
use native.Mathlib.Omega.{arith}
use lib.IntN.{ℤ}
use lib.ListN.{length}
use Rattle.numbering.specs.Point.{at}
use Rattle.numbered.specs.Numbered.{unmarked}
use Rattle.faces.proofs.Row.{first_unmarked, first_inner, row_zero}
use Rattle.shapes.specs.declared.Shape.{Shape}
use Rattle.shapes.proofs.Layers.{points_plain}
use Rattle.grids.specs.Faces.{faces_of}
use Rattle.grids.proofs.Faces.{FaceOf, face_of_row}
use Rattle.vectors.specs.declared.LevelVector.{LevelVector}
use Rattle.vectors.specs.Steps.{vectors_before}
use Rattle.evaluation.specs.Steps.{Evaluable}
use Rattle.evaluation.proofs.Lists.{walks_inner, whole_unmarked, VectorAt, vector_in, vector_low}
use Rattle.evaluation.proofs.Walking.{most_vectors, Summed}
use Rattle.evaluation.proofs.Reaching.{Tallied}
use Rattle.evaluation.proofs.Stepping.{Next, next_on_face}

module _ (s : Shape) (off : s.border ≡ false) where
  some_face : 0 < faces_of s
  unfolding faces_of
  some_face = rw off (omega arith)

  inside_face : FaceOf s unmarked s.axes 0
  inside_face = rw (first_unmarked s.axes, first_inner s.axes, row_zero s.axes s.level) at (face_of_row s 0 some_face)

-- The level vector at hand, where points are left.
pub next_inside : {asked : Bool} {s : Shape} {xs : List ℤ} {cs : List ℕ} {high : ℤ} {low total first : ℕ} {vector : LevelVector} →
    Evaluable s xs cs → s.border ≡ false → VectorAt s.axes s.level 0 first vector → first < length xs →
    Summed s xs (at cs) high low first (vectors_before s.axes (at vector.levels)) →
    Tallied asked s xs (at cs) total first (vectors_before s.axes (at vector.levels)) →
    Next asked s xs cs unmarked (at vector.levels) high low total first (vectors_before s.axes (at vector.levels)) vector.sum
next_inside {s = s} {first = first} {vector} asks off here more summed tallied =
    next_on_face 0 asks (inside_face s off) (walks_inner s.axes s.level) here
    (vector_low here (omega (arith, more, asks.long, points_plain s off)))
    (whole_unmarked s.axes (at vector.levels) (vector_in here).rest)
    (omega arith)
    (omega (arith, most_vectors s.axes s.level asks.some asks.listed.few asks.low (omega (arith, points_plain s off, asks.small))))
    summed
    tallied
