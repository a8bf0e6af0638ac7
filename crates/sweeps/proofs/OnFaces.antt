-- How a turn of a table with values on the border comes to the level lists of a face: where its loop stands before the face, the faces gone over hold what the whole
-- turn leaves them and all others what they held. So each level list of the face is met with those before it done and no other place changed, and the work on it
-- leaves its points what the whole turn leaves them.
-- Assumes nothing.
use mathlib.Core.Path.{◌≡◌}
use mathlib.Core.Bool.{Bool, true, false}
use mathlib.Core.List.{List, [], ◌∷◌, ◌++◌}
use Prim.Native.Nat.{ℕ, suc, ◌<◌}
use lib.IntN.{ℤ}
use lib.ListN.{length}
use Rattle.std.specs.Prelude.{Some}
use Rattle.shapes.specs.Shapes.{points_of}
use Rattle.grids.specs.Faces.{faces_of}
use Rattle.walks.specs.Walks.{Levels, walk_up, walk_down}
use Rattle.neighbours.specs.Faced.{FacetOf}
use Rattle.neighbours.specs.declared.facets.Line.{Line}
use Rattle.neighbours.specs.declared.facets.Facet.{Facet}
use Rattle.lists.specs.Lists.{whole_turn, came_to, ListTurned}
use Rattle.sweeps.specs.Sweeps.{lists_worked}
use Rattle.neighbours.proofs.Staying.{facet_end}
use Rattle.sweeps.proofs.Parted.{Parted}
use Rattle.sweeps.proofs.Coming.{came_down, turned_down, came_up, turned_up}
use Rattle.sweeps.proofs.FaceByFace.{starts_at, ends_at}
use Rattle.sweeps.proofs.FacesDown.{Down}
use Rattle.sweeps.proofs.FacesUp.{Up}

module _ (line : Line) (xs : List ℤ) (long : length xs ≡ points_of line.shape) (on : line.shape.border ≡ true) (f : ℕ) (in_row : f < faces_of line.shape)
    (facet : Facet) (is : FacetOf line f (Some facet)) (ys : List ℤ) where
  its_long : length xs ≡ points_of facet.line.shape
  its_long = rw is.1 long

  -- The table after the work on some level lists of the face.
  abbrev worked_on : Bool → List Levels → List ℤ
  worked_on ahead ls = lists_worked ahead facet.line.shape facet.line.place facet.base facet.axes ls ys

  module _ {odd : ℕ} (down : Down line xs (suc f) odd ys) (before after : List Levels) (l : Levels)
      (walk : walk_down facet.axes facet.line.shape.level ≡ before ++ (l ∷ after)) where
    comes_down : Parted (points_of facet.line.shape) (facet_end facet) (points_of facet.line.shape) xs (whole_turn true facet.line.shape facet.line.place xs) ys
    comes_down = rw (ends_at line on f in_row facet is, is.1) down.parted

    pub came_down_on_face : worked_on true before ≡ came_to true facet.line.shape facet.line.place facet.base facet.axes l xs
    came_down_on_face = came_down facet xs its_long ys comes_down before after l walk

    pub turned_down_on_face : ListTurned true facet.line.shape facet.line.place facet.base facet.axes l xs (worked_on true before) (worked_on true (before ++ (l ∷ [])))
    turned_down_on_face = turned_down facet xs its_long ys comes_down before after l walk

  module _ {odd : ℕ} (up : Up line xs f odd ys) (before after : List Levels) (l : Levels)
      (walk : walk_up facet.axes facet.line.shape.level ≡ before ++ (l ∷ after)) where
    comes_up : Parted (points_of facet.line.shape) 0 facet.base xs (whole_turn false facet.line.shape facet.line.place xs) ys
    comes_up = rw (starts_at line on f in_row facet is, is.1) up.parted

    pub came_up_on_face : worked_on false before ≡ came_to false facet.line.shape facet.line.place facet.base facet.axes l xs
    came_up_on_face = came_up facet xs its_long ys comes_up before after l walk

    pub turned_up_on_face : ListTurned false facet.line.shape facet.line.place facet.base facet.axes l xs (worked_on false before) (worked_on false (before ++ (l ∷ [])))
    turned_up_on_face = turned_up facet xs its_long ys comes_up before after l walk
