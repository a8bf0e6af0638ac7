-- With a zero border the table is one face, and a turn comes to it with nothing done. So it comes to each level list of its walk with the lists before it in the walk
-- done and no other place changed, and the work on the list leaves its points what the whole turn leaves them.
-- Assumes nothing.
use mathlib.Core.Path.{◌≡◌}
use mathlib.Core.Bool.{Bool, true, false}
use mathlib.Core.List.{List, [], ◌∷◌, ◌++◌}
use lib.IntN.{ℤ}
use lib.ListN.{length}
use Rattle.std.specs.Prelude.{None}
use Rattle.shapes.specs.Shapes.{points_of}
use Rattle.walks.specs.Walks.{Levels, walk_up, walk_down}
use Rattle.neighbours.specs.declared.facets.Line.{Line}
use Rattle.neighbours.specs.declared.facets.Facet.{Facet}
use Rattle.neighbours.proofs.Whole.{whole}
use Rattle.lists.specs.Lists.{whole_turn, came_to, ListTurned}
use Rattle.sweeps.specs.Sweeps.{lists_worked}
use Rattle.sweeps.proofs.Parted.{none_parted}
use Rattle.neighbours.proofs.Staying.{facet_end}
use Rattle.sweeps.proofs.Faces.{whole_end}
use Rattle.sweeps.proofs.Coming.{StandsDown, StandsUp, came_down, turned_down, came_up, turned_up}

module _ (line : Line) (plain : line.shape.border ≡ false) (xs : List ℤ) (long : length xs ≡ points_of line.shape) where
  -- The face of all axes.
  abbrev all : Facet
  all =
      record {
        line = line;
        axes = line.shape.axes;
        place = line.place;
        base = 0;
        rims = None;
        few = line.few;
        inner = line.axis;
        sits = whole line plain;
      }

  -- The table after the work on some level lists.
  abbrev worked : Bool → List Levels → List ℤ
  worked ahead ls = lists_worked ahead line.shape line.place 0 line.shape.axes ls xs

  nothing_down : StandsDown all xs long (facet_end all) xs
  nothing_down = rw (whole_end line plain xs long) (none_parted (points_of line.shape) (points_of line.shape) xs (whole_turn true line.shape line.place xs) long)

  module _ (before after : List Levels) (l : Levels) (walk : walk_down line.shape.axes line.shape.level ≡ before ++ (l ∷ after)) where
    pub came_down_plain : worked true before ≡ came_to true line.shape line.place 0 line.shape.axes l xs
    came_down_plain = came_down all xs long xs nothing_down before after l walk

    pub turned_down_plain : ListTurned true line.shape line.place 0 line.shape.axes l xs (worked true before) (worked true (before ++ (l ∷ [])))
    turned_down_plain = turned_down all xs long xs nothing_down before after l walk

  nothing_up : StandsUp all xs long 0 xs
  nothing_up = none_parted (points_of line.shape) 0 xs (whole_turn false line.shape line.place xs) long

  module _ (before after : List Levels) (l : Levels) (walk : walk_up line.shape.axes line.shape.level ≡ before ++ (l ∷ after)) where
    pub came_up_plain : worked false before ≡ came_to false line.shape line.place 0 line.shape.axes l xs
    came_up_plain = came_up all xs long xs nothing_up before after l walk

    pub turned_up_plain : ListTurned false line.shape line.place 0 line.shape.axes l xs (worked false before) (worked false (before ++ (l ∷ [])))
    turned_up_plain = turned_up all xs long xs nothing_up before after l walk
