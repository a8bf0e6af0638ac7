-- `raise_faces` meets its contract: each face leaves the table as the turn has it one face further, until all are done.
-- Assumes nothing.
use mathlib.Core.Path.{◌≡◌, ap}
use Rattle.std.specs.Prelude.{Some}
use Prim.Native.Nat.{◌<◌}
use native.Mathlib.Omega.{arith}
use native.Mathlib.Numerals.{add-one}
use Rattle.faces.specs.Row.{all_faces}
use Rattle.grids.specs.Faces.{faces_of}
use Rattle.grids.proofs.Faces.{faces_bordered}
use Rattle.lists.specs.Lists.{whole_turn}
use Rattle.neighbours.specs.Faced.{FacetOf}
use Rattle.sweeps.proofs.FacesUp.{up_starts, up_few, up_room, up_ends, up_passed, up_face}
use Rattle.sweeps.proofs.raise_faces.Goals.{In-Some, After-loop-f, in-Some, in_default}
use Rattle.sweeps.proofs.raise_faces.Goals as goal

pub loop-f-init : goal.loop-f-init
loop-f-init c = up_starts c.args.line c.args.table.now c.requires.1.0

-- the face of a turn of the loop, from the table that the faces before it left
below : (c : In-Some) → c.loop-f.f < faces_of c.args.line.shape
below c =
    omega (
      arith,
      c.loop-f-test.true,
      c.of-layout.result.all,
      ap all_faces c.of-layout.ensures.0,
      faces_bordered c.args.line.shape c.requires.0,
    )

there : (c : In-Some) → FacetOf c.args.line c.loop-f.f (Some c.in-Some.facet)
there c = rw c.in-Some.is at c.of_face.ensures

pub raise_face-odd-requires : goal.raise_face-odd-requires
raise_face-odd-requires c =
    let seen = (goal.at.raise_face-odd-requires c).In-Some in
    (rw (there seen).1 c.loop-f.invariant.parted.long, up_room c.args.line c.args.table.now c.requires.1.0 c.loop-f.invariant c.requires.1.1)

pub overflow_add-odd : goal.overflow_add-odd
overflow_add-odd c =
    let seen = (goal.at.overflow_add-odd c).In-Some in
    omega (
      arith,
      up_few c.args.line c.args.table.now c.requires.1.0
          (up_face c.args.line c.args.table.now c.requires.1.0 c.requires.0 c.loop-f.f (below seen) c.loop-f.invariant c.in-Some.facet (there seen)
          c.raise_face-odd.result c.raise_face-odd.new.table
          c.raise_face-odd.ensures.walked c.raise_face-odd.ensures.turned c.raise_face-odd.ensures.odds)
          (below seen),
      rw (there seen).1 at c.in-Some.facet.line.small,
    )

pub loop-f-preserved : goal.loop-f-preserved
loop-f-preserved c =
    let here : c.loop-f.f < faces_of c.args.line.shape =
    omega (
      arith,
      c.loop-f-test.true,
      c.of-layout.result.all,
      ap all_faces c.of-layout.ensures.0,
      faces_bordered c.args.line.shape c.requires.0,
    ) in
    elim c.match-of_face.branch [
      | in-Some w ↦
          rw (add-one, w.odd-is, w.table-is)
          (up_face c.args.line c.args.table.now c.requires.1.0 c.requires.0 c.loop-f.f here c.loop-f.invariant w.in-Some.facet
          (rw w.in-Some.is at c.of_face.ensures) w.raise_face-odd.result w.raise_face-odd.new.table
          w.raise_face-odd.ensures.walked w.raise_face-odd.ensures.turned w.raise_face-odd.ensures.odds)
      | in_default w ↦
          rw (add-one, w.odd-is, w.table-is)
          (up_passed c.args.line c.args.table.now c.requires.1.0 c.requires.0 c.loop-f.f here c.loop-f.invariant
          (rw w.in_default.is at c.of_face.ensures))
    ]

-- all faces are done
all_done : (c : After-loop-f) → c.loop-f.f ≡ faces_of c.args.line.shape
all_done c =
    omega (
      arith,
      c.loop-f-test.false,
      c.loop-f.auto.f-end,
      c.of-layout.result.all,
      ap all_faces c.of-layout.ensures.0,
      faces_bordered c.args.line.shape c.requires.0,
    )

pub returns-clause-walked : goal.returns-clause-walked
returns-clause-walked c = (up_ends c.args.line c.args.table.now c.requires.1.0 (all_done c) c.loop-f.invariant).0

pub returns-clause-turned : goal.returns-clause-turned
unfolding whole_turn
returns-clause-turned c = (up_ends c.args.line c.args.table.now c.requires.1.0 (all_done c) c.loop-f.invariant).1

pub returns-clause-odds : goal.returns-clause-odds
returns-clause-odds c = (up_ends c.args.line c.args.table.now c.requires.1.0 (all_done c) c.loop-f.invariant).2
