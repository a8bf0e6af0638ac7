-- `lower_faces` meets its contract: each face leaves the table as the turn has it one face further, until none is left.
-- Assumes nothing.
use mathlib.Core.Path.{◌≡◌, ap, sym, ◌∙◌}
use Rattle.std.specs.Prelude.{Some}
use Prim.Native.Nat.{ℕ, suc, ◌-◌, ◌≤◌, ◌<◌}
use native.Mathlib.Omega.{arith}
use Rattle.naturals.specs.Sum.{sum_to}
use Rattle.numbering.specs.Point.{at}
use Rattle.faces.specs.Row.{all_faces}
use Rattle.grids.specs.Faces.{faces_of}
use Rattle.grids.proofs.Faces.{faces_bordered}
use Rattle.lists.specs.Lists.{whole_turn}
use Rattle.layouts.specs.Layouts.{last_levels}
use Rattle.layouts.proofs.LastLevels.{last_past, last_sum}
use Rattle.neighbours.specs.Faced.{FacetOf}
use Rattle.neighbours.specs.declared.facets.Line.{Line}
use Rattle.sweeps.proofs.Standing.{last_made}
use Rattle.sweeps.proofs.FacesDown.{Down, down_starts, down_few, down_room, down_ends, down_passed, down_face}
use Rattle.sweeps.proofs.lower_faces.Goals.{After-of-layout, In-Some, After-face-face, After-loop-f}
use Rattle.sweeps.proofs.lower_faces.Goals as goal

-- the layout has all faces of the shape
all : (c : After-of-layout) → c.of-layout.result.count ≡ faces_of c.args.line.shape
all c = c.of-layout.result.all ∙ ap all_faces c.of-layout.ensures.0 ∙ sym (faces_bordered c.args.line.shape c.requires.0)

pub loop-f-init : goal.loop-f-init
loop-f-init c = down_starts c.args.line c.args.table.now c.requires.1.0 c.of-layout.result.count (all (goal.at.loop-f-init c).After-of-layout)

-- the face of a turn of the loop, from the table that the faces after it left
below : (c : In-Some) → c.loop-f.f - 1 < faces_of c.args.line.shape
below c =
    omega (
      arith,
      c.loop-f.auto.f,
      c.loop-f-test.true,
      c.of-layout.result.all,
      ap all_faces c.of-layout.ensures.0,
      faces_bordered c.args.line.shape c.requires.0,
    )

there : (c : In-Some) → FacetOf c.args.line (c.loop-f.f - 1) (Some c.in-Some.facet)
there c = rw c.in-Some.is at c.of_face.ensures

so_far : (c : In-Some) → Down c.args.line c.args.table.now (suc (c.loop-f.f - 1)) c.loop-f.odd c.loop-f.table
so_far c =
    let same : suc (c.loop-f.f - 1) ≡ c.loop-f.f = omega (arith, c.loop-f-test.true) in
    rw same c.loop-f.invariant

-- its last level list, as the layout has it
its_levels : (c : After-face-face) → at c.face-face.result.levels ≡ last_levels c.in-Some.facet.axes c.args.line.shape.level
its_levels c =
    let seen = (goal.at.After-face-face c).In-Some in
    (rw (c.of-layout.ensures.0, c.of-layout.ensures.1) at c.face-face.ensures).levels
    ∙ ap (λ (k : ℕ). last_levels k c.args.line.shape.level) (sym (there seen).2)

pub of-last-requires : goal.of-last-requires
of-last-requires c =
    let facet = c.in-Some.facet in
    let some : 1 ≤ facet.axes = omega (arith, facet.inner) in
    let is = its_levels (goal.at.of-last-requires c).After-face-face in (
      some,
      facet.few,
      omega (arith, ap (λ (l : ℕ → ℕ). sum_to l facet.axes) is, last_sum facet.axes c.args.line.shape.level some, c.args.line.top),
      λ t past. ap (λ (l : ℕ → ℕ). l t) is ∙ last_past facet.axes c.args.line.shape.level some t past,
    )

pub lower_face-odd-requires : goal.lower_face-odd-requires
lower_face-odd-requires c =
    let seen = (goal.at.lower_face-odd-requires c).In-Some in
    let there = there seen in (
      (rw there.1 c.loop-f.invariant.parted.long, down_room c.args.line c.args.table.now c.requires.1.0 c.loop-f.invariant c.requires.1.1),
      last_made c.in-Some.facet c.of-last.result c.args.line.shape.level (ap (λ (l : Line). l.shape.level) there.1)
          (its_levels (goal.at.lower_face-odd-requires c).After-face-face)
          c.of-last.ensures,
    )

pub overflow_add-odd : goal.overflow_add-odd
overflow_add-odd c =
    let seen = (goal.at.overflow_add-odd c).In-Some in
    omega (
      arith,
      down_few c.args.line c.args.table.now c.requires.1.0
          (down_face c.args.line c.args.table.now c.requires.1.0 c.requires.0 (c.loop-f.f - 1) (below seen) (so_far seen) c.in-Some.facet (there seen)
          c.lower_face-odd.result c.lower_face-odd.new.table
          c.lower_face-odd.ensures.walked c.lower_face-odd.ensures.turned c.lower_face-odd.ensures.odds),
      rw (there seen).1 at c.in-Some.facet.line.small,
    )

pub loop-f-preserved-in-Some : goal.loop-f-preserved-in-Some
loop-f-preserved-in-Some c =
    let seen = (goal.at.loop-f-preserved-in-Some c).In-Some in
    down_face c.args.line c.args.table.now c.requires.1.0 c.requires.0 (c.loop-f.f - 1) (below seen) (so_far seen) c.in-Some.facet (there seen)
    c.lower_face-odd.result c.lower_face-odd.new.table
    c.lower_face-odd.ensures.walked c.lower_face-odd.ensures.turned c.lower_face-odd.ensures.odds

pub loop-f-preserved : goal.loop-f-preserved
loop-f-preserved c =
    let below : c.loop-f.f - 1 < faces_of c.args.line.shape =
    omega (
      arith,
      c.loop-f.auto.f,
      c.loop-f-test.true,
      c.of-layout.result.all,
      ap all_faces c.of-layout.ensures.0,
      faces_bordered c.args.line.shape c.requires.0,
    ) in
    let same : suc (c.loop-f.f - 1) ≡ c.loop-f.f = omega (arith, c.loop-f-test.true) in
    down_passed c.args.line c.args.table.now c.requires.1.0 c.requires.0 (c.loop-f.f - 1) below (rw same c.loop-f.invariant)
    (rw c.in_default.is at c.of_face.ensures)

-- no face is left
ended : (c : After-loop-f) → Down c.args.line c.args.table.now 0 c.loop-f.odd c.loop-f.table
ended c =
    let none : c.loop-f.f ≡ 0 = omega (arith, c.loop-f-test.false) in
    rw none at c.loop-f.invariant

pub returns-clause-walked : goal.returns-clause-walked
returns-clause-walked c = (down_ends c.args.line c.args.table.now c.requires.1.0 (ended c)).0

pub returns-clause-turned : goal.returns-clause-turned
unfolding whole_turn
returns-clause-turned c = (down_ends c.args.line c.args.table.now c.requires.1.0 (ended c)).1

pub returns-clause-odds : goal.returns-clause-odds
returns-clause-odds c = (down_ends c.args.line c.args.table.now c.requires.1.0 (ended c)).2
