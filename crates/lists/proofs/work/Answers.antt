-- `lists::work` meets its contract: at level 0 on the axis or above all points of the list are stepped, and the three clauses say what that means.
-- Assumes nothing.
use mathlib.Core.Path.{◌≡◌, sym, ◌∙◌}
use mathlib.Core.List.{List}
use Prim.Native.Nat.{ℕ}
use native.Mathlib.Omega.{arith}
use lib.IntN.{ℤ}
use lib.ListN.{length}
use Rattle.numbering.specs.Point.{at}
use Rattle.neighbours.proofs.Seeing.{seen}
use Rattle.lists.specs.Lists.{list_worked, came_to, ListTurned}
use Rattle.lists.specs.Steps.{Stepped}
use Rattle.lists.proofs.Blocks.{on_line}
use Rattle.lists.proofs.Lists.{list_worked_lem}
use Rattle.lists.proofs.Turned.{work_turned}
use Rattle.lists.proofs.work.Given.{Over}
use Rattle.lists.proofs.work.Goals.{Start}
use Rattle.lists.proofs.work.Goals as goal

-- What the stepped points of a list say, as the table and as what the whole turn leaves.
module _ (g : Over) (c : Start g) {k : ℕ} {ys : List ℤ}
    (done : Stepped g.D.Direction.ahead c.args.v.facet.line.shape c.args.v.facet.line.place c.args.v.start c.args.v.end c.args.table.now k ys) where
  worked : ys ≡ list_worked g.D.Direction.ahead c.args.v.facet.line.shape c.args.v.facet.line.place c.args.v.facet.base c.args.v.facet.axes (at c.args.v.vector.levels) c.args.table.now
  worked = list_worked_lem (seen c.args.v) (on_line c.args.v.facet.line c.requires.1.0) done

  turned : (xs : List ℤ) → length xs ≡ length c.args.table.now →
      c.args.table.now ≡ came_to g.D.Direction.ahead c.args.v.facet.line.shape c.args.v.facet.line.place c.args.v.facet.base c.args.v.facet.axes (at c.args.v.vector.levels) xs →
      ListTurned g.D.Direction.ahead c.args.v.facet.line.shape c.args.v.facet.line.place c.args.v.facet.base c.args.v.facet.axes (at c.args.v.vector.levels) xs c.args.table.now ys
  turned xs long came =
      work_turned (seen c.args.v) g.D.Direction.ahead k xs c.args.table.now ys done (long ∙ c.requires.1.0) came

-- ---- level 0

pub flat-requires : goal.flat-requires
flat-requires g c = (c.requires.1, c.if-v-eq0.true, c.requires.2)

pub returns-then-v-eq0-clause-worked : goal.returns-then-v-eq0-clause-worked
returns-then-v-eq0-clause-worked g c = worked g (goal.at.returns-then-v-eq0-clause-worked g c).Start c.flat.ensures

pub returns-then-v-eq0-clause-turned : goal.returns-then-v-eq0-clause-turned
returns-then-v-eq0-clause-turned g c = turned g (goal.at.returns-then-v-eq0-clause-turned g c).Start c.flat.ensures

-- ---- with points across the border

pub sized_blocks-requires-in-Some : goal.sized_blocks-requires-in-Some
sized_blocks-requires-in-Some g c = (c.requires.0, c.requires.1, omega (arith, c.if-v-eq0.false), sym c.in-Some.is ∙ c.requires.2)

pub returns-else-v-eq1-clause-worked : goal.returns-else-v-eq1-clause-worked
returns-else-v-eq1-clause-worked g c = worked g (goal.at.returns-else-v-eq1-clause-worked g c).Start c.sized_blocks-in-Some.ensures

pub returns-else-v-eq1-clause-turned : goal.returns-else-v-eq1-clause-turned
returns-else-v-eq1-clause-turned g c = turned g (goal.at.returns-else-v-eq1-clause-turned g c).Start c.sized_blocks-in-Some.ensures

pub sized_blocks-requires : goal.sized_blocks-requires
sized_blocks-requires g c = (c.requires.0, c.requires.1, omega (arith, c.if-v-eq0.false), sym c.in-Some.is ∙ c.requires.2)

pub returns-then-v-eq1-clause-worked : goal.returns-then-v-eq1-clause-worked
returns-then-v-eq1-clause-worked g c = worked g (goal.at.returns-then-v-eq1-clause-worked g c).Start c.sized_blocks.ensures

pub returns-then-v-eq1-clause-turned : goal.returns-then-v-eq1-clause-turned
returns-then-v-eq1-clause-turned g c = turned g (goal.at.returns-then-v-eq1-clause-turned g c).Start c.sized_blocks.ensures

-- ---- with nothing there

pub sized_blocks-requires-in-None : goal.sized_blocks-requires-in-None
sized_blocks-requires-in-None g c = (c.requires.0, c.requires.1, omega (arith, c.if-v-eq0.false), sym c.in-None.is ∙ c.requires.2)

pub returns-else-v-eq1-2-clause-worked : goal.returns-else-v-eq1-2-clause-worked
returns-else-v-eq1-2-clause-worked g c = worked g (goal.at.returns-else-v-eq1-2-clause-worked g c).Start c.sized_blocks-in-None.ensures

pub returns-else-v-eq1-2-clause-turned : goal.returns-else-v-eq1-2-clause-turned
returns-else-v-eq1-2-clause-turned g c = turned g (goal.at.returns-else-v-eq1-2-clause-turned g c).Start c.sized_blocks-in-None.ensures

pub sized_blocks-requires-then-v-eq1-2 : goal.sized_blocks-requires-then-v-eq1-2
sized_blocks-requires-then-v-eq1-2 g c = (c.requires.0, c.requires.1, omega (arith, c.if-v-eq0.false), sym c.in-None.is ∙ c.requires.2)

pub returns-then-v-eq1-2-clause-worked : goal.returns-then-v-eq1-2-clause-worked
returns-then-v-eq1-2-clause-worked g c = worked g (goal.at.returns-then-v-eq1-2-clause-worked g c).Start c.sized_blocks-then-v-eq1-2.ensures

pub returns-then-v-eq1-2-clause-turned : goal.returns-then-v-eq1-2-clause-turned
returns-then-v-eq1-2-clause-turned g c = turned g (goal.at.returns-then-v-eq1-2-clause-turned g c).Start c.sized_blocks-then-v-eq1-2.ensures
