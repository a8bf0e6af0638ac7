-- `lists::flat` meets its contract: the run is all of the list, and where nothing lies across the border no point moves.
-- Assumes nothing.
use mathlib.Core.Path.{sym, ◌∙◌}
use Rattle.neighbours.proofs.Seeing.{seen}
use Rattle.lists.proofs.LevelZero.{flat_still, flat_asks, flat_stepped, list_order}
use Rattle.lists.proofs.flat.Goals as goal

pub overflow_sub-v : goal.overflow_sub-v
overflow_sub-v g c = list_order c.args.v

pub run_between-requires : goal.run_between-requires
run_between-requires g c =
    let (table, level, rims) = c.requires in
    flat_asks c.args.v level c.in-Some.rims (sym rims ∙ c.in-Some.is) table

pub returns-in-Some : goal.returns-in-Some
returns-in-Some g c =
    let (table, level, rims) = c.requires in
    flat_stepped c.args.v level c.in-Some.rims (sym rims ∙ c.in-Some.is) c.run_between.ensures

pub returns-in-None : goal.returns-in-None
returns-in-None g c =
    let (table, level, rims) = c.requires in
    flat_still (seen c.args.v) (sym rims ∙ c.in-None.is) level g.D.Direction.ahead c.args.table.now
