use mathlib.Core.Path.{sym}
use Rattle.house_writer.proofs.Rates.{placed_starts, placed_room, placed_steps}
use borrow.Author.Rules.{rules}
use Rattle.house_writer.proofs.put_rates.Goals as goal

pub loop-number-init : goal.loop-number-init
loop-number-init g c = placed_starts _ _

pub put_number-at-requires : goal.put_number-at-requires
put_number-at-requires g c = placed_room c.loop-number.invariant c.requires c.in-Some.number (sym c.in-Some.ensures)

pub loop-number-preserved : goal.loop-number-preserved
loop-number-preserved g c =
    let next = placed_steps c.loop-number.invariant c.requires c.in-Some.number (sym c.in-Some.ensures) c.put_number-at.ensures in
    search (rules, next)
