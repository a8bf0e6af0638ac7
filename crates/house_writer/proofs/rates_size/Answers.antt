use mathlib.Core.Path.{sym}
use borrow.Author.Rules.{rules}
use Rattle.house_writer.proofs.Rates.{sized_starts, sized_fits, sized_steps}
use Rattle.house_writer.proofs.rates_size.Goals as goal

pub loop-number-init : goal.loop-number-init
loop-number-init g c = sized_starts _

pub overflow_add-total : goal.overflow_add-total
overflow_add-total g c =
    search (rules, sized_fits c.loop-number.invariant c.in-Some.number (sym c.in-Some.ensures), c.size_of-total.ensures)

pub loop-number-preserved : goal.loop-number-preserved
loop-number-preserved g c =
    let next = sized_steps c.loop-number.invariant c.in-Some.number (sym c.in-Some.ensures) in
    rw c.size_of-total.ensures (search (rules, next))
