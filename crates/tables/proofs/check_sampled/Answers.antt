-- `tables::check_sampled` meets its contract: the first axis that is forward, where there is one, is the place of the refusal.
-- Assumes nothing.
use Rattle.std.proofs.Common.{true, refl, sym, ◌∙◌, arith}
use Rattle.refusals.specs.declared.Refusal.TheVariants.{StillForward}
use Rattle.states.proofs.Checked.{axis_found, none_found}
use Rattle.states.proofs.Found.{some_first, none_first}
use Rattle.tables.specs.Tables.{check_sampled}
use Rattle.tables.proofs.check_sampled.Goals as goal

pub overflow_add-result : goal.overflow_add-result
overflow_add-result c =
    let found = some_first _ c.args.checked.state c.in-Some.first (sym c.first_axis.ensures ∙ c.in-Some.is) in
    record { fits = omega arith }

pub returns-in-Some : goal.returns-in-Some
unfolding check_sampled
returns-in-Some c =
    let s = c.args.checked.state in
    let found = some_first true s c.in-Some.first (sym c.first_axis.ensures ∙ c.in-Some.is) in
    sym (axis_found true StillForward s c.in-Some.first found.0 found.1)

pub returns : goal.returns
unfolding check_sampled
returns c =
    let s = c.args.checked.state in
    sym (none_found true StillForward s _ refl (none_first true s (sym c.first_axis.ensures ∙ c.in_default.is)))
