-- `estimates::check_forward` meets its contract: the first axis that is not forward, where there is one, is the place of the refusal.
-- Assumes nothing.
use Rattle.std.proofs.Common.{false, refl, sym, ◌∙◌, arith}
use Rattle.refusals.specs.declared.Refusal.TheVariants.{StillSampled}
use Rattle.states.proofs.Checked.{axis_found, none_found}
use Rattle.states.proofs.Found.{some_first, none_first}
use Rattle.estimates.specs.Estimates.{check_forward}
use Rattle.estimates.proofs.check_forward.Goals as goal

pub overflow_add-result : goal.overflow_add-result
overflow_add-result c =
    let found = some_first _ c.args.checked.state c.in-Some.first (sym c.first_axis.ensures ∙ c.in-Some.is) in
    record { fits = omega arith }

pub returns-in-Some : goal.returns-in-Some
unfolding check_forward
returns-in-Some c =
    let s = c.args.checked.state in
    let found = some_first false s c.in-Some.first (sym c.first_axis.ensures ∙ c.in-Some.is) in
    sym (axis_found false StillSampled s c.in-Some.first found.0 found.1)

pub returns : goal.returns
unfolding check_forward
returns c =
    let s = c.args.checked.state in
    sym (none_found false StillSampled s _ refl (none_first false s (sym c.first_axis.ensures ∙ c.in_default.is)))
