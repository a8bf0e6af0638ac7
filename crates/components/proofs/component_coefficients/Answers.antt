-- `components::component_coefficients` meets its contract: what the check refuses is refused; else the rates times 2 to the number of axes are a loaded table, and work
-- in the order leaves the coefficients.
-- Assumes nothing.
use Rattle.std.specs.Prelude.{Ok}
use mathlib.Core.Path.{ap, sym, ◌∙◌}
use native.Mathlib.Omega.{arith}
use Rattle.states.specs.After.{left}
use Rattle.components.specs.Accepted.{AcceptedOn}
use Rattle.components.proofs.Checked.{levels_passed, grid_levels}
use Rattle.components.proofs.Accepting.{passed_accepted, accepted_rates, component_accepted}
use Rattle.components.proofs.Answering.{may_work, work_ends}
use Rattle.components.proofs.component_coefficients.Goals.{In_ok-check_component}
use Rattle.components.proofs.component_coefficients.Goals as goal

-- the rates are accepted
accepted : (c : In_ok-check_component) →
    let a = c.args in AcceptedOn a.levels.now a.table.now
accepted c = passed_accepted _ _ (sym c.in_ok-check_component.ensures)

pub overflow_cast-axes : goal.overflow_cast-axes
overflow_cast-axes c = omega (arith, (levels_passed _ (grid_levels _ (accepted (goal.at.overflow_cast-axes c).In_ok-check_component).grid)).high)

pub invariant_of-factor : goal.invariant_of-factor
invariant_of-factor c =
    record { few = omega (arith, (levels_passed _ (grid_levels _ (accepted (goal.at.invariant_of-factor c).In_ok-check_component).grid)).high) }

pub scale-requires : goal.scale-requires
scale-requires c = accepted_rates _ _ (accepted (goal.at.scale-requires c).In_ok-check_component)

pub layout_of-requires : goal.layout_of-requires
layout_of-requires c = (accepted (goal.at.layout_of-requires c).In_ok-check_component).grid

pub in_order-requires : goal.in_order-requires
in_order-requires c =
    let laid = c.layout_of in
    rw c.scale.ensures (may_work _ _ (accepted (goal.at.in_order-requires c).In_ok-check_component) laid.result laid.ensures)

pub returns : goal.returns
returns c =
    let laid = c.layout_of in
    let a = accepted (goal.at.returns c).In_ok-check_component in
    ap (left (Ok tt)) (c.in_order.ensures ∙ rw c.scale.ensures (work_ends _ _ a laid.result laid.ensures))
    ∙ sym (component_accepted _ _ a)
