-- `component_order::in_order` meets its contract: a loaded table has every axis due on the whole grid.
-- Assumes nothing.
use mathlib.Core.Path.{ap, ◌∙◌}
use Prim.Native.Nat.{ℕ}
use native.Mathlib.Omega.{arith}
use Rattle.component_boxes.specs.Order.{centre, order_in}
use Rattle.component_boxes.proofs.WholeGrid.{whole_fits}
use Rattle.component_sweeps.specs.Steps.{tops_of}
use Rattle.component_order.specs.InOrder.{worked_in}
use Rattle.component_order.proofs.Loading.{loaded_mixed, in_order_is}
use Rattle.component_order.proofs.in_order.Goals as goal

pub half_span-requires : goal.half_span-requires
half_span-requires c = λ t axis. omega arith

pub invariant_of-whole : goal.invariant_of-whole
unfolding centre
invariant_of-whole c = record { fits = rw c.half_span.ensures (whole_fits (tops_of c.args.grid.now) c.args.grid.now.axes) }

pub work-requires : goal.work-requires
unfolding centre
work-requires c = rw c.half_span.ensures (loaded_mixed _ _ _ c.requires)

pub returns : goal.returns
unfolding centre
returns c =
    let d = c.args.grid.now.axes in
    let tops = tops_of c.args.grid.now in
    c.work.ensures
    ∙ ap (λ (p : ℕ). worked_in d tops (order_in d tops 0 d tops p) c.args.table.now) c.half_span.ensures
    ∙ in_order_is d tops c.args.table.now
