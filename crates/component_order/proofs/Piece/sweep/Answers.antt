use Rattle.std.proofs.Common.{◌≡◌, add-one, arith}
use Rattle.component_order.proofs.Sweeping.{sweep_starts, sweep_asks, sweep_steps, sweep_ends}
use Rattle.component_order.proofs.Piece.sweep.Goals as goal

pub loop-axis-init : goal.loop-axis-init
loop-axis-init c = λ mixed. sweep_starts _ _ c.args.self.now.of.grid.now.some c.args.self.now.of.grid.now.few _ _ _ _ _ mixed

pub sweep-requires : goal.sweep-requires
sweep-requires c =
    let g = c.args.self.now.of.grid.now in
    let mixed = c.requires in (
      omega (arith, mixed.axes),
      sweep_asks _ _ g.some g.few _ _ _ _ _ mixed c.loop-axis.axis c.loop-axis.auto.axis c.loop-axis-test.true _ (c.loop-axis.invariant mixed),
    )

pub loop-axis-preserved : goal.loop-axis-preserved
loop-axis-preserved c =
    let g = c.args.self.now.of.grid.now in
    λ mixed.
    rw (add-one c.loop-axis.axis)
    (sweep_steps _ _ g.some g.few _ _ _ _ _ mixed c.loop-axis.axis c.loop-axis.auto.axis c.loop-axis-test.true _ (c.loop-axis.invariant mixed) _ c.sweep.ensures)

pub returns : goal.returns
returns c =
    let g = c.args.self.now.of.grid.now in
    let mixed = c.requires in
    let ends : c.loop-axis.axis ≡ c.args.self.now.to = omega (arith, mixed.order, c.loop-axis.auto.axis-end, c.loop-axis-test.false) in
    sweep_ends _ _ g.some g.few _ _ _ _ _ mixed c.loop-axis.table (rw ends at (c.loop-axis.invariant mixed))
