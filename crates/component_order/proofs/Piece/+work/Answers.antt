use Rattle.std.proofs.Common.{arith}
use Rattle.numbering.specs.Point.{at}
use Rattle.component_order.proofs.Calls.{more_points, nothing_due, first_falls, left_falls, right_falls, last_falls, first_call, second_call, third_call, fourth_call, calls_end}
use Rattle.component_order.proofs.Piece.+work.Goals as goal

pub returns-then-self : goal.returns-then-self
returns-then-self t c = nothing_due c.args.self.now _ c.requires c.if-self.true

pub split-parts-requires : goal.split-parts-requires
split-parts-requires t c = more_points (at c.args.self.now.of.levels) c.args.self.now.of.grid.now.axes (omega arith)

pub work-requires : goal.work-requires
work-requires t c =
    let more = more_points (at c.args.self.now.of.levels) c.args.self.now.of.grid.now.axes (omega arith) in (
      omega (arith, c.decreases, first_falls _ _ c.requires more _ c.split-parts.ensures),
      first_call _ _ c.requires more _ c.split-parts.ensures,
    )

pub work-requires-2 : goal.work-requires-2
work-requires-2 t c =
    let more = more_points (at c.args.self.now.of.levels) c.args.self.now.of.grid.now.axes (omega arith) in (
      omega (arith, c.decreases, left_falls _ _ c.requires more _ c.split-parts.ensures),
      second_call _ _ c.requires more _ c.split-parts.ensures _ c.work.ensures,
    )

pub work-requires-3 : goal.work-requires-3
work-requires-3 t c =
    let more = more_points (at c.args.self.now.of.levels) c.args.self.now.of.grid.now.axes (omega arith) in (
      omega (arith, c.decreases, right_falls _ _ c.requires more _ c.split-parts.ensures),
      third_call _ _ c.requires more _ c.split-parts.ensures _ c.work.ensures _ c.work-2.ensures,
    )

pub work-requires-4 : goal.work-requires-4
work-requires-4 t c =
    let more = more_points (at c.args.self.now.of.levels) c.args.self.now.of.grid.now.axes (omega arith) in (
      omega (arith, c.decreases, last_falls _ _ c.requires more _ c.split-parts.ensures),
      fourth_call _ _ c.requires more _ c.split-parts.ensures _ c.work.ensures _ c.work-2.ensures _ c.work-3.ensures,
    )

pub returns : goal.returns
returns t c =
    let more = more_points (at c.args.self.now.of.levels) c.args.self.now.of.grid.now.axes (omega arith) in
    calls_end _ _ c.requires more _ c.split-parts.ensures _ c.work.ensures _ c.work-2.ensures _ c.work-3.ensures _ c.work-4.ensures
