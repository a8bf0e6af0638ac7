use mathlib.Core.Path.{refl}
use native.Mathlib.Omega.{arith}
use Rattle.shapes.proofs.Totals.{start_small}
use Rattle.cursors.proofs.Filling.{fills}
use Rattle.cursors.proofs.starts.Starts.of.Goals as goal

pub loop-s-init : goal.loop-s-init
loop-s-init c = record { size = refl; holds = λ i from to. absurd (omega arith) }

pub start-requires : goal.start-requires
start-requires c =
    let f = c.args.facet in
    (f.few, omega (arith, f.line.top))

pub overflow_add-places : goal.overflow_add-places
overflow_add-places c =
    let f = c.args.facet in
    let small = start_small f.axes (omega (arith, f.inner)) f.few c.loop-s.s (omega (arith, f.line.top)) in
    omega (arith, small, c.start.ensures, f.sits.inside, f.line.small)

pub loop-s-preserved : goal.loop-s-preserved
loop-s-preserved c =
    let f = c.args.facet in
    fills c.loop-s.s _ c.loop-s.invariant (omega (arith, f.line.top)) (omega (arith, c.start.ensures))
