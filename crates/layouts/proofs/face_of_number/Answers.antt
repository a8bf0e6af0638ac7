-- `layouts::face_of_number` meets its contract: the number lies in the layer that the search ends in, or in the last.
-- Assumes nothing.
use mathlib.Core.Path.{◌≡◌}
use native.Mathlib.Omega.{arith}
use Rattle.layouts.proofs.Found.{left_start, left_step, left_last, left_all, found}
use Rattle.layouts.proofs.face_of_number.Goals as goal

pub loop-borders-init : goal.loop-borders-init
loop-borders-init c = left_start c.args.axes c.args.level c.args.number

pub returns-then-rest-layer : goal.returns-then-rest-layer
returns-then-rest-layer c =
    found c.loop-borders.invariant
    (omega (arith, c.loop-borders-test.true))
    (omega (arith, c.if-rest-layer.true, c.layer-layer.ensures))
    c.in_layer.ensures.0
    c.in_layer.ensures.1
    c.in_layer.ensures.2

pub loop-borders-preserved : goal.loop-borders-preserved
loop-borders-preserved c = left_step c.loop-borders.invariant c.layer-layer.ensures c.if-rest-layer.false

pub in_layer-requires-2 : goal.in_layer-requires-2
in_layer-requires-2 c = (
  c.requires.0,
  c.requires.1,
  omega arith,
  left_last c.loop-borders.invariant c.requires.2 (omega (arith, c.loop-borders.auto.borders-end, c.loop-borders-test.false)),
)

pub returns : goal.returns
returns c =
    let last : c.loop-borders.borders ≡ c.args.axes = omega (arith, c.loop-borders.auto.borders-end, c.loop-borders-test.false) in
    found (left_all c.loop-borders.invariant last)
    (omega arith)
    (left_last c.loop-borders.invariant c.requires.2 last)
    c.in_layer-2.ensures.0
    c.in_layer-2.ensures.1
    c.in_layer-2.ensures.2
