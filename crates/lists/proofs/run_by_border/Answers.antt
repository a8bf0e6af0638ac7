use mathlib.Core.Path.{ap, ap₂, ◌∙◌}
use native.Mathlib.Omega.{arith}
use lib.IntN.{nat_abs}
use Rattle.integers.specs.Half.{odd_of, stepped}
use Rattle.integers.proofs.Steps.{odd_small}
use Rattle.lists.proofs.Running.{stored_is, run_starts, run_steps, run_few, source_read, ahead_read}
use Rattle.lists.proofs.run_by_border.Goals as goal

pub loop-i-init : goal.loop-i-init
loop-i-init g c = run_starts

pub overflow_add-odd : goal.overflow_add-odd
overflow_add-odd g c =
    let pre = c.requires in
    omega (arith, run_few c.loop-i.invariant, c.loop-i-test.true, pre.1, pre.2, c.odd-odd.ensures, odd_small)

pub step-requires : goal.step-requires
step-requires g c =
    let pre = c.requires in
    let i = c.loop-i.i in
    let run = c.loop-i.invariant in
    let lt = c.loop-i-test.true in (
      omega (arith, ap nat_abs (ahead_read run c.args.width pre.3 lt), pre.3 i lt),
      omega (arith, ap nat_abs (source_read run c.args.width c.args.a pre.0 lt), pre.0.room i lt),
    )

pub loop-i-preserved : goal.loop-i-preserved
loop-i-preserved g c =
    let pre = c.requires in
    let i = c.loop-i.i in
    let run = c.loop-i.invariant in
    let lt = c.loop-i-test.true in
    let sum = source_read run c.args.width c.args.a pre.0 lt in
    run_steps run _ _ (omega (arith, pre.1)) (c.odd-odd.ensures ∙ ap odd_of sum)
    (stored_is _ _ _ _ (pre.3 i lt) (omega (arith, pre.0.room i lt))
    (c.step.ensures ∙ ap₂ (stepped g.D.Direction.ahead) (ahead_read run c.args.width pre.3 lt) sum))
