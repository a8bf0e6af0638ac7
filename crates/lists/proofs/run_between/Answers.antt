use mathlib.Core.Path.{ap, ap₂, ◌∙◌}
use native.Mathlib.Omega.{arith}
use lib.IntN.{nat_abs}
use Rattle.integers.specs.Half.{odd_of, stepped}
use Rattle.integers.proofs.Steps.{within_fits, odd_small}
use Rattle.lists.specs.Steps.{value_in}
use Rattle.lists.proofs.Running.{stored_is, sum_small, run_starts, run_steps, run_few, source_read, ahead_read, pair_read}
use Rattle.lists.proofs.run_between.Goals as goal

pub loop-i-init : goal.loop-i-init
loop-i-init g c = run_starts

pub overflow_add-pair-in-loop-i-2 : goal.overflow_add-pair-in-loop-i-2
overflow_add-pair-in-loop-i-2 g c =
    let pre = c.requires in
    let i = c.loop-i.i in
    let a = c.args in
    let run = c.loop-i.invariant in
    let lt = c.loop-i-test.true in
    within_fits _ (
    rw (source_read run a.width a.a pre.0 lt, source_read run a.width a.b pre.1 lt)
    (sum_small (value_in a.table.now a.a i) (value_in a.table.now a.b i) (pre.0.room i lt) (pre.1.room i lt)))

pub overflow_add-odd : goal.overflow_add-odd
overflow_add-odd g c =
    let pre = c.requires in
    omega (arith, run_few c.loop-i.invariant, c.loop-i-test.true, pre.2, pre.3, c.odd-odd.ensures, odd_small)

pub step-requires : goal.step-requires
step-requires g c =
    let pre = c.requires in
    let i = c.loop-i.i in
    let a = c.args in
    let run = c.loop-i.invariant in
    let lt = c.loop-i-test.true in (
      omega (arith, ap nat_abs (ahead_read run a.width pre.4 lt), pre.4 i lt),
      omega (
        arith,
        ap nat_abs (pair_read run a.width a.a a.b pre.0 pre.1 lt),
        sum_small (value_in a.table.now a.a i) (value_in a.table.now a.b i) (pre.0.room i lt) (pre.1.room i lt),
      ),
    )

pub loop-i-preserved : goal.loop-i-preserved
loop-i-preserved g c =
    let pre = c.requires in
    let i = c.loop-i.i in
    let a = c.args in
    let run = c.loop-i.invariant in
    let lt = c.loop-i-test.true in
    let sum = pair_read run a.width a.a a.b pre.0 pre.1 lt in
    run_steps run _ _ (omega (arith, pre.2)) (c.odd-odd.ensures ∙ ap odd_of sum)
    (stored_is _ _ _ _ (pre.4 i lt) (sum_small (value_in a.table.now a.a i) (value_in a.table.now a.b i) (pre.0.room i lt) (pre.1.room i lt))
    (c.step.ensures ∙ ap₂ (stepped g.D.Direction.ahead) (ahead_read run a.width pre.4 lt) sum))
