use native.Mathlib.Omega.{arith}
use Rattle.naturals.proofs.Summed.{summed_so_far, summed_fits}
use Rattle.numbers.proofs.Ranked.{ranked_starts, ranked_fits, ranked_sub, ranked_steps}
use Rattle.numbers.proofs.vector_rank.Goals as goal

pub loop-t-init : goal.loop-t-init
loop-t-init c = ranked_starts _ _

pub overflow_add-next : goal.overflow_add-next
overflow_add-next c = omega (arith, summed_fits c.loop-t.invariant.sums c.loop-t-test.true, c.args.vector.now.vector.total)

pub vectors-requires : goal.vectors-requires
vectors-requires c =
    let v = c.args.vector.now in
    let fits = summed_fits c.loop-t.invariant.sums c.loop-t-test.true in
    (omega arith, omega (arith, v.few), omega (arith, fits, v.vector.total))

pub overflow_add-rank : goal.overflow_add-rank
overflow_add-rank c =
    let v = c.args.vector.now in
    omega (arith, ranked_fits c.loop-t.invariant c.loop-t-test.true v.few (omega (arith, v.vector.total)) _ c.vectors.ensures)

pub vectors-requires-in-loop-t : goal.vectors-requires-in-loop-t
vectors-requires-in-loop-t c =
    let v = c.args.vector.now in
    let fits = summed_so_far c.loop-t.invariant.sums in
    (omega arith, omega (arith, v.few), omega (arith, fits, v.vector.total))

pub overflow_sub-rank : goal.overflow_sub-rank
overflow_sub-rank c =
    ranked_sub c.loop-t.invariant c.loop-t-test.true _ _
    c.vectors.ensures
    c.vectors-in-loop-t.ensures

pub loop-t-preserved : goal.loop-t-preserved
loop-t-preserved c =
    ranked_steps c.loop-t.invariant c.loop-t-test.true _ _
    c.vectors.ensures
    c.vectors-in-loop-t.ensures
