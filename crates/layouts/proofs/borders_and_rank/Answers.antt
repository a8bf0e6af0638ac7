-- `layouts::borders_and_rank` meets its contract: each turn adds one axis to both.
-- Assumes nothing.
use native.Mathlib.Omega.{arith}
use Rattle.numbering.specs.Point.{at}
use Rattle.layouts.proofs.Marks.{ranked_start, ranked_step, ranked_end, ranked_few, ranked_small}
use Rattle.layouts.proofs.borders_and_rank.Goals as goal

pub loop-k-init : goal.loop-k-init
loop-k-init c = ranked_start (at c.args.marks.now)

pub overflow_add-borders : goal.overflow_add-borders
overflow_add-borders c = omega (arith, ranked_few c.loop-k.invariant c.bit-borders.ensures, c.loop-k-test.true, c.requires.0)

pub below-rank-requires : goal.below-rank-requires
below-rank-requires c =
    (omega (arith, c.loop-k-test.true, c.requires.0), ranked_few c.loop-k.invariant c.bit-borders.ensures, c.requires.1 _ c.loop-k-test.true)

pub overflow_add-rank : goal.overflow_add-rank
overflow_add-rank c =
    omega (
      arith,
      ranked_small c.loop-k.invariant c.bit-borders.ensures c.below-rank.ensures c.requires.0 c.loop-k-test.true c.requires.1,
    )

pub loop-k-preserved : goal.loop-k-preserved
loop-k-preserved c = ranked_step c.loop-k.invariant c.bit-borders.ensures c.below-rank.ensures

pub returns : goal.returns
returns c = ranked_end c.loop-k.invariant (omega (arith, c.loop-k.auto.k-end, c.loop-k-test.false))
