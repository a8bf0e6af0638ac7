use mathlib.Core.Path.{◌≡◌}
use native.Mathlib.Omega.{arith}
use Rattle.neighbours.proofs.Beside.{bits}
use Rattle.neighbours.proofs.Seeing.{seen}
use Rattle.lists.proofs.Blocks.{on_line}
use Rattle.lists.proofs.Lists.{blocks_of, bits_within, last_block, block_there, shift_exact, block_small, workable, next_done, next_few}
use Rattle.lists.proofs.all_blocks.Goals as goal

-- ---- shifts

pub overflow_add-bits : goal.overflow_add-bits
overflow_add-bits g c = omega (arith, bits (seen c.args.v))

pub overflow_sub-beyond-end : goal.overflow_sub-beyond-end
overflow_sub-beyond-end g c = bits_within c.args.v

pub overflow_shl-first : goal.overflow_shl-first
overflow_shl-first g c = omega (arith, bits (seen c.args.v))

pub overflow_add-first : goal.overflow_add-first
overflow_add-first g c =
    let more = c.loop-beyond-test.true in
    omega (arith, shift_exact c.args.v c.loop-beyond.beyond more, block_small c.args.v c.loop-beyond.beyond more (on_line c.args.v.facet.line c.requires.1.0))

-- ---- a block

pub edged_block-odd-requires : goal.edged_block-odd-requires
edged_block-odd-requires g c =
    let v = c.args.v in
    let more = c.loop-beyond-test.true in
    let (below, (long, within), moves, wide, rims) = c.requires in
    rw (shift_exact v c.loop-beyond.beyond more) (
      workable v c.loop-beyond.beyond more (on_line v.facet.line long) c.loop-beyond.invariant below within,
      block_there v c.loop-beyond.beyond more,
      moves,
      wide,
      rims,
    )

pub overflow_add-odd : goal.overflow_add-odd
overflow_add-odd g c =
    let v = c.args.v in
    let more = c.loop-beyond-test.true in
    let did = rw (shift_exact v c.loop-beyond.beyond more) at c.edged_block-odd.ensures in
    omega (arith, next_few v c.loop-beyond.beyond more (on_line v.facet.line c.requires.1.0) c.loop-beyond.invariant did)

pub loop-beyond-preserved : goal.loop-beyond-preserved
loop-beyond-preserved g c =
    let v = c.args.v in
    let more = c.loop-beyond-test.true in
    next_done v c.loop-beyond.beyond more (on_line v.facet.line c.requires.1.0) c.loop-beyond.invariant
    (rw (shift_exact v c.loop-beyond.beyond more) at c.edged_block-odd.ensures)

-- ---- after the last

pub returns : goal.returns
returns g c =
    let all : c.loop-beyond.beyond ≡ blocks_of c.args.v = omega arith in
    rw (last_block c.args.v) at (rw all at c.loop-beyond.invariant)
