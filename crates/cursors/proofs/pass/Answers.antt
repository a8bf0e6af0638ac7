use mathlib.Core.Path.{◌≡◌}
use Prim.Native.Nat.{suc, ◌+◌, ◌-◌, ◌*◌, ◌%◌, ◌^◌}
use native.Mathlib.Omega.{arith}
use Rattle.numbering.specs.Number.{rank}
use Rattle.numbering.specs.Point.{at}
use Rattle.neighbours.proofs.Seeing.{vector_of, seen}
use Rattle.cursors.proofs.Filling.{cursor_at}
use Rattle.cursors.proofs.Passing.{moved_starts, moved_steps, moved_up, own_le, sum_le, stepped_up, cursor_small}
use Rattle.cursors.proofs.pass.Goals.{In-loop-j}
use Rattle.cursors.proofs.pass.Goals as goal

pub overflow_add-j-end : goal.overflow_add-j-end
overflow_add-j-end c = omega (arith, own_le (seen c.args.v) (vector_of c.args.v).total, sum_le (seen c.args.v) (vector_of c.args.v).total)

pub loop-j-init : goal.loop-j-init
loop-j-init c = (own_le (seen c.args.v) (vector_of c.args.v).total, sum_le (seen c.args.v) (vector_of c.args.v).total, moved_starts c.requires)

-- cursor j after its step
stepped : (c : In-loop-j) → at c.loop-j.cursors c.loop-j.j + 1 * 2 ^ (c.args.v.vector.sum - c.loop-j.j) % 2 ^ 64
    ≡ cursor_at c.args.v.facet c.args.v.vector.sum (suc (rank (at c.args.v.vector.levels) c.args.v.facet.axes)) c.loop-j.j
stepped c =
    let (own, low, moved) = c.loop-j.invariant in
    stepped_up (seen c.args.v) (vector_of c.args.v).total c.loop-j.j (omega arith) (at c.loop-j.cursors c.loop-j.j)
    (moved.left c.loop-j.j (omega arith) (omega arith) (omega arith))

pub overflow_add-cursors : goal.overflow_add-cursors
overflow_add-cursors c =
    omega (
      arith,
      stepped (goal.at.overflow_add-cursors c).In-loop-j,
      cursor_small (seen c.args.v) (vector_of c.args.v).total c.loop-j.j (omega arith),
    )

pub loop-j-preserved : goal.loop-j-preserved
loop-j-preserved c =
    let (own, low, moved) = c.loop-j.invariant in (
      own,
      low,
      moved_steps c.loop-j.j _ moved (omega arith) (stepped (goal.at.loop-j-preserved c).In-loop-j),
    )

pub returns : goal.returns
returns c =
    let (own, low, moved) = c.loop-j.invariant in
    let ended : c.loop-j.j ≡ suc c.args.v.own = omega (arith, own) in
    moved_up (seen c.args.v) (vector_of c.args.v).total (rw ended at moved)
