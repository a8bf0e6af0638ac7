use mathlib.Core.Path.{◌≡◌}
use Prim.Native.Nat.{suc}
use native.Mathlib.Omega.{arith}
use Rattle.numbering.specs.Number.{rank}
use Rattle.numbering.specs.Point.{at}
use Rattle.neighbours.proofs.Seeing.{vector_of, seen}
use Rattle.cursors.proofs.Filling.{cursor_at}
use Rattle.cursors.proofs.Passing.{moved_starts, moved_steps, moved_down, own_le, sum_le, stepped_down, step_fits}
use Rattle.cursors.proofs.pass_back.Goals.{In-loop-j}
use Rattle.cursors.proofs.pass_back.Goals as goal

pub overflow_add-j-end : goal.overflow_add-j-end
overflow_add-j-end c = omega (arith, own_le (seen c.args.v) (vector_of c.args.v).total, sum_le (seen c.args.v) (vector_of c.args.v).total)

pub loop-j-init : goal.loop-j-init
loop-j-init c = (own_le (seen c.args.v) (vector_of c.args.v).total, sum_le (seen c.args.v) (vector_of c.args.v).total, moved_starts c.requires)

-- cursor j before its step
standing : (c : In-loop-j) → at c.loop-j.cursors c.loop-j.j
    ≡ cursor_at c.args.v.facet c.args.v.vector.sum (suc (rank (at c.args.v.vector.levels) c.args.v.facet.axes)) c.loop-j.j
standing c =
    let (own, low, moved) = c.loop-j.invariant in
    moved.left c.loop-j.j (omega arith) (omega arith) (omega arith)

pub overflow_sub-cursors-in-loop-j : goal.overflow_sub-cursors-in-loop-j
overflow_sub-cursors-in-loop-j c =
    step_fits (seen c.args.v) (vector_of c.args.v).total c.loop-j.j (omega arith) _ (standing (goal.at.overflow_sub-cursors-in-loop-j c).In-loop-j)

pub loop-j-preserved : goal.loop-j-preserved
loop-j-preserved c =
    let (own, low, moved) = c.loop-j.invariant in (
      own,
      low,
      moved_steps c.loop-j.j _ moved (omega arith)
          (stepped_down (seen c.args.v) (vector_of c.args.v).total c.loop-j.j (omega arith) _ (standing (goal.at.loop-j-preserved c).In-loop-j)),
    )

pub returns : goal.returns
returns c =
    let (own, low, moved) = c.loop-j.invariant in
    let ended : c.loop-j.j ≡ suc c.args.v.own = omega (arith, own) in
    moved_down (seen c.args.v) (vector_of c.args.v).total (rw ended at moved)
