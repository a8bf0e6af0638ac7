use mathlib.Core.Path.{ap}
use Prim.Native.Nat.{ℕ, ◌+◌}
use native.Mathlib.Omega.{arith}
use borrow.Author.Rules.{rules}
use lib.Bits.{and_mask}
use Rattle.written_numbers.proofs.Groups.{grouped_starts, grouped_room, grouped_steps, grouped_ends}
use Rattle.buffers.proofs.Puts.{put_length}
use Rattle.written_numbers.proofs.put_number.Goals as goal

pub loop-left-init : goal.loop-left-init
loop-left-init c = grouped_starts _ _ _ (omega arith)

pub bounds-out-at : goal.bounds-out-at
bounds-out-at c = grouped_room c.loop-left.invariant c.requires

pub overflow_add-at : goal.overflow_add-at
overflow_add-at c = let g = c.loop-left.invariant in search (rules, grouped_room g c.requires, put_length g.put)

pub loop-left-preserved : goal.loop-left-preserved
loop-left-preserved c =
    let loop = c.loop-left in
    grouped_steps loop.invariant (omega arith) _ (ap (λ (v : ℕ). 128 + v) (and_mask loop.left 7))

pub bounds-out-at-2 : goal.bounds-out-at-2
bounds-out-at-2 c = grouped_room c.loop-left.invariant c.requires

pub overflow_add-result : goal.overflow_add-result
overflow_add-result c = let g = c.loop-left.invariant in search (rules, grouped_room g c.requires, put_length g.put)

pub returns : goal.returns
returns c = grouped_ends c.loop-left.invariant (omega arith)
