-- `lists::sized_blocks` meets its contract: runs of single points are one place wide.
-- Assumes nothing.
use mathlib.Core.Path.{◌≡◌, ap, sym}
use native.Mathlib.Omega.{arith}
use Prim.Native.Nat.{ℕ, ◌*◌, ◌%◌, ◌^◌}
use Rattle.naturals.proofs.Shifts.{one_shifted}
use Rattle.neighbours.specs.declared.subspaces.Subspace.{Subspace}
use Rattle.neighbours.proofs.Beside.{bits}
use Rattle.neighbours.proofs.Seeing.{seen}
use Rattle.lists.proofs.sized_blocks.Goals as goal

pub overflow_shl-v : goal.overflow_shl-v
overflow_shl-v g c = omega (arith, bits (seen c.args.v))

wide : (v : Subspace) → 1 * 2 ^ v.low % 2 ^ 64 ≡ 2 ^ v.low
wide v = one_shifted 64 v.low (omega (arith, bits (seen v)))

pub all_blocks-requires : goal.all_blocks-requires
all_blocks-requires g c =
    let (below, table, moves, rims) = c.requires in
    (below, table, moves, ap (λ (a : ℕ). 2 ^ a) (sym c.if-v-eq0.true), rims)

pub all_blocks-requires-2 : goal.all_blocks-requires-2
all_blocks-requires-2 g c =
    let (below, table, moves, rims) = c.requires in
    (below, table, moves, wide c.args.v, rims)
