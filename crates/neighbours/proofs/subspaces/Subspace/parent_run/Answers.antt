-- `Subspace::parent_run` meets its contract: the numerator is off the border, so the parent's level and index are found, and every shift and sum is exact.
-- Assumes nothing.
use Prim.Native.Nat.{◌^◌, ◌<◌}
use native.Mathlib.Omega.{arith}
use Rattle.numbering.proofs.Parents.{Inside}
use Rattle.neighbours.proofs.Beside.{bits, first_small}
use Rattle.neighbours.proofs.Seeing.{seen}
use Rattle.neighbours.proofs.Coding.{one_more, two_more, falls, index_small, computed}
use Rattle.neighbours.proofs.subspaces.Subspace.parent_run.Goals.{Start, After-reduce-up}
use Rattle.neighbours.proofs.subspaces.Subspace.parent_run.Goals as goal

within : (c : Start) → Inside c.args.self.own c.args.numerator
within c = record { even = c.requires.2; pos = c.requires.3; below = c.requires.4 }

pub reduce-up-requires : goal.reduce-up-requires
reduce-up-requires c = (omega (arith, bits (seen c.args.self)), c.requires.2, c.requires.3, c.requires.4)

-- at least one level is dropped
lower : (c : After-reduce-up) → c.reduce-up.result.level < c.args.self.own
lower c =
    let up = c.reduce-up.ensures in
    falls (seen c.args.self) _ _ _ (within c.before) up.0 up.1

-- the index has at most 9 bits
small : (c : After-reduce-up) → c.reduce-up.result.index < 2 ^ 9
small c =
    let up = c.reduce-up.ensures in
    index_small (seen c.args.self) _ _ _ (within c.before) up.0 up.1

pub overflow_sub-result : goal.overflow_sub-result
overflow_sub-result c = omega (arith, lower (goal.at.overflow_sub-result c).After-reduce-up)

pub bounds-starts-self : goal.bounds-starts-self
bounds-starts-self c = omega (arith, bits (seen c.args.self))

pub overflow_shl-result : goal.overflow_shl-result
overflow_shl-result c = omega (arith, bits (seen c.args.self))

pub overflow_add-result : goal.overflow_add-result
overflow_add-result c =
    let up = (goal.at.overflow_add-result c).After-reduce-up in
    rw c.from-half.ensures
    (one_more _ _ _
    (first_small (seen c.args.self) c.requires.0 _ (omega (arith, lower up)) (omega arith))
    (omega (arith, small up))
    (omega (arith, bits (seen c.args.self))))

pub overflow_add-result-2 : goal.overflow_add-result-2
overflow_add-result-2 c = omega (arith, bits (seen c.args.self), lower (goal.at.overflow_add-result-2 c).After-reduce-up)

pub overflow_shl-result-2 : goal.overflow_shl-result-2
overflow_shl-result-2 c = omega (arith, bits (seen c.args.self), lower (goal.at.overflow_shl-result-2 c).After-reduce-up)

pub overflow_add-result-3 : goal.overflow_add-result-3
overflow_add-result-3 c =
    let up = (goal.at.overflow_add-result-3 c).After-reduce-up in
    rw c.from-half.ensures
    (two_more _ _ _
    (first_small (seen c.args.self) c.requires.0 _ (omega (arith, lower up)) (omega arith))
    (omega (arith, small up))
    (omega (arith, bits (seen c.args.self)))
    _ _
    (omega (arith, c.requires.1))
    (omega (arith, bits (seen c.args.self), lower up)))

pub returns : goal.returns
returns c =
    let up = c.reduce-up.ensures in
    rw c.from-half.ensures
    (computed (seen c.args.self) _ _ _ (within (goal.at.returns c).Start) up.0 up.1 _ _ c.requires.1)
