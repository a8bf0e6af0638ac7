use Prim.Native.Nat.{ℕ, ◌≤◌, ◌<◌}
use native.Mathlib.Omega.{arith}
use Rattle.std.proofs.Common.{◌≡◌, length, take, get_or, get_or-take, length-take-le}
use Rattle.naturals.proofs.Sums.{term_le}
use Rattle.numbering.specs.Point.{at}
use Rattle.vectors.specs.declared.LevelVector.{LevelVector}
use Rattle.numbers.proofs.Widths.{digit_small}
use Rattle.numbers.proofs.Unpacked.{unpacked_starts, unpacked_steps, unpacked_ends}
use Rattle.numbers.proofs.indices_of.Goals.{After-low_bits-digit}
use Rattle.numbers.proofs.indices_of.Goals as goal

-- the walk is along the levels of the axes, and a level is at most the level sum
many : (v : LevelVector) → length (take v.axes v.levels) ≡ v.axes
many v = length-take-le v.axes v.levels (omega (arith, v.few, v.vector.long))

bits : (v : LevelVector) (t : ℕ) → t < length (take v.axes v.levels) → get_or (take v.axes v.levels) t 0 ≡ at v.levels t
bits v t h = get_or-take v.axes v.levels t 0 (omega (arith, many v))

few : (v : LevelVector) → v.sum ≤ 8 → (t : ℕ) → t < length (take v.axes v.levels) → get_or (take v.axes v.levels) t 0 ≤ 8
few v sum t h = omega (arith, bits v t h, term_le (at v.levels) v.axes t (omega (arith, many v)), v.vector.total)

-- so its digit is small
small : (c : After-low_bits-digit) → c.low_bits-digit.result < 256
small c =
    omega (arith, c.low_bits-digit.ensures, digit_small c.loop-t.rest _ (few c.args.vector.now c.requires c.loop-t.t c.loop-t-test.true))

pub loop-t-init : goal.loop-t-init
loop-t-init c = unpacked_starts _ _ _

pub low_bits-digit-requires : goal.low_bits-digit-requires
low_bits-digit-requires c = few c.args.vector.now c.requires c.loop-t.t c.loop-t-test.true

pub overflow_mul-indices : goal.overflow_mul-indices
overflow_mul-indices c = omega (arith, small (goal.at.overflow_mul-indices c).After-low_bits-digit)

pub overflow_add-indices : goal.overflow_add-indices
overflow_add-indices c = omega (arith, small (goal.at.overflow_add-indices c).After-low_bits-digit)

pub overflow_cast-indices : goal.overflow_cast-indices
overflow_cast-indices c = omega (arith, small (goal.at.overflow_cast-indices c).After-low_bits-digit)

pub overflow_shr-rest : goal.overflow_shr-rest
overflow_shr-rest c = omega (arith, few c.args.vector.now c.requires c.loop-t.t c.loop-t-test.true)

pub loop-t-preserved : goal.loop-t-preserved
loop-t-preserved c =
    let v = c.args.vector.now in
    let level = bits v c.loop-t.t c.loop-t-test.true in
    let low = rw level at c.low_bits-digit.ensures in
    rw level (unpacked_steps c.loop-t.invariant c.low_bits-digit.result (omega (arith, many v, c.loop-t-test.true)) v.few low)

pub returns : goal.returns
returns c = unpacked_ends c.loop-t.invariant (omega (arith, many c.args.vector.now, c.loop-t-test.false))
