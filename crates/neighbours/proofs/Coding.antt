-- The first parent of a run as it is computed: the levels dropped are the factors of two, and no shift and no sum leaves the width, since a level vector has
-- at most 2^8 points and the numbers of those below it are below 2^32.
-- Assumes nothing.
use mathlib.Core.Path.{◌≡◌, ap}
use mathlib.Core.List.{List}
use Prim.Native.Nat.{ℕ, suc, ◌+◌, ◌-◌, ◌*◌, ◌/◌, ◌%◌, ◌^◌, ◌≤◌, ◌<◌}
use native.Mathlib.Nat.{mul-le-mul_left, mod-eq_of_lt}
use native.Mathlib.Omega.{arith}
use lib.Pow.{pow_mono}
use Rattle.std.proofs.Common.{Fits, w64}
use Rattle.numbering.specs.Point.{at}
use Rattle.numbering.specs.Parent.{twos, parent_level, parent_index}
use Rattle.numbering.proofs.Parents.{Inside, twos_pos, twos_le, index_odd_up, index_below_up}
use Rattle.neighbours.specs.declared.subspaces.Subspace.{Subspace}
use Rattle.neighbours.specs.Steps.{parent_from}
use Rattle.neighbours.proofs.Seeing.{Seen}
use Rattle.neighbours.proofs.Beside.{bits}

-- ---- within the width

-- A number of 9 bits, shifted by up to 8.
shift_small : (a b : ℕ) → a < 2 ^ 9 → b ≤ 8 → a * 2 ^ b < 2 ^ 17
shift_small a b small few = omega (arith, mul-le-mul_left a (pow_mono {i = b} {j = 8} few))

shift_exact : (a b : ℕ) → a < 2 ^ 9 → b ≤ 8 → a * 2 ^ b % 2 ^ 64 ≡ a * 2 ^ b
shift_exact a b small few = mod-eq_of_lt (omega (arith, shift_small a b small few))

-- A number below 2^32 with one or two of these added.
module _ (n a b : ℕ) (start : n < 2 ^ 32) (small : a < 2 ^ 9) (few : b ≤ 8) where
  pub one_more : Fits w64 (n + a * 2 ^ b % 2 ^ 64)
  one_more = omega (arith, start, shift_exact a b small few, shift_small a b small few)

  pub two_more : (c d : ℕ) → c < 2 ^ 9 → d ≤ 8 → Fits w64 (n + a * 2 ^ b % 2 ^ 64 + c * 2 ^ d % 2 ^ 64)
  two_more c d small' few' =
      omega (
        arith,
        start,
        shift_exact a b small few,
        shift_small a b small few,
        shift_exact c d small' few',
        shift_small c d small' few',
      )

-- ---- the parent at numerator m, with its level and index as the code has them

module _ {v : Subspace} (s : Seen v) (m l i : ℕ) (within : Inside v.own m) (level : l ≡ parent_level v.own m) (index : i ≡ parent_index m) where
  dropped : v.own - l ≡ twos m
  unfolding parent_level
  dropped = omega (arith, level, twos_le v.own m within)

  -- At least one level is dropped.
  pub falls : l < v.own
  unfolding parent_level
  falls = omega (arith, level, twos_le v.own m within, twos_pos v.own m within)

  pub index_small : i < 2 ^ 9
  index_small =
      omega (
        arith,
        index,
        index_below_up v.own m within,
        pow_mono {i = suc (parent_level v.own m)} {j = 9} (omega (arith, level, falls, bits s)),
      )

  pub computed : (starts : List ℕ) (beyond : ℕ) → beyond < 2 ^ 8 →
      at starts (v.own - l) + i / 2 * 2 ^ v.low % 2 ^ 64 + beyond * 2 ^ (v.low + l) % 2 ^ 64 ≡ parent_from v starts 0 beyond m
  unfolding parent_from
  computed starts beyond small =
      let half : i / 2 ≡ (parent_index m - 1) / 2 = omega (arith, index, index_odd_up v.own m within) in
      omega (
        arith,
        ap (at starts) dropped,
        shift_exact (i / 2) v.low (omega (arith, index_small)) (omega (arith, bits s)),
        ap (λ (h : ℕ). h * 2 ^ v.low) half,
        shift_exact beyond (v.low + l) (omega (arith, small)) (omega (arith, bits s, falls)),
        ap (λ (k : ℕ). beyond * 2 ^ (v.low + k)) level,
      )
