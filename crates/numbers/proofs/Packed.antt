-- The walk that packs the indices of a point: after t axes it has the position of the first t indices, and the sum of their levels.
-- True since each axis adds its halved index, shifted by the levels before it, and no shift loses a bit.
-- Assumes nothing.
use mathlib.Core.Path.{◌≡◌, sym, ap}
use Prim.Native.Nat.{ℕ, suc, ◌+◌, ◌*◌, ◌%◌, ◌^◌, ◌<◌}
use native.Mathlib.Numerals.{add-one}
use native.Mathlib.Omega.{arith}
use lib.Pow.{pow_mono, shl_exact}
use Rattle.naturals.specs.Sum.{sum_to}
use Rattle.naturals.proofs.Sums.{sum_to_mono}
use Rattle.naturals.proofs.Summed.{Summed, summed_starts, summed_steps, summed_fits}
use Rattle.numbering.specs.Point.{IsPoint}
use Rattle.numbering.specs.Number.{position}
use Rattle.numbering.proofs.Position.{half, half_lt, position_zero, position_suc, position_lt}

pub record Packed (l i : ℕ → ℕ) (d t p sum : ℕ) : Type 0 where
  pub sums : Summed l d t sum
  pub packs : p ≡ position l i t

pub packed_starts : (l i : ℕ → ℕ) (d : ℕ) → Packed l i d 0 0 0
packed_starts l i d = record { sums = summed_starts l d; packs = sym (position_zero l i) }

module _ {l i : ℕ → ℕ} {d t p sum : ℕ} (point : IsPoint d 8 l i) (packed : Packed l i d t p sum) (h : t < d) where
  turned : p + half i t * 2 ^ sum % 2 ^ 64 ≡ position l i (suc t)
  turned =
      omega (
        arith,
        packed.packs,
        position_suc l i t,
        shl_exact {a = half i t} (l t) sum 64 (half_lt point t h) (omega (arith, summed_fits packed.sums h, point.sum)),
        ap (λ (s : ℕ). half i t * 2 ^ s) packed.sums.total,
      )

  pub packed_fits : p + half i t * 2 ^ sum % 2 ^ 64 < 256
  packed_fits =
      omega (
        arith,
        turned,
        position_lt point (suc t) h,
        pow_mono {i = sum_to l (suc t)} {j = 8} (omega (arith, point.sum, sum_to_mono l (suc t) d h)),
      )

  pub packed_steps : Packed l i d (t + 1) (p + half i t * 2 ^ sum % 2 ^ 64) (sum + l t)
  packed_steps = record { sums = summed_steps packed.sums h; packs = rw add-one turned }
