-- The block that a place lies in: it is the one whose first place is not past it and whose end is, since the first places rise.
-- Assumes nothing.
use mathlib.Core.Path.{◌≡◌, refl, ap, ◌∙◌}
use Prim.Native.Nat.{ℕ, zero, suc, ◌≤◌, ◌<◌}
use native.Mathlib.Omega.{arith}
use borrow.Author.Tests.{le-leb, lt-leb}
use Rattle.naturals.specs.Sum.{sum_to}
use Rattle.naturals.proofs.Cases.{le_or_lt}
use Rattle.naturals.proofs.Sums.{sum_to_zero, sum_to_mono}
use Rattle.numbering.specs.Inverse.{block}

block_zero : (f : ℕ → ℕ) (r : ℕ) → block f 0 r ≡ 0
unfolding block
block_zero f r = refl

block_past : (f : ℕ → ℕ) (m r : ℕ) → sum_to f (suc m) ≤ r → block f (suc m) r ≡ suc m
unfolding block
block_past f m r h = rw (le-leb (sum_to f (suc m)) r h)

block_below : (f : ℕ → ℕ) (m r : ℕ) → r < sum_to f (suc m) → block f (suc m) r ≡ block f m r
unfolding block
block_below f m r h = rw (lt-leb (sum_to f (suc m)) r h)

pub block_is : (f : ℕ → ℕ) (m r j : ℕ) → j ≤ m → sum_to f j ≤ r → r < sum_to f (suc j) → block f m r ≡ j
block_is f zero r j le low high = omega (arith, block_zero f r)
block_is f (suc m) r j le low high =
    le_or_lt (sum_to f (suc m)) r
    (λ past.
    le_or_lt (suc j) (suc m) (λ h. omega (arith, sum_to_mono f (suc j) (suc m) h)) (λ h. omega (arith, block_past f m r past)))
    (λ below.
    le_or_lt (suc m) j
    (λ h. omega (arith, sum_to_mono f (suc m) j h))
    (λ h. block_below f m r below ∙ block_is f m r j (omega arith) low high))

pub block_le : (f : ℕ → ℕ) (m r : ℕ) → block f m r ≤ m
block_le f zero r = omega (arith, block_zero f r)
block_le f (suc m) r =
    le_or_lt (sum_to f (suc m)) r (λ h. omega (arith, block_past f m r h)) (λ h. omega (arith, block_below f m r h, block_le f m r))

pub block_low : (f : ℕ → ℕ) (m r : ℕ) → sum_to f (block f m r) ≤ r
block_low f zero r = omega (arith, ap (sum_to f) (block_zero f r), sum_to_zero f)
block_low f (suc m) r =
    le_or_lt (sum_to f (suc m)) r
    (λ h. omega (arith, ap (sum_to f) (block_past f m r h)))
    (λ h. omega (arith, ap (sum_to f) (block_below f m r h), block_low f m r))

pub block_high : (f : ℕ → ℕ) (m r : ℕ) → r < sum_to f (suc m) → r < sum_to f (suc (block f m r))
block_high f zero r h = rw block_zero h
block_high f (suc m) r h =
    le_or_lt (sum_to f (suc m)) r
    (λ past. rw (block_past f m r past) h)
    (λ below. rw (block_below f m r below) (block_high f m r below))
