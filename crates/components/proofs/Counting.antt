-- The running product of the count: after t axes it is the points of these, and at most 32,768. One axis more takes it to at most 511 times that, far from the
-- width; and where it is above 32,768 so is the number of points, since every axis has a point at least.
-- Assumes nothing.
use mathlib.Core.Path.{◌≡◌, ap, sym}
use mathlib.Core.List.{List}
use Prim.Native.Nat.{ℕ, suc, ◌+◌, ◌*◌, ◌^◌, ◌≤◌, ◌<◌}
use native.Mathlib.Nat.{mul-le-mul}
use native.Mathlib.Numerals.{add-one}
use native.Mathlib.Omega.{arith}
use lib.ListN.{length}
use lib.Pow.{pow_mono}
use Rattle.component_grids.specs.Component.{across, points_to}
use Rattle.component_grids.proofs.Places.{across_is, points_to_zero, points_to_suc}
use Rattle.shapes.specs.Shapes.{most_points}
use Rattle.component_boxes.proofs.Falling.{points_before}
use Rattle.components.specs.Components.{tops_in, grid_points}

-- At most 511 points lie across.
pub across_le : (n : ℕ) → n ≤ 8 → across n ≤ 511
across_le n h = omega (arith, across_is n, pow_mono {i = suc n} {j = 9} (omega arith))

pub record Counted (ls : List ℕ) (t points : ℕ) : Type 0 where
  pub place : t ≤ length ls
  pub product : points ≡ points_to (tops_in ls) t
  pub small : points ≤ most_points

pub counted_starts : (ls : List ℕ) → Counted ls 0 1
counted_starts ls = record { place = omega arith; product = sym (points_to_zero (tops_in ls)); small = omega arith }

module _ {ls : List ℕ} {t points : ℕ} (counted : Counted ls t points) where
  -- One axis more, of a points.
  module _ (a : ℕ) (e : a ≡ across (tops_in ls t)) where
    pub counted_fits : tops_in ls t ≤ 8 → points * a < 2 ^ 64
    counted_fits low =
        omega (arith, mul-le-mul counted.small (across_le (tops_in ls t) low), ap (λ (x : ℕ). points * x) e)

    product_next : points * a ≡ points_to (tops_in ls) (suc t)
    product_next = rw (counted.product, e) (sym (points_to_suc (tops_in ls) t))

    pub counted_steps : t < length ls → points * a ≤ most_points → Counted ls (t + 1) (points * a)
    counted_steps h le = rw add-one (record { place = h; product = product_next; small = le })

    -- Of a grid that is not too large.
    pub counted_small : grid_points ls ≤ most_points → t < length ls → points * a ≤ most_points
    unfolding grid_points
    counted_small few h = omega (arith, product_next, points_before (tops_in ls) (suc t) (length ls) h)
