-- The axis with most points left: no axis has more; the first of those that have as many; where it has one point, every axis has. By induction over the axes.
-- Assumes nothing.
use mathlib.Core.Path.{◌≡◌, refl}
use Prim.Native.Nat.{ℕ, zero, suc, ◌≤◌, ◌<◌}
use native.Mathlib.Nat.{pow-suc}
use native.Mathlib.Omega.{arith}
use lib.Pow.{pow_pos, pow_mono}
use borrow.Author.Tests.{lt-ltb, le-ltb}
use Rattle.naturals.proofs.Cases.{eq_or_not, le_or_lt}
use Rattle.component_grids.specs.Component.{across}
use Rattle.component_grids.proofs.Places.{across_is}
use Rattle.component_boxes.specs.Order.{widest}

-- More levels are more points.
pub across_mono : (m n : ℕ) → m ≤ n → across m ≤ across n
across_mono m n le = omega (arith, across_is m, across_is n, pow_mono {i = suc m} {j = suc n} (omega arith))

pub across_less : (m n : ℕ) → m < n → across m < across n
across_less m n lt = omega (arith, across_is m, across_is n, pow_mono {i = suc (suc m)} {j = suc n} (omega arith), pow-suc 2 (suc m), pow_pos (suc m))

-- One point is level 0.
pub one_point : (n : ℕ) → across n ≤ 1 → n ≡ 0
one_point n h = eq_or_not n 0 (λ e. e) (λ ne. absurd (omega (arith, across_less 0 n (omega arith), across_is 0)))

module _ (k : ℕ → ℕ) where
  pub widest_here : (t : ℕ) → across (k (widest k t)) < across (k t) → widest k (suc t) ≡ t
  unfolding widest
  widest_here t h = rw (lt-ltb (across (k (widest k t))) (across (k t)) h)

  pub widest_before : (t : ℕ) → across (k t) ≤ across (k (widest k t)) → widest k (suc t) ≡ widest k t
  unfolding widest
  widest_before t h = rw (le-ltb (across (k (widest k t))) (across (k t)) h)

  pub widest_start : widest k 0 ≡ 0
  unfolding widest
  widest_start = refl

  pub widest_lt : (d : ℕ) → 0 < d → widest k d < d
  widest_lt zero some = absurd (omega arith)
  widest_lt (suc t) some =
      le_or_lt (across (k t)) (across (k (widest k t)))
      (λ le.
      eq_or_not t 0
      (λ z. rw (widest_before t le, z, widest_start) (omega arith))
      (λ ne. omega (arith, widest_before t le, widest_lt t (omega arith))))
      (λ lt. omega (arith, widest_here t lt))

  -- No axis has more points.
  pub widest_most : (d t : ℕ) → t < d → across (k t) ≤ across (k (widest k d))
  widest_most zero t h = absurd (omega arith)
  widest_most (suc s) t h =
      le_or_lt (across (k s)) (across (k (widest k s)))
      (λ le.
      rw (widest_before s le)
      (eq_or_not t s (λ same. rw same le) (λ other. widest_most s t (omega arith))))
      (λ lt.
      rw (widest_here s lt)
      (eq_or_not t s (λ same. rw same (omega arith)) (λ other. omega (arith, widest_most s t (omega arith)))))

  -- Every axis before it has fewer points: it is the smallest of several.
  pub widest_first : (d t : ℕ) → t < widest k d → across (k t) < across (k (widest k d))
  widest_first zero t before = absurd (omega (arith, widest_start))
  widest_first (suc s) t before =
      le_or_lt (across (k s)) (across (k (widest k s)))
      (λ le. rw (widest_before s le) (widest_first s t (omega (arith, widest_before s le))))
      (λ lt.
      rw (widest_here s lt)
      (omega (arith, widest_most s t (omega (arith, widest_here s lt)))))
