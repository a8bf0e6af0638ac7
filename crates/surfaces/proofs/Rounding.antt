-- The last division of an estimate: a multiple of the unit goes out whole, the estimate is the whole number nearest to the quotient, so within one half
-- of it, and it is odd in the coefficients. True since all of this holds of division to the nearest, and a sum is odd in its terms.
-- Assumes nothing.
use mathlib.Core.Path.{◌≡◌, ap, ◌∙◌}
use Prim.Native.Nat.{ℕ, ◌*◌, ◌≤◌, ◌<◌}
use lib.IntN.{ℤ, pos, neg_ℤ, nat_abs, ◌-ℤ◌, ◌*ℤ◌}
use Rattle.integers.specs.Nearest.{Nearest}
use Rattle.integers.proofs.Nearest.{nearest_odd, nearest_half, nearest_is, nearest_whole}
use Rattle.shapes.specs.declared.Shape.{Shape}
use Rattle.shapes.specs.Shapes.{points_of}
use Rattle.interpolation.proofs.Weighted.{weighted_sum_negated}
use Rattle.surfaces.specs.Weights.{unit}
use Rattle.surfaces.specs.Surface.{joint_sum_in, rounded, estimate_in, joint_at, joint_sum, estimate_at}
use Rattle.surfaces.proofs.Unit.{unit_pos}

pub rounded_whole : (u : ℕ) → 0 < u → (z : ℤ) → rounded u (z *ℤ pos u) ≡ z
unfolding rounded
rounded_whole u some z = nearest_whole u some z

module _ (s : Shape) (c : ℕ → ℤ) (x : ℕ → ℕ) where
  -- The estimate is the whole number nearest to the quotient, of two as near the one further from zero.
  pub estimate_nearest : Nearest unit (joint_sum s c x) (estimate_at s c x)
  unfolding estimate_in rounded
  estimate_nearest = nearest_is unit (joint_sum s c x) unit_pos

  -- So it is within one half of it.
  pub estimate_half : 2 * nat_abs (estimate_at s c x *ℤ pos unit -ℤ joint_sum s c x) ≤ unit
  unfolding estimate_in rounded
  estimate_half = nearest_half unit (joint_sum s c x) unit_pos

  -- The estimate of the negated coefficients is the negated estimate.
  pub estimate_odd : estimate_at s (λ p. neg_ℤ (c p)) x ≡ neg_ℤ (estimate_at s c x)
  unfolding estimate_in rounded joint_sum_in
  estimate_odd = ap (rounded unit) (weighted_sum_negated (points_of s) c (joint_at s x)) ∙ nearest_odd unit (joint_sum s c x) unit_pos
