-- In a unit f times as fine a surface on one axis has the same estimates at the same places: each weight is f times as large, and over one axis the joint weight
-- is the weight; so the sum is f times what it was, and the whole number nearest to its quotient by the unit the same.
-- Assumes nothing.
use mathlib.Core.Path.{◌≡◌, ap, sym, ◌∙◌}
use Prim.Native.Nat.{ℕ, ◌*◌, ◌<◌}
use native.Mathlib.Nat.{mul-le-mul}
use native.Mathlib.Omega.{arith}
use lib.IntN.{ℤ, pos, ◌*ℤ◌}
use Rattle.integers.proofs.Nearest.{nearest_finer}
use Rattle.numbered.specs.Numbered.{Numbered}
use Rattle.interpolation.proofs.Weighted.{weighted_sum_cong, weighted_sum_times}
use Rattle.surfaces.specs.Weights.{joint}
use Rattle.surfaces.specs.Surface.{weight_in, joint_in, joint_sum_in, rounded, estimate_in}
use Rattle.surfaces.proofs.AxisHat.{axis_weight_finer}
use Rattle.surfaces.proofs.Joint.{joint_one}

-- The coordinates of the same place in a unit f times as fine.
abbrev pub finer : ℕ → (ℕ → ℕ) → ℕ → ℕ
finer f x t = x t * f

module _ (u f : ℕ) (some : 0 < u) (more : 0 < f) (g : Numbered) (one : g.axes ≡ 1) (x : ℕ → ℕ) where
  joint_finer : (p : ℕ) → joint_in (u * f) g (finer f x) p ≡ joint_in u g x p * f
  unfolding joint_in weight_in
  joint_finer p =
      ap (joint (u * f) (weight_in (u * f) g (finer f x) p)) one
      ∙ joint_one (u * f) (weight_in (u * f) g (finer f x) p) (omega (arith, mul-le-mul some more))
      ∙ axis_weight_finer u f (x 0) (g.mark p 0) (g.level p 0) (g.index p 0)
      ∙ ap (λ (w : ℕ). w * f) (sym (ap (joint u (weight_in u g x p)) one ∙ joint_one u (weight_in u g x p) some))

  sum_finer : (c : ℕ → ℤ) → joint_sum_in (u * f) g c (finer f x) ≡ joint_sum_in u g c x *ℤ pos f
  unfolding joint_sum_in
  sum_finer c =
      weighted_sum_cong g.count c _ _ (λ p h. joint_finer p) ∙ weighted_sum_times g.count c (joint_in u g x) f

  pub estimate_finer : (c : ℕ → ℤ) → estimate_in (u * f) g c (finer f x) ≡ estimate_in u g c x
  unfolding estimate_in rounded
  estimate_finer c = ap (rounded (u * f)) (sum_finer c) ∙ nearest_finer u f (joint_sum_in u g c x) some more
