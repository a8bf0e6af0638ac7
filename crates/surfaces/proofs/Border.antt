-- With a zero border the surface is 0 on the border: where a coordinate is 0 or the unit, every point has weight 0 on that axis, so that its product and its joint weight are 0.
-- Assumes nothing.
use mathlib.Core.Path.{◌≡◌, ap, sym, ◌∙◌}
use mathlib.Core.Bool.{false}
use mathlib.Core.Logic.{⊎_elim}
use Prim.Native.Nat.{ℕ, ◌^◌, ◌<◌}
use native.Mathlib.Nat.{zero-mul, eq-zero-or-pos}
use native.Mathlib.Omega.{arith}
use lib.IntN.{ℤ, pos}
use Rattle.numbered.specs.Numbered.{Numbered, Numbering}
use Rattle.shapes.specs.declared.Shape.{Shape}
use Rattle.grids.specs.Grids.{numbered}
use Rattle.grids.proofs.Points.{numbering}
use Rattle.interpolation.proofs.Products.{prod_to_none}
use Rattle.interpolation.proofs.Weighted.{weighted_sum_none}
use Rattle.surfaces.specs.Weights.{unit, weight}
use Rattle.surfaces.specs.Surface.{weight_in, product_in, joint_in, surface_in, joint_sum_in, rounded, estimate_in, Exactly, exact_value_in, exact_value, estimate_at}
use Rattle.surfaces.specs.Border.{OnBorder}
use Rattle.surfaces.proofs.Unit.{unit_pos}
use Rattle.surfaces.proofs.Hat.{weight_low, weight_high}
use Rattle.surfaces.proofs.AxisHat.{weight_inside}
use Rattle.surfaces.proofs.Joint.{joint_above}
use Rattle.surfaces.proofs.Rounding.{rounded_whole}

module _ (u : ℕ) {g : Numbered} {Point : (ℕ → ℕ) → (ℕ → ℕ) → (ℕ → ℕ) → Type 0} (n : Numbering g Point)
    (zero : g.border ≡ false) (x : ℕ → ℕ) (t : ℕ) (axis : t < g.axes) (border : OnBorder u x t) where
  no_weight : (p : ℕ) → p < g.count → weight_in u g x p t ≡ 0
  unfolding weight_in
  no_weight p p_in =
      let l : ℕ = g.level p t in
      let i : ℕ = g.index p t in
      let point = n.point_at p p_in in
      weight_inside u (x t) l i (g.mark p t) (n.only point zero t axis)
      ∙ ⊎_elim
      (λ low. ap (λ (y : ℕ). weight u y l i) low ∙ weight_low u l i (omega (arith, n.odd point t axis)))
      (λ high. ap (λ (y : ℕ). weight u y l i) high ∙ weight_high u l i (n.below point t axis))
      border

  no_product : (p : ℕ) → p < g.count → product_in u g x p ≡ 0
  unfolding product_in
  no_product p p_in = prod_to_none (weight_in u g x p) g.axes t axis (no_weight p p_in)

  no_joint : (p : ℕ) → p < g.count → joint_in u g x p ≡ 0
  unfolding joint_in
  no_joint p p_in =
      ⊎_elim
      (λ none. none)
      (λ above. absurd (omega (arith, no_weight p p_in, joint_above u (weight_in u g x p) g.axes above t axis)))
      (eq-zero-or-pos (joint_in u g x p))

  pub border_exact_in : (c : ℕ → ℤ) → Exactly (exact_value_in u g c x) (pos 0)
  unfolding surface_in
  border_exact_in c = weighted_sum_none g.count c (product_in u g x) no_product ∙ ap pos (sym (zero-mul (u ^ g.axes)))

  pub border_estimate_in : 0 < u → (c : ℕ → ℤ) → estimate_in u g c x ≡ pos 0
  unfolding estimate_in joint_sum_in
  border_estimate_in some c =
      ap (rounded u) (weighted_sum_none g.count c (joint_in u g x) no_joint ∙ ap pos (sym (zero-mul u))) ∙ rounded_whole u some (pos 0)

-- Of a shape, for every table.
module _ (s : Shape) (zero : (numbered s).border ≡ false) (x : ℕ → ℕ) (t : ℕ) (axis : t < s.axes) (border : OnBorder unit x t) (c : ℕ → ℤ) where
  pub border_exact : Exactly (exact_value s c x) (pos 0)
  border_exact = border_exact_in unit (numbering s) zero x t axis border c

  pub border_estimate : estimate_at s c x ≡ pos 0
  border_estimate = border_estimate_in unit (numbering s) zero x t axis border unit_pos c
