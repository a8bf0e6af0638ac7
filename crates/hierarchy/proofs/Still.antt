-- What has no neighbours on an axis does not move there: both parents count 0, and so does half of their sum.
-- Assumes nothing.
use mathlib.Core.Path.{◌≡◌, refl, ap, ◌∙◌}
use Prim.Native.Nat.{ℕ}
use lib.IntN.{ℤ, pos, ◌-ℤ◌, +ℤ_idr}
use Rattle.integers.specs.Half.{half}
use Rattle.numbering.specs.declared.Side.TheVariants.{Left, Right}
use Rattle.hierarchy.specs.Grid.{Neighbours, Still}
use Rattle.hierarchy.specs.Turns.{sum_on, forward}

pub half_zero : half (pos 0) ≡ pos 0
unfolding half
half_zero = refl

module _ (nb : Neighbours) (t : ℕ) (f : ℕ → ℤ) (z : f 0 ≡ pos 0) (p : ℕ) (still : Still nb t p) where
  pub sum_still : sum_on nb t f p ≡ pos 0
  unfolding sum_on
  sum_still = rw (still Left, still Right, z) refl

  half_still : half (sum_on nb t f p) ≡ pos 0
  half_still = ap half sum_still ∙ half_zero

  pub forward_still : forward nb t f p ≡ f p
  unfolding forward
  forward_still = ap (λ (h : ℤ). f p -ℤ h) half_still ∙ +ℤ_idr (f p)
