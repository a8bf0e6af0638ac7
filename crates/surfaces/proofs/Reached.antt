-- When a point is reached: as its axis weights say. A product above zero reaches its point, since a weight of 0 makes it 0.
-- Assumes nothing.
use mathlib.Core.Path.{◌≡◌, ap}
use mathlib.Core.Bool.{true}
use mathlib.Core.Logic.{⊎_elim}
use Prim.Native.Nat.{ℕ, ◌<◌}
use native.Mathlib.Nat.{eq-zero-or-pos}
use native.Mathlib.Omega.{arith}
use lib.Dec.{ltb}
use borrow.Author.Tests.{lt-ltb, ltb-true}
use Rattle.naturals.specs.Sum.{prod_to}
use Rattle.naturals.proofs.Tests.{all_cong, all_at, all_from}
use Rattle.interpolation.proofs.Products.{prod_to_none}
use Rattle.surfaces.specs.Margin.{above_zero, is_reached}

module _ (v : ℕ → ℕ) (d : ℕ) where
  pub reached_above : is_reached d v ≡ true → (t : ℕ) → t < d → 0 < v t
  unfolding is_reached above_zero
  reached_above e t h = ltb-true 0 (v t) (all_at (above_zero v) d e t h)

  pub product_reached : 0 < prod_to v d → is_reached d v ≡ true
  unfolding is_reached above_zero
  product_reached some = all_from (above_zero v) d (λ t h. lt-ltb 0 (v t) (above t h))
    where
      above : (t : ℕ) → t < d → 0 < v t
      above t h = ⊎_elim (λ none. absurd (omega (arith, prod_to_none v d t h none))) (λ more. more) (eq-zero-or-pos (v t))

-- The same weights reach alike.
pub reached_cong : (v w : ℕ → ℕ) (d : ℕ) → ((t : ℕ) → t < d → v t ≡ w t) → is_reached d v ≡ is_reached d w
unfolding is_reached above_zero
reached_cong v w d same = all_cong (above_zero v) (above_zero w) d (λ t h. ap (ltb 0) (same t h))
