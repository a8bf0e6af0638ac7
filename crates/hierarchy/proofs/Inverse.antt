-- Forward and back on one axis undo each other, so at most one table has a given forward image. By the falling depth: a value is found again
-- from its image and the parents' values.
-- Assumes nothing.
use mathlib.Core.Path.{◌≡◌, refl, ap, ap₂, sym, ◌∙◌, fun_ext}
use Prim.Native.Nat.{ℕ, zero, suc, ◌<◌}
use native.Mathlib.Omega.{arith}
use lib.IntN.{ℤ, pos, ◌+ℤ◌, ◌-ℤ◌, +ℤ_idr, -ℤ-+ℤ_cancel, +ℤ-neg_ℤ_cancel}
use Rattle.naturals.proofs.Cases.{eq_or_not}
use Rattle.integers.specs.Half.{half}
use Rattle.numbering.specs.declared.Side.{Side}
use Rattle.numbering.specs.declared.Side.TheVariants.{Left, Right}
use Rattle.hierarchy.specs.Grid.{Neighbours, Grid}
use Rattle.hierarchy.specs.Turns.{sum_on, forward, backward}
use Rattle.hierarchy.proofs.Still.{half_zero, forward_still}

module _ (m : ℕ) (nb : Neighbours) (depth : ℕ → ℕ → ℕ) (grid : Grid m nb depth) (t : ℕ) where
  pub forward_is : (f : ℕ → ℤ) (p : ℕ) → forward nb t f p ≡ f p -ℤ half (f (nb t Left p) +ℤ f (nb t Right p))
  unfolding forward sum_on
  forward_is f p = refl

  pub backward_suc : (k : ℕ) (x : ℕ → ℤ) (p : ℕ) →
      backward nb (suc k) t x p ≡ x p +ℤ half (backward nb k t x (nb t Left p) +ℤ backward nb k t x (nb t Right p))
  unfolding backward
  backward_suc k x p = refl

  pub forward_zero : (f : ℕ → ℤ) → f 0 ≡ pos 0 → forward nb t f 0 ≡ pos 0
  forward_zero f z = forward_still nb t f z 0 (λ b. grid.border t b) ∙ z

  pub forward_past : (f : ℕ → ℤ) → f 0 ≡ pos 0 → (p : ℕ) → m < p → forward nb t f p ≡ f p
  forward_past f z p h = forward_still nb t f z p (λ b. grid.past t b p h)

  pub backward_zero : (k : ℕ) (x : ℕ → ℤ) → x 0 ≡ pos 0 → backward nb k t x 0 ≡ pos 0
  unfolding backward
  backward_zero zero x z = z
  backward_zero (suc k) x z = rw (grid.border t Left, grid.border t Right, backward_zero k x z, z, half_zero)

  pub backward_past : (k : ℕ) (x : ℕ → ℤ) → x 0 ≡ pos 0 → (p : ℕ) → m < p → backward nb k t x p ≡ x p
  unfolding backward
  backward_past zero x z p h = refl
  backward_past (suc k) x z p h =
      rw (grid.past t Left p h, grid.past t Right p h, backward_zero k x z, half_zero) (+ℤ_idr (x p))

  -- Two tables that agree at the parents, where there are any.
  pub at_parent : (f g : ℕ → ℤ) → f 0 ≡ g 0 → (b : Side) (p : ℕ) → ((nb t b p ≡ 0 → ⊥) → f (nb t b p) ≡ g (nb t b p)) →
      f (nb t b p) ≡ g (nb t b p)
  at_parent f g z b p else_where = eq_or_not (nb t b p) 0 (λ e. rw e z) else_where

  pub back_of_forward : (k : ℕ) (f : ℕ → ℤ) → f 0 ≡ pos 0 → (p : ℕ) → depth t p < k → backward nb k t (forward nb t f) p ≡ f p
  back_of_forward zero f z p h = absurd (omega arith)
  back_of_forward (suc k) f z p h =
      let parent : (b : Side) → backward nb k t (forward nb t f) (nb t b p) ≡ f (nb t b p) =
      λ b.
      at_parent (backward nb k t (forward nb t f)) f (backward_zero k (forward nb t f) (forward_zero f z) ∙ sym z) b p
      (λ ne. back_of_forward k f z (nb t b p) (omega (arith, grid.falls t b p ne))) in
      backward_suc k (forward nb t f) p
      ∙ ap₂ (λ (v w : ℤ). v +ℤ half w) (forward_is f p) (ap₂ ◌+ℤ◌ (parent Left) (parent Right))
      ∙ -ℤ-+ℤ_cancel (f p) (half (f (nb t Left p) +ℤ f (nb t Right p)))

  -- More steps than the depth change nothing.
  pub backward_stable : (k j : ℕ) (x : ℕ → ℤ) → x 0 ≡ pos 0 → (p : ℕ) → depth t p < k → depth t p < j → backward nb k t x p ≡ backward nb j t x p
  backward_stable zero j x z p h i = absurd (omega arith)
  backward_stable (suc k) zero x z p h i = absurd (omega arith)
  backward_stable (suc k) (suc j) x z p h i =
      let parent : (b : Side) → backward nb k t x (nb t b p) ≡ backward nb j t x (nb t b p) =
      λ b.
      at_parent (backward nb k t x) (backward nb j t x) (backward_zero k x z ∙ sym (backward_zero j x z)) b p
      (λ ne. backward_stable k j x z (nb t b p) (omega (arith, grid.falls t b p ne)) (omega (arith, grid.falls t b p ne))) in
      backward_suc k x p
      ∙ ap₂ (λ (v w : ℤ). x p +ℤ half (v +ℤ w)) (parent Left) (parent Right)
      ∙ sym (backward_suc j x p)

  pub forward_of_back : (k : ℕ) (x : ℕ → ℤ) → x 0 ≡ pos 0 → (p : ℕ) → depth t p < k → forward nb t (backward nb k t x) p ≡ x p
  forward_of_back zero x z p h = absurd (omega arith)
  forward_of_back (suc k) x z p h =
      let parent : (b : Side) → backward nb (suc k) t x (nb t b p) ≡ backward nb k t x (nb t b p) =
      λ b.
      at_parent (backward nb (suc k) t x) (backward nb k t x) (backward_zero (suc k) x z ∙ sym (backward_zero k x z)) b p
      (λ ne. backward_stable (suc k) k x z (nb t b p) (omega (arith, grid.falls t b p ne)) (omega (arith, grid.falls t b p ne))) in
      forward_is (backward nb (suc k) t x) p
      ∙ ap₂ (λ (v w : ℤ). v -ℤ half w) (backward_suc k x p) (ap₂ ◌+ℤ◌ (parent Left) (parent Right))
      ∙ +ℤ-neg_ℤ_cancel (x p) (half (backward nb k t x (nb t Left p) +ℤ backward nb k t x (nb t Right p)))

  -- At most one table has a given forward image.
  pub forward_injective : (f g : ℕ → ℤ) → f 0 ≡ pos 0 → g 0 ≡ pos 0 → ((p : ℕ) → forward nb t f p ≡ forward nb t g p) → (p : ℕ) → f p ≡ g p
  forward_injective f g zf zg same p =
      sym (back_of_forward (suc (depth t p)) f zf p (omega arith))
      ∙ ap (λ (x : ℕ → ℤ). backward nb (suc (depth t p)) t x p) (fun_ext same)
      ∙ back_of_forward (suc (depth t p)) g zg p (omega arith)
