-- Turning all axes forward and all axes back undo each other: axis by axis, the last turned first back.
-- Assumes nothing.
use mathlib.Core.Path.{◌≡◌, refl, ap, ◌∙◌, fun_ext}
use Prim.Native.Nat.{ℕ, zero, suc, ◌<◌}
use lib.IntN.{ℤ, pos}
use Rattle.hierarchy.specs.Turns.{forward, backward}
use Rattle.hierarchy.specs.Sets.{swept, every_axis}
use Rattle.hierarchy.proofs.Inverse.{forward_zero, backward_zero, backward_past, back_of_forward, forward_of_back}
use Rattle.shapes.specs.declared.Shape.{Shape}
use Rattle.shapes.specs.Shapes.{points_of}
use Rattle.grids.proofs.Instance.{grid, shallow}
use Rattle.grids.specs.Grids.{neighbour, depth, height}
use Rattle.whole.specs.Whole.{back_all}

module _ (s : Shape) where
  pub swept_zero : (k : ℕ) (f : ℕ → ℤ) → f 0 ≡ pos 0 → swept (neighbour s) every_axis k f 0 ≡ pos 0
  unfolding swept
  swept_zero zero f z = z
  swept_zero (suc k) f z =
      forward_zero (points_of s) (neighbour s) (depth s) (grid s) k
      (swept (neighbour s) every_axis k f) (swept_zero k f z)

  pub back_zero : (k : ℕ) (f : ℕ → ℤ) → f 0 ≡ pos 0 → back_all s k f 0 ≡ pos 0
  unfolding back_all
  back_zero zero f z = z
  back_zero (suc k) f z =
      back_zero k (backward (neighbour s) (height s) k f)
      (backward_zero (points_of s) (neighbour s) (depth s) (grid s) k
      (height s) f z)

  pub back_past : (k : ℕ) (f : ℕ → ℤ) → f 0 ≡ pos 0 → (p : ℕ) → points_of s < p → back_all s k f p ≡ f p
  unfolding back_all
  back_past zero f z p h = refl
  back_past (suc k) f z p h =
      back_past k (backward (neighbour s) (height s) k f)
      (backward_zero (points_of s) (neighbour s) (depth s) (grid s) k
      (height s) f z) p h
      ∙ backward_past (points_of s) (neighbour s) (depth s) (grid s) k
      (height s) f z p h

  -- All forward, then all back.
  pub back_of_swept : (k : ℕ) (f : ℕ → ℤ) → f 0 ≡ pos 0 → back_all s k (swept (neighbour s) every_axis k f) ≡ f
  unfolding back_all swept
  back_of_swept zero f z = refl
  back_of_swept (suc k) f z =
      ap (back_all s k)
      (fun_ext λ p.
      back_of_forward (points_of s) (neighbour s) (depth s) (grid s) k
      (height s) (swept (neighbour s) every_axis k f) (swept_zero k f z) p (shallow s k p))
      ∙ back_of_swept k f z

  -- All back, then all forward.
  pub swept_of_back : (k : ℕ) (f : ℕ → ℤ) → f 0 ≡ pos 0 → swept (neighbour s) every_axis k (back_all s k f) ≡ f
  unfolding back_all swept
  swept_of_back zero f z = refl
  swept_of_back (suc k) f z =
      let g = backward (neighbour s) (height s) k f in
      ap (forward (neighbour s) k)
      (swept_of_back k g
      (backward_zero (points_of s) (neighbour s) (depth s) (grid s) k
      (height s) f z))
      ∙ fun_ext λ p.
      forward_of_back (points_of s) (neighbour s) (depth s) (grid s) k
      (height s) f z p (shallow s k p)
