-- Rates times 2^d, swept on the first k axes, are the table of the set of these axes. So the forward turn on the next axis is accepted, as on any table of a set.
-- Assumes nothing.
use mathlib.Core.Path.{◌≡◌, refl, ap, sym, ◌∙◌}
use mathlib.Core.Bool.{Bool, true, false}
use Prim.Native.Nat.{ℕ, zero, suc, ◌^◌, ◌≤◌, ◌<◌}
use native.Mathlib.Omega.{arith}
use lib.Dec.{ltb}
use lib.IntN.{ℤ, nat_abs}
use borrow.Author.Tests.{lt-ltb, le-ltb}
use Rattle.naturals.proofs.Cases.{le_or_lt}
use Rattle.hierarchy.specs.Turns.{forward, accepted}
use Rattle.hierarchy.specs.Sets.{scaled, swept, table_of, every_axis}
use Rattle.hierarchy.proofs.Closed.{With}
use Rattle.hierarchy.proofs.Steps.{forward_accepted}
use Rattle.shapes.specs.declared.Shape.{Shape}
use Rattle.shapes.specs.Shapes.{points_of}
use Rattle.grids.specs.Grids.{neighbour, depth}
use Rattle.grids.proofs.Instance.{grid}

-- The first k axes.
up_to : ℕ → ℕ → Bool
up_to k t = ltb t k

up_in : (k t : ℕ) → t < k → up_to k t ≡ true
unfolding up_to
up_in k t h = lt-ltb t k h

up_out : (k t : ℕ) → k ≤ t → up_to k t ≡ false
unfolding up_to
up_out k t h = le-ltb t k h

module _ (s : Shape) where
  -- The next set has one axis more.
  up_with : (k : ℕ) → With (neighbour s) k (up_to k) (up_to (suc k))
  up_with k =
      record {
        out = up_out k k (omega arith);
        inside = up_in (suc k) k (omega arith);
        same =
            λ u ne.
            le_or_lt k u
            (λ le. up_out k u le ∙ sym (up_out (suc k) u (omega arith)))
            (λ lt. up_in k u lt ∙ sym (up_in (suc k) u (omega arith)));
      }

  -- Swept on all of the first k axes, or on the set of these among more: the same.
  swept_inside : (k j : ℕ) (f : ℕ → ℤ) → j ≤ k → swept (neighbour s) (up_to k) j f ≡ swept (neighbour s) every_axis j f
  unfolding swept
  swept_inside k zero f h = refl
  swept_inside k (suc j) f h = rw (up_in k j h) (ap (forward (neighbour s) j) (swept_inside k j f (omega arith)))

  swept_past : (k n : ℕ) (f : ℕ → ℤ) → k ≤ n → swept (neighbour s) (up_to k) n f ≡ swept (neighbour s) (up_to k) k f
  unfolding swept
  swept_past k zero f h =
      let same : 0 ≡ k = omega arith in
      ap (λ (d : ℕ). swept (neighbour s) (up_to k) d f) same
  swept_past k (suc n) f h =
      le_or_lt (suc n) k
      (λ le.
      let same : suc n ≡ k = omega arith in
      ap (λ (d : ℕ). swept (neighbour s) (up_to k) d f) same)
      (λ lt. rw (up_out k n (omega arith)) (swept_past k n f (omega arith)))

  first_axes : (k : ℕ) (r : ℕ → ℤ) → k ≤ s.axes → swept (neighbour s) every_axis k (scaled s.axes r) ≡ table_of (neighbour s) s.axes (up_to k) r
  unfolding table_of
  first_axes k r h =
      sym (swept_past k s.axes (scaled s.axes r) h ∙ swept_inside k k (scaled s.axes r) (omega arith))

  pub first_accepted : (k : ℕ) (r : ℕ → ℤ) → k < s.axes → s.axes ≤ 8 → ((p : ℕ) → nat_abs (r p) ≤ 2 ^ 31) →
      accepted (neighbour s) (points_of s) k (swept (neighbour s) every_axis k (scaled s.axes r)) ≡ true
  first_accepted k r h few small =
      ap (accepted (neighbour s) (points_of s) k) (first_axes k r (omega arith))
      ∙ forward_accepted (points_of s) (neighbour s) (depth s) (grid s) s.axes k r h (up_to k) (up_to (suc k)) (up_with k) few small
