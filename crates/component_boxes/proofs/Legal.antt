-- The order on a box is legal, and does its axes on the box and nothing else: by the number of points left, since the parts of a box split along its widest axis
-- are such that the order of a split is legal where theirs are.
-- Assumes nothing.
use mathlib.Core.Path.{◌≡◌, ap}
use Prim.Native.Nat.{ℕ, zero, suc, ◌+◌, ◌-◌, ◌^◌, ◌≤◌, ◌<◌}
use native.Mathlib.Omega.{arith}
use lib.Pow.{pow_pos}
use Rattle.naturals.proofs.Cases.{le_or_lt}
use Rattle.numbering.specs.declared.Side.{Side}
use Rattle.splits.specs.Splits.{cut, Due}
use Rattle.splits.proofs.Parts.{Does, cut_low, cut_high, split_does}
use Rattle.splits.proofs.OnePoint.{point_does}
use Rattle.component_grids.specs.Component.{across, points_to, neighbour, depth}
use Rattle.component_grids.proofs.Places.{points_to_pos, same_places}
use Rattle.component_grids.proofs.Instance.{grid}
use Rattle.component_boxes.specs.Order.{widest, middle_of, half_of, away, order_from, order_in}
use Rattle.component_boxes.specs.Boxes.{Near, Box, Fits}
use Rattle.component_boxes.proofs.Halves.{dec_box, middle_fits, left_fits, right_fits, halves}
use Rattle.component_boxes.proofs.Widest.{one_point, widest_lt, widest_most}
use Rattle.component_boxes.proofs.Falling.{middle_fewer, half_fewer, level_left, order_single, order_split}

module _ (d : ℕ) (tops : ℕ → ℕ) (dim : 0 < d) where
  -- A point is not beside itself.
  beside_other : (a : ℕ) (b : Side) (p : ℕ) → neighbour d tops a b (suc p) ≡ suc p → ⊥
  beside_other a b p e =
      let less : depth d tops a (neighbour d tops a b (suc p)) < depth d tops a (suc p) = (grid d tops).falls a b (suc p) (λ z. omega arith) in
      omega (arith, ap (depth d tops a) e)

  -- A box with one point on each axis.
  only_centre : (k : ℕ → ℕ) (c : ℕ) → c < points_to tops d → across (k (widest k d)) ≤ 1 → (q : ℕ) → Box d tops k c q → q ≡ suc c
  only_centre k c inside one zero none = absurd none
  only_centre k c inside one (suc q) near =
      ap suc
      (same_places d tops q c near.inside inside
      (λ t axis.
      let single : k t ≡ 0 = one_point (k t) (omega (arith, widest_most k d t axis)) in
      omega (arith, near.low t axis, near.high t axis, ap (λ (x : ℕ). 2 ^ x) single)))

  centre_near : (k : ℕ → ℕ) (c : ℕ) → c < points_to tops d → Near d tops k c c
  centre_near k c inside =
      record { inside = inside; low = λ t axis. omega (arith, pow_pos (k t)); high = λ t axis. omega (arith, pow_pos (k t)) }

  order_does : (g s t : ℕ) (k : ℕ → ℕ) (c : ℕ) → s ≤ t → t ≤ d → points_to k d ≤ g → Fits d tops k c → (count : ℕ → ℕ) →
      Due (neighbour d tops) d s t (Box d tops k c) count →
      Does (neighbour d tops) d t (Box d tops k c) count (order_from d tops g s t k c)
  order_does zero s t k c order axes enough fits count due = absurd (omega (arith, points_to_pos k d))
  order_does (suc g) s t k c order axes enough fits count due =
      let r : ℕ = widest k d in
      let again = order_does g in
      le_or_lt (across (k r)) 1
      (λ one.
      rw (order_single d tops (suc g) s t k c one)
      (point_does (neighbour d tops) d (suc c) (λ a b. beside_other a b c) (Box d tops k c)
      (only_centre k c fits.inside one)
      (centre_near k c fits.inside) s t order count due))
      (λ more.
      let axis : r < d = widest_lt k d dim in
      let some : 0 < k r = level_left d tops (k r) more in
      let middle = middle_fewer k d r axis some in
      let half = half_fewer k d r axis some in
      rw (order_split d tops g s t k c more)
      (split_does (neighbour d tops) d r (Box d tops k c) (Box d tops (middle_of k r) c) (Box d tops (half_of k r) (c - away tops k r))
      (Box d tops (half_of k r) (c + away tops k r))
      (halves d tops k c fits r axis some)
      (λ p. dec_box d tops (middle_of k r) c p) s t order axes count due
      (order_from d tops g s (cut s t r) (middle_of k r) c)
      (order_from d tops g s t (half_of k r) (c - away tops k r))
      (order_from d tops g s t (half_of k r) (c + away tops k r))
      (order_from d tops g (cut s t r) t (middle_of k r) c)
      (again s (cut s t r) (middle_of k r) c (cut_low s t r order) (omega (arith, cut_high s t r)) (omega arith)
      (middle_fits d tops k c fits r axis some) count)
      (again s t (half_of k r) (c - away tops k r) order axes (omega arith) (left_fits d tops k c fits r axis some))
      (again s t (half_of k r) (c + away tops k r) order axes (omega arith) (right_fits d tops k c fits r axis some))
      (again (cut s t r) t (middle_of k r) c (cut_high s t r) axes (omega arith) (middle_fits d tops k c fits r axis some))))

  pub in_order_does : (s t : ℕ) (k : ℕ → ℕ) (c : ℕ) → s ≤ t → t ≤ d → Fits d tops k c → (count : ℕ → ℕ) →
      Due (neighbour d tops) d s t (Box d tops k c) count →
      Does (neighbour d tops) d t (Box d tops k c) count (order_in d tops s t k c)
  unfolding order_in
  in_order_does s t k c order axes fits = order_does (points_to k d) s t k c order axes (omega arith) fits
