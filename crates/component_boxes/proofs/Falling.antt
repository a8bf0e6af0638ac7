-- The number of points left falls at each split: fewer levels on one axis are fewer points there, and as many on every other. So the order does not depend on the
-- bound that it is given, as long as that is at least the number of points.
-- Assumes nothing.
use mathlib.Core.Path.{◌≡◌, refl, ap, ap₂, sym, ◌∙◌}
use mathlib.Core.List.{[], ◌++◌}
use Prim.Native.Nat.{ℕ, zero, suc, ◌+◌, ◌-◌, ◌*◌, ◌≤◌, ◌<◌}
use native.Mathlib.Nat.{mul-lt-mul_of_pos_right, mul-lt-mul_of_pos_left, mul-le-mul, mul-one}
use native.Mathlib.Omega.{arith}
use borrow.Author.Tests.{le-leb, lt-leb}
use Rattle.naturals.proofs.Cases.{eq_or_not, le_or_lt}
use Rattle.numbering.specs.Parent.{update}
use Rattle.numbering.proofs.Parents.{update_same, update_other}
use Rattle.splits.specs.Splits.{steps_at, cut}
use Rattle.component_grids.specs.Component.{across, points_to}
use Rattle.component_grids.proofs.Places.{across_pos, across_is, points_to_zero, points_to_suc, points_to_pos}
use Rattle.component_boxes.specs.Order.{widest, middle_of, half_of, away, order_from, order_in}
use Rattle.component_boxes.proofs.Widest.{across_mono, across_less, widest_lt}

-- ---- fewer points

same_points : (k m : ℕ → ℕ) (d : ℕ) → ((t : ℕ) → t < d → m t ≡ k t) → points_to m d ≡ points_to k d
same_points k m zero same = points_to_zero m ∙ sym (points_to_zero k)
same_points k m (suc d) same =
    points_to_suc m d
    ∙ ap₂ (λ (x y : ℕ). x * across y) (same_points k m d (λ t h. same t (omega arith))) (same d (omega arith))
    ∙ sym (points_to_suc k d)

pub fewer_points : (k : ℕ → ℕ) (d r v : ℕ) → r < d → v < k r → points_to (update k r v) d < points_to k d
fewer_points k zero r v lt less = absurd (omega arith)
fewer_points k (suc d) r v lt less =
    rw (points_to_suc (update k r v) d, points_to_suc k d)
    (eq_or_not r d
    (λ last.
    let here : update k r v d ≡ v = ap (update k r v) (sym last) ∙ update_same k r v in
    rw (here, same_points k (update k r v) d (λ t h. update_other k r v t (λ e. omega arith)))
    (mul-lt-mul_of_pos_left {k = points_to k d} (across_less v (k d) (omega (arith, ap k last))) (points_to_pos k d)))
    (λ before.
    rw (update_other k r v d (λ e. before (sym e)))
    (mul-lt-mul_of_pos_right {k = across (k d)} (fewer_points k d r v (omega arith) less) (across_pos (k d)))))

-- No more levels on any axis are no more points, and the first axes have no more than all.
pub no_more_points : (k m : ℕ → ℕ) (d : ℕ) → ((t : ℕ) → t < d → k t ≤ m t) → points_to k d ≤ points_to m d
no_more_points k m zero le = omega (arith, points_to_zero k, points_to_zero m)
no_more_points k m (suc d) le =
    rw (points_to_suc k d, points_to_suc m d)
    (mul-le-mul (no_more_points k m d (λ t h. le t (omega arith))) (across_mono (k d) (m d) (le d (omega arith))))

pub points_before : (k : ℕ → ℕ) (t d : ℕ) → t ≤ d → points_to k t ≤ points_to k d
points_before k t zero le = let e : t ≡ 0 = omega arith in rw e (omega arith)
points_before k t (suc d) le =
    eq_or_not t (suc d)
    (λ same. rw same (omega arith))
    (λ other.
    omega (
      arith,
      points_before k t d (omega arith),
      points_to_suc k d,
      mul-le-mul {n₁ = points_to k d} {m₁ = 1} {n₂ = points_to k d} {m₂ = across (k d)} (omega arith) (across_pos (k d)),
      mul-one (points_to k d),
    ))

-- Where each axis has one point there is one.
pub single_point : (k : ℕ → ℕ) (d : ℕ) → ((t : ℕ) → t < d → across (k t) ≤ 1) → points_to k d ≤ 1
single_point k zero each = omega (arith, points_to_zero k)
single_point k (suc d) each =
    rw (points_to_suc k d)
    (mul-le-mul {n₁ = points_to k d} {m₁ = across (k d)} {n₂ = 1} {m₂ = 1} (single_point k d (λ t h. each t (omega arith))) (each d (omega arith)))

module _ (k : ℕ → ℕ) (d r : ℕ) (axis : r < d) (some : 0 < k r) where
  pub middle_fewer : points_to (middle_of k r) d < points_to k d
  unfolding middle_of
  middle_fewer = fewer_points k d r 0 axis some

  pub half_fewer : points_to (half_of k r) d < points_to k d
  unfolding half_of
  half_fewer = fewer_points k d r (k r - 1) axis (omega arith)

-- ---- the order, whatever bound it is given

module _ (d : ℕ) (tops : ℕ → ℕ) where
  -- The order of a single point, and of a split.
  pub order_single : (g s t : ℕ) (k : ℕ → ℕ) (p : ℕ) → across (k (widest k d)) ≤ 1 → order_from d tops g s t k p ≡ steps_at (t - s) s (suc p)
  unfolding order_from
  order_single zero s t k p one = refl
  order_single (suc g) s t k p one = rw (le-leb (across (k (widest k d))) 1 one)

  pub order_split : (g s t : ℕ) (k : ℕ → ℕ) (p : ℕ) → 1 < across (k (widest k d)) →
      order_from d tops (suc g) s t k p
      ≡ order_from d tops g s (cut s t (widest k d)) (middle_of k (widest k d)) p
      ++ (order_from d tops g s t (half_of k (widest k d)) (p - away tops k (widest k d))
      ++ (order_from d tops g s t (half_of k (widest k d)) (p + away tops k (widest k d))
      ++ order_from d tops g (cut s t (widest k d)) t (middle_of k (widest k d)) p))
  unfolding order_from
  order_split g s t k p more = rw (lt-leb (across (k (widest k d))) 1 more)

  -- An axis with more than one point is one of the grid's, and has a level to lose.
  pub level_left : (n : ℕ) → 1 < across n → 0 < n
  level_left n more = eq_or_not n 0 (λ z. absurd (omega (arith, across_is 0, ap across z))) (λ ne. omega arith)

  pub order_enough : 0 < d → (g h s t : ℕ) (k : ℕ → ℕ) (p : ℕ) → points_to k d ≤ g → points_to k d ≤ h →
      order_from d tops g s t k p ≡ order_from d tops h s t k p
  order_enough dim zero h s t k p low high = absurd (omega (arith, points_to_pos k d))
  order_enough dim (suc g) zero s t k p low high = absurd (omega (arith, points_to_pos k d))
  order_enough dim (suc g) (suc h) s t k p low high =
      let r : ℕ = widest k d in
      let same = order_enough dim g h in
      le_or_lt (across (k r)) 1
      (λ one. order_single (suc g) s t k p one ∙ sym (order_single (suc h) s t k p one))
      (λ more.
      let axis : r < d = widest_lt k d dim in
      let middle = middle_fewer k d r axis (level_left (k r) more) in
      let half = half_fewer k d r axis (level_left (k r) more) in
      order_split g s t k p more
      ∙ ap₂ ◌++◌ (same s (cut s t r) (middle_of k r) p (omega arith) (omega arith))
      (ap₂ ◌++◌ (same s t (half_of k r) (p - away tops k r) (omega arith) (omega arith))
      (ap₂ ◌++◌ (same s t (half_of k r) (p + away tops k r) (omega arith) (omega arith))
      (same (cut s t r) t (middle_of k r) p (omega arith) (omega arith))))
      ∙ sym (order_split h s t k p more))

  -- With no axis to do there is no step.
  no_steps : (s p : ℕ) → steps_at (s - s) s p ≡ []
  no_steps s p = let e : s - s ≡ 0 = omega arith in ap (λ (n : ℕ). steps_at n s p) e ∙ none
    where
      none : steps_at 0 s p ≡ []
      none = unfold steps_at in refl

  no_cut : (s r : ℕ) → cut s s r ≡ s
  unfolding cut
  no_cut s r = omega arith

  order_none : (g s : ℕ) (k : ℕ → ℕ) (p : ℕ) → order_from d tops g s s k p ≡ []
  order_none zero s k p = first
    where
      first : order_from d tops 0 s s k p ≡ []
      first = unfold order_from in no_steps s (suc p)
  order_none (suc g) s k p =
      let r : ℕ = widest k d in
      let again = order_none g s in
      le_or_lt (across (k r)) 1
      (λ one. order_single (suc g) s s k p one ∙ no_steps s (suc p))
      (λ more.
      order_split g s s k p more
      ∙ rw (no_cut s r, again (middle_of k r) p, again (half_of k r) (p - away tops k r), again (half_of k r) (p + away tops k r)))

  pub in_none : (s : ℕ) (k : ℕ → ℕ) (p : ℕ) → order_in d tops s s k p ≡ []
  unfolding order_in
  in_none s k p = order_none (points_to k d) s k p

  -- The order as the papers have it.
  module _ (dim : 0 < d) (s t : ℕ) (k : ℕ → ℕ) (p : ℕ) where
    pub in_single : across (k (widest k d)) ≤ 1 → order_in d tops s t k p ≡ steps_at (t - s) s (suc p)
    unfolding order_in
    in_single one = order_single (points_to k d) s t k p one

    pub in_split : 1 < across (k (widest k d)) →
        order_in d tops s t k p
        ≡ order_in d tops s (cut s t (widest k d)) (middle_of k (widest k d)) p
        ++ (order_in d tops s t (half_of k (widest k d)) (p - away tops k (widest k d))
        ++ (order_in d tops s t (half_of k (widest k d)) (p + away tops k (widest k d))
        ++ order_in d tops (cut s t (widest k d)) t (middle_of k (widest k d)) p))
    unfolding order_in
    in_split more =
        let r : ℕ = widest k d in
        let axis : r < d = widest_lt k d dim in
        let middle = middle_fewer k d r axis (level_left (k r) more) in
        let half = half_fewer k d r axis (level_left (k r) more) in
        let g : ℕ = points_to k d - 1 in
        let e : points_to k d ≡ suc g = omega (arith, points_to_pos k d) in
        ap (λ (n : ℕ). order_from d tops n s t k p) e
        ∙ order_split g s t k p more
        ∙ ap₂ ◌++◌ (order_enough dim g (points_to (middle_of k r) d) s (cut s t r) (middle_of k r) p (omega arith) (omega arith))
        (ap₂ ◌++◌ (order_enough dim g (points_to (half_of k r) d) s t (half_of k r) (p - away tops k r) (omega arith) (omega arith))
        (ap₂ ◌++◌ (order_enough dim g (points_to (half_of k r) d) s t (half_of k r) (p + away tops k r) (omega arith) (omega arith))
        (order_enough dim g (points_to (middle_of k r) d) (cut s t r) t (middle_of k r) p (omega arith) (omega arith))))
