-- The joint weight, axis by axis. As a share of the unit it is at most the product of the axis weights, since each division is rounded down, and it falls short
-- of it by at most 1 for each axis but the first, since a division loses less than 1, what was lost before is scaled by a weight of at most the unit, and
-- the first division loses nothing. It reads the axis weights alone, is above 0 only where each of them is, and is at most the unit where each of them is,
-- since the product of two numbers of at most the unit is at most the unit squared.
-- Assumes nothing.
use mathlib.Core.Path.{◌≡◌, refl, ap, ap₂, sym, ◌∙◌}
use Prim.Native.Nat.{ℕ, zero, suc, ◌+◌, ◌-◌, ◌*◌, ◌/◌, ◌^◌, ◌≤◌, ◌<◌}
use native.Mathlib.Nat.{zero-mul, mul-zero, mul-le-mul, mul-le-mul_left, mul-le-mul_right, mul_comm, mul-div_cancel, pos_of_div-pos, div-add-mod', mod-lt, div-le_of_le-mul, pow-zero, pow-suc}
use native.Mathlib.Omega.{arith}
use Rattle.naturals.specs.Sum.{prod_to}
use Rattle.naturals.proofs.Cases.{eq_or_not}
use Rattle.interpolation.proofs.Products.{prod_to_zero, prod_to_suc}
use Rattle.surfaces.specs.Weights.{joint}

left_above : (a b : ℕ) → 0 < a * b → 0 < a
left_above zero b h = omega (arith, zero-mul b)
left_above (suc a) b h = omega arith

right_above : (a b : ℕ) → 0 < a * b → 0 < b
right_above a zero h = omega (arith, mul-zero a)
right_above a (suc b) h = omega arith

module _ (unit : ℕ) (w : ℕ → ℕ) where
  -- As shares of the unit, the joint weight is at most the product of the axis weights; here both stand times the unit to the k + 1.
  pub joint_under : (k : ℕ) → joint unit w k * unit ^ k ≤ prod_to w k * unit
  unfolding joint
  joint_under zero = rw (pow-zero unit, prod_to_zero w) (omega arith)
  joint_under (suc k) =
      rw (pow-suc unit k, prod_to_suc w k) (divided_under (joint unit w k) (w k) (unit ^ k) (prod_to w k) unit (joint_under k))
    where
      divided_under : (j v e p u : ℕ) → j * e ≤ p * u → j * v / u * (e * u) ≤ p * v * u
      divided_under j v e p u before =
          let down : j * v / u * u ≤ j * v = omega (arith, div-add-mod' (j * v) u) in
          omega (arith, mul-le-mul_right e down, mul-le-mul_right v before)

  pub joint_zero : joint unit w 0 ≡ unit
  unfolding joint
  joint_zero = refl

  pub joint_suc : (k : ℕ) → joint unit w (suc k) ≡ joint unit w k * w k / unit
  unfolding joint
  joint_suc k = refl

  -- Over one axis it is the weight there.
  pub joint_one : 0 < unit → joint unit w 1 ≡ w 0
  joint_one some =
      joint_suc 0 ∙ ap (λ (j : ℕ). j / unit) (ap (λ (j : ℕ). j * w 0) joint_zero ∙ mul_comm unit (w 0)) ∙ mul-div_cancel (w 0) some

  -- It falls short of the product by at most 1 for each axis but the first, again times the unit to the number of axes.
  module _ (some : 0 < unit) where
    joint_over_more : (k : ℕ) → ((t : ℕ) → t < suc k → w t ≤ unit) →
        prod_to w (suc k) * unit ≤ joint unit w (suc k) * unit ^ suc k + k * unit ^ suc k
    joint_over_more zero each =
        rw (joint_one some, prod_to_suc w 0, prod_to_zero w, pow-suc unit 0, pow-zero unit) (omega arith)
    joint_over_more (suc k) each =
        rw (joint_suc (suc k), pow-suc unit (suc k), prod_to_suc w (suc k))
        (divided_over (joint unit w (suc k)) (w (suc k)) (unit ^ suc k) (prod_to w (suc k)) unit k some
        (each (suc k) (omega arith))
        (joint_over_more k (λ t h. each t (omega arith))))
      where
        divided_over : (j v e p u k : ℕ) → 0 < u → v ≤ u → p * u ≤ j * e + k * e → p * v * u ≤ j * v / u * (e * u) + suc k * (e * u)
        divided_over j v e p u k more few before =
            let up : j * v ≤ j * v / u * u + u = omega (arith, div-add-mod' (j * v) u, mod-lt (j * v) more) in
            omega (arith, mul-le-mul_right v before, mul-le-mul_right e up, mul-le-mul_left (k * e) few)

    pub joint_over : (k : ℕ) → ((t : ℕ) → t < k → w t ≤ unit) → prod_to w k * unit ≤ joint unit w k * unit ^ k + (k - 1) * unit ^ k
    joint_over zero each = rw (joint_zero, pow-zero unit, prod_to_zero w) (omega arith)
    joint_over (suc k) each =
        let before : suc k - 1 ≡ k = omega arith in
        rw before (joint_over_more k each)

  -- A joint weight above 0 has every axis weight above 0.
  pub joint_above : (k : ℕ) → 0 < joint unit w k → (t : ℕ) → t < k → 0 < w t
  joint_above zero some t h = absurd (omega arith)
  joint_above (suc k) some t h =
      let both : 0 < joint unit w k * w k = pos_of_div-pos unit (omega (arith, joint_suc k)) in
      eq_or_not t k
      (λ e. rw e (right_above (joint unit w k) (w k) both))
      (λ ne. joint_above k (left_above (joint unit w k) (w k) both) t (omega arith))

  pub joint_le : (k : ℕ) → ((t : ℕ) → t < k → w t ≤ unit) → joint unit w k ≤ unit
  joint_le zero each = omega (arith, joint_zero)
  joint_le (suc k) each =
      rw (joint_suc k) (div-le_of_le-mul unit (mul-le-mul (joint_le k (λ t h. each t (omega arith))) (each k (omega arith))))

pub joint_cong : (unit : ℕ) (v w : ℕ → ℕ) (k : ℕ) → ((t : ℕ) → t < k → v t ≡ w t) → joint unit v k ≡ joint unit w k
joint_cong unit v w zero same = joint_zero unit v ∙ sym (joint_zero unit w)
joint_cong unit v w (suc k) same =
    joint_suc unit v k
    ∙ ap₂ (λ (j a : ℕ). j * a / unit) (joint_cong unit v w k (λ t h. same t (omega arith))) (same k (omega arith))
    ∙ sym (joint_suc unit w k)
