-- How far an estimate can be off. Rounding the joint weight down loses less than 1 for each axis but the first, so at most d − 1 for each point, and nothing
-- for a point that has a weight of 0 on some axis: its product and its joint weight are both 0. So the sum that an estimate divides is off by at most
-- d − 1 times S, and the last division, to the nearest, by a half more. Said of any axis weights of at most the unit, so of every sort of grid.
-- Assumes nothing.
use mathlib.Core.Path.{◌≡◌, ap, sym, ◌∙◌}
use mathlib.Core.Logic.{⊎_elim}
use Prim.Native.Nat.{ℕ, zero, suc, ◌+◌, ◌-◌, ◌*◌, ◌^◌, ◌≤◌, ◌<◌}
use native.Mathlib.Nat.{mul-le-mul_left, mul-le-mul_right, le_of_mul-le-mul_right, mul-zero, zero-mul, add-mul, pow-zero, pow-suc, eq-zero-or-pos}
use native.Mathlib.Omega.{arith}
use Rattle.std.proofs.lemmas.Grind.{div_ceil_times}
use Rattle.std.proofs.lemmas.Int.{ints}
use lib.IntN.{ℤ, pos, neg_ℤ, nat_abs, ◌+ℤ◌, ◌-ℤ◌, ◌*ℤ◌}
use Rattle.naturals.specs.Sum.{sum_to, prod_to}
use Rattle.naturals.proofs.Sums.{sum_to_suc}
use Rattle.naturals.proofs.Cases.{true_or_false}
use Rattle.integers.specs.Nearest.{apart}
use Rattle.integers.specs.Total.{total}
use Rattle.integers.proofs.Nearest.{nearest_half}
use Rattle.integers.proofs.Products.{neg_times, times_swap, plus_times, size_times}
use Rattle.integers.proofs.Sizes.{sum_size, difference_size}
use Rattle.integers.proofs.Totals.{total_zero, total_suc}
use Rattle.numbered.specs.Numbered.{Numbered, Numbering}
use Rattle.shapes.specs.declared.Shape.{Shape}
use Rattle.grids.specs.Grids.{numbered}
use Rattle.grids.proofs.Points.{numbering}
use Rattle.interpolation.specs.Weighted.{weighted, weighted_sum}
use Rattle.interpolation.proofs.Weighted.{weighted_sum_cong, weighted_sum_plus, weighted_sum_times}
use Rattle.surfaces.specs.Weights.{unit, joint}
use Rattle.surfaces.specs.Surface.{Fraction, weight_in, product_in, joint_in, surface_in, joint_sum_in, rounded, estimate_in, exact_value_in, exact_value, estimate_at}
use Rattle.surfaces.specs.Margin.{absolute_reached, absolute_sum, WithinMargin, margin, DiffersByAtMost, WithinUnit, absolute_sum_in, absolute_sum_at}
use Rattle.surfaces.proofs.Unit.{unit_pos}
use Rattle.surfaces.proofs.AxisHat.{axis_weight_le}
use Rattle.surfaces.proofs.Joint.{joint_under, joint_over}
use Rattle.surfaces.proofs.Reached.{product_reached}

-- ---- the margin rounded up

-- The smallest whole number that is not below 1/2 + (d − 1) × s / u, both times 2 × u.
module _ (u d s : ℕ) (some : 0 < u) where
  pub margin_least : (u + 2 * ((d - 1) * s) ≤ margin u d s * (2 * u)) × (margin u d s * (2 * u) < u + 2 * ((d - 1) * s) + 2 * u)
  unfolding margin
  margin_least = div_ceil_times (u + 2 * ((d - 1) * s)) (2 * u) (omega (arith, some))

-- ---- sums

-- A total whose terms are at most k times those of a sum is at most k times the sum.
total_bound : (f : ℕ → ℤ) (g : ℕ → ℕ) (k m : ℕ) → ((p : ℕ) → p < m → nat_abs (f p) ≤ g p * k) → nat_abs (total f m) ≤ sum_to g m * k
total_bound f g k zero each = rw (total_zero f) (omega arith)
total_bound f g k (suc m) each =
    rw (total_suc f m, sum_to_suc g m)
    (omega (
      arith,
      sum_size (total f m) (f m),
      total_bound f g k m (λ p h. each p (omega arith)),
      each m (omega arith),
      add-mul (sum_to g m) (g m) k,
    ))

-- ---- any axis weights of at most the unit

module _ (m d u : ℕ) (some : 0 < u) (w : ℕ → ℕ → ℕ) (small : (p t : ℕ) → p < m → t < d → w p t ≤ u) (c : ℕ → ℤ) where
  abbrev product : ℕ → ℕ
  product p = prod_to (w p) d

  abbrev joint_weight : ℕ → ℕ
  joint_weight p = joint u (w p) d

  -- The estimate and the exact value of such weights.
  abbrev found : ℤ
  found = rounded u (weighted_sum m c joint_weight)

  abbrev exact : Fraction
  exact = record { numerator = weighted_sum m c product; denominator = u ^ d }

  -- What rounding loses of a point's product, counted in the unit to the d + 1.
  loss : ℕ → ℕ
  loss p = product p * u - joint_weight p * u ^ d

  with_loss : (p : ℕ) → product p * u ≡ joint_weight p * u ^ d + loss p
  unfolding loss
  with_loss p = omega (arith, joint_under u (w p) d)

  loss_small : (p : ℕ) → p < m → loss p ≤ (d - 1) * u ^ d
  unfolding loss
  loss_small p h = omega (arith, joint_over u (w p) some d (λ t axis. small p t h axis))

  loss_none : (p : ℕ) → product p ≡ 0 → loss p ≡ 0
  unfolding loss
  loss_none p none = omega (arith, ap (λ (a : ℕ). a * u) none, zero-mul u)

  -- What a point loses is nothing, or it is reached.
  lost_term : (p : ℕ) → p < m → nat_abs (weighted c loss p) ≤ absolute_reached d w c p * ((d - 1) * u ^ d)
  unfolding weighted absolute_reached
  lost_term p h =
      ⊎_elim
      (λ none.
      omega (
        arith,
        size_times (c (suc p)) (loss p),
        ap (λ (a : ℕ). nat_abs (c (suc p)) * a) (loss_none p none),
        mul-zero (nat_abs (c (suc p))),
      ))
      (λ more.
      rw (size_times (c (suc p)) (loss p), product_reached (w p) d more)
      (mul-le-mul_left (nat_abs (c (suc p))) (loss_small p h)))
      (eq-zero-or-pos (product p))

  -- All that is lost.
  lost : nat_abs (weighted_sum m c loss) ≤ absolute_sum m d w c * ((d - 1) * u ^ d)
  unfolding weighted_sum absolute_sum
  lost = total_bound (weighted c loss) (absolute_reached d w c) ((d - 1) * u ^ d) m lost_term

  -- The exact sum is that of the joint weights and what is lost.
  sum_with_loss : weighted_sum m c product *ℤ pos u ≡ weighted_sum m c joint_weight *ℤ pos (u ^ d) +ℤ weighted_sum m c loss
  sum_with_loss =
      sym (weighted_sum_times m c product u)
      ∙ weighted_sum_cong m c _ (λ p. joint_weight p * u ^ d + loss p) (λ p h. with_loss p)
      ∙ weighted_sum_plus m c (λ p. joint_weight p * u ^ d) loss
      ∙ ap (λ (z : ℤ). z +ℤ weighted_sum m c loss) (weighted_sum_times m c joint_weight (u ^ d))

  -- The distance of the rounded quotient e of the sum of joint weights s from the exact sum f, g being what is lost.
  distance_split : (e s f g : ℤ) (D : ℕ) → f *ℤ pos u ≡ s *ℤ pos D +ℤ g → (e *ℤ pos D -ℤ f) *ℤ pos u ≡ (e *ℤ pos u -ℤ s) *ℤ pos D -ℤ g
  distance_split e s f g D is =
      omega (
        arith,
        ints,
        plus_times (e *ℤ pos D) (neg_ℤ f) u,
        neg_times f u,
        plus_times (e *ℤ pos u) (neg_ℤ s) D,
        neg_times s D,
        times_swap e D u,
        is,
      )

  distance_bound : (e s f g : ℤ) (D k r : ℕ) → f *ℤ pos u ≡ s *ℤ pos D +ℤ g → 2 * apart u s e ≤ u → nat_abs g ≤ r * (k * D) →
      apart D f e * (2 * u) ≤ (u + 2 * (k * r)) * D
  distance_bound e s f g D k r is near few =
      omega (
        arith,
        size_times (e *ℤ pos D -ℤ f) u,
        ap nat_abs (distance_split e s f g D is),
        difference_size ((e *ℤ pos u -ℤ s) *ℤ pos D) g,
        size_times (e *ℤ pos u -ℤ s) D,
        mul-le-mul_right D near,
        few,
      )

  -- The margin, times twice the unit and the unit to the d.
  margin_times : apart (u ^ d) (exact.numerator) found * (2 * u) ≤ (u + 2 * ((d - 1) * absolute_sum m d w c)) * u ^ d
  unfolding rounded
  margin_times =
      distance_bound found (weighted_sum m c joint_weight) (exact.numerator) (weighted_sum m c loss)
      (u ^ d) (d - 1) (absolute_sum m d w c)
      sum_with_loss
      (nearest_half u (weighted_sum m c joint_weight) some)
      lost

  -- The paper's bound, times twice the unit to the d.
  pub weights_within_margin : WithinMargin u d (absolute_sum m d w c) found exact
  weights_within_margin = cancelled d (apart (u ^ d) (exact.numerator) found) (absolute_sum m d w c) margin_times
    where
      one_power : (a r e D : ℕ) → D ≡ e * u → a * (2 * u) ≤ (u + 2 * r) * D → 2 * a ≤ D + 2 * (r * e)
      one_power a r e D power h =
          le_of_mul-le-mul_right {k = u} (omega (arith, h, ap (λ (x : ℕ). (u + 2 * r) * x) power, ap (λ (x : ℕ). x * u) power)) some

      cancelled : (d a r : ℕ) → a * (2 * u) ≤ (u + 2 * ((d - 1) * r)) * u ^ d → 2 * a ≤ u ^ d + 2 * ((d - 1) * r * u ^ (d - 1))
      cancelled zero a r h = le_of_mul-le-mul_right {k = u} (omega (arith, h, pow-zero u, zero-mul r)) some
      cancelled (suc k) a r h =
          let last : suc k - 1 ≡ k = omega arith in
          rw last (one_power a (k * r) (u ^ k) (u ^ suc k) (pow-suc u k) (rw last at h))

  -- Rounded up to a whole number.
  pub weights_within_whole : DiffersByAtMost (margin u d (absolute_sum m d w c)) found exact
  weights_within_whole =
      widened (apart (u ^ d) (exact.numerator) found) (u + 2 * ((d - 1) * absolute_sum m d w c)) (margin u d (absolute_sum m d w c)) (u ^ d)
      margin_times
      (margin_least u d (absolute_sum m d w c) some).0
    where
      widened : (a b k D : ℕ) → a * (2 * u) ≤ b * D → b ≤ k * (2 * u) → a ≤ k * D
      widened a b k D h up =
          le_of_mul-le-mul_right {k = 2 * u} (omega (arith, h, mul-le-mul_right D up)) (omega (arith, some))

-- ---- numbered points

module _ (u : ℕ) (some : 0 < u) {g : Numbered} {Point : (ℕ → ℕ) → (ℕ → ℕ) → (ℕ → ℕ) → Type 0} (n : Numbering g Point)
    (c : ℕ → ℤ) (x : ℕ → ℕ) (within : WithinUnit u g x) where
  each_small : (p t : ℕ) → p < g.count → t < g.axes → weight_in u g x p t ≤ u
  unfolding weight_in
  each_small p t h axis =
      axis_weight_le u (x t) (g.level p t) (g.index p t) (g.mark p t)
      (λ marked.
      true_or_false g.border (within t axis)
      (λ zero. absurd (omega (arith, marked, n.only (n.point_at p h) zero t axis))))

  pub within_margin_in : WithinMargin u g.axes (absolute_sum_in u g c x) (estimate_in u g c x) (exact_value_in u g c x)
  unfolding surface_in estimate_in joint_sum_in product_in joint_in absolute_sum_in
  within_margin_in = weights_within_margin g.count g.axes u some (weight_in u g x) each_small c

  pub within_whole_in : DiffersByAtMost (margin u g.axes (absolute_sum_in u g c x)) (estimate_in u g c x) (exact_value_in u g c x)
  unfolding surface_in estimate_in joint_sum_in product_in joint_in absolute_sum_in
  within_whole_in = weights_within_whole g.count g.axes u some (weight_in u g x) each_small c

-- ---- the points of a shape

module _ (s : Shape) (c : ℕ → ℤ) (x : ℕ → ℕ) (within : WithinUnit unit (numbered s) x) where
  -- The estimate, of any coefficients, differs from the exact value by at most 1/2 + (d − 1) × S / the unit: at any coordinates with a zero border, and else at
  -- those of at most the unit.
  pub within_margin : WithinMargin unit s.axes (absolute_sum_at s c x) (estimate_at s c x) (exact_value s c x)
  within_margin = within_margin_in unit unit_pos (numbering s) c x within

  -- So by at most that rounded up.
  pub within_whole : DiffersByAtMost (margin unit s.axes (absolute_sum_at s c x)) (estimate_at s c x) (exact_value s c x)
  within_whole = within_whole_in unit unit_pos (numbering s) c x within
