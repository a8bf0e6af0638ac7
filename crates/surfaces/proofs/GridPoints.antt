-- At a grid point rounding the joint weight down loses nothing, with a zero border or with values on it: a weight at a point, times 2^(l+1) for the point's level l on the axis, is a multiple of the
-- unit, so the joint weight is one of the unit over 2 to the level sum plus the number of axes, and the unit has that many factors of two.
-- Assumes nothing.
use mathlib.Core.Path.{◌≡◌, refl, ap, ap₂, sym, ◌∙◌}
use Prim.Native.Nat.{ℕ, zero, suc, ◌+◌, ◌-◌, ◌*◌, ◌/◌, ◌%◌, ◌^◌, ◌≤◌, ◌<◌}
use native.Mathlib.Nat.{mul-div_cancel, eq_of_mul-eq-mul_right, pow-suc, pow-zero, mul_comm, mul_assoc, mul-sub}
use native.Mathlib.Omega.{arith}
use lib.Pow.{pow-add, pow_pos}
use Rattle.naturals.specs.Sum.{sum_to, prod_to}
use Rattle.naturals.proofs.Cases.{le_or_lt}
use Rattle.naturals.proofs.Sums.{sum_to_zero, sum_to_suc, sum_to_mono, term_le}
use Rattle.numbered.specs.Numbered.{Numbered, Numbering}
use Rattle.shapes.specs.declared.Shape.{Shape}
use Rattle.shapes.specs.Shapes.{points_of}
use Rattle.grids.specs.Grids.{numbered}
use Rattle.grids.proofs.Points.{level_sum, numbering}
use Rattle.interpolation.proofs.Products.{prod_to_zero, prod_to_suc}
use Rattle.surfaces.specs.Weights.{unit, weight, axis_coordinate, axis_weight, joint}
use Rattle.surfaces.specs.Surface.{coordinates_in, weight_in, product_in, joint_in, coordinates_of, product_at, joint_at}
use Rattle.surfaces.proofs.Unit.{unit_bits, unit_is, WholeCoordinates, Share, unit_splits, coordinate_is}
use Rattle.surfaces.proofs.Hat.{tent, share_above, weight_above, weight_below, weight_low, weight_high}
use Rattle.surfaces.proofs.AxisHat.{OnAxis, weight_inside, weight_lower, weight_upper, coordinate_inside, coordinate_lower, coordinate_upper}
use Rattle.surfaces.proofs.Instance.{on_axis}
use Rattle.surfaces.proofs.Joint.{joint_zero, joint_suc}

-- w times 2^e is a multiple of the unit u.
record Multiple (u w e : ℕ) : Type 0 where
  times : ℕ
  exact : w * 2 ^ e ≡ times * u

-- The product of two multiples is one of the unit where the unit has all their factors of two.
product_of : (j w s l a b v u : ℕ) → 0 < s * l → j * s ≡ a * u → w * l ≡ b * u → v * (s * l) ≡ u → j * w ≡ a * b * v * u
product_of j w s l a b v u some ej ew whole =
    eq_of_mul-eq-mul_right (s * l) some (j * w) (a * b * v * u)
    (omega (
      arith,
      ap₂ (λ (x y : ℕ). x * y) ej ew,
      ap (λ (x : ℕ). a * b * u * x) whole,
    ))

-- ---- the levels of the points

-- One more than the level on each axis.
deeper : (ℕ → ℕ) → ℕ → ℕ
deeper l t = suc (l t)

deeper_sum : (l : ℕ → ℕ) (d : ℕ) → sum_to (deeper l) d ≡ sum_to l d + d
unfolding deeper
deeper_sum l zero = omega (arith, sum_to_zero (deeper l), sum_to_zero l)
deeper_sum l (suc d) = omega (arith, sum_to_suc (deeper l) d, sum_to_suc l d, deeper_sum l d)

-- The levels of every point and the axes are together at most the factors of two of the unit, so that joint weights at points are whole.
abbrev pub WholeWeights : ℕ → Numbered → Type 0
WholeWeights bits g = (q : ℕ) → q < g.count → sum_to (g.level q) g.axes + g.axes ≤ bits

-- Then coordinates are.
pub whole_coordinates : (bits : ℕ) (g : Numbered) → WholeWeights bits g → WholeCoordinates bits g
whole_coordinates bits g whole q t q_in axis = omega (arith, whole q q_in, term_le (g.level q) g.axes t axis)

-- ---- weights in a unit of so many factors of two

module _ (u bits : ℕ) (binary : u ≡ 2 ^ bits) where
  splits : (k : ℕ) → k ≤ bits → Share u k
  splits k few = unit_splits u bits k binary few

  -- ---- one axis

  weight_multiple : (lp ip lq m v : ℕ) → ip % 2 ≡ 1 → v * 2 ^ suc lq ≡ u → Multiple u (weight u (m * v) lp ip) (suc lq)
  weight_multiple lp ip lq m v odd whole =
      le_or_lt lp lq above
      (λ lt. record { times = 0; exact = ap (λ (w : ℕ). w * 2 ^ suc lq) (weight_below u lp ip lq m v whole lt odd) ∙ zeros (2 ^ suc lq) u })
    where
      zeros : (a u : ℕ) → 0 * a ≡ 0 * u
      zeros a u = omega arith

      regroup : (s y a b c w u : ℕ) → s * a ≡ u → w ≡ s * y → c ≡ a * b → w * c ≡ y * b * u
      regroup s y a b c w u e f g =
          omega (arith, ap₂ (λ (j k : ℕ). j * k) f g, ap (λ (x : ℕ). y * b * x) e)

      above : lp ≤ lq → Multiple u (weight u (m * v) lp ip) (suc lq)
      above le =
          let h : ℕ = 2 ^ (lq - lp) in
          let high = share_above u lp lq v whole le in
          let parts : suc lq ≡ lq - lp + suc lp = omega arith in
          record {
            times = tent h (ip * h) m * 2 ^ suc lp;
            exact =
                regroup (v * 2 ^ suc lp) (tent h (ip * h) m) h (2 ^ suc lp) (2 ^ suc lq) (weight u (m * v) lp ip) u high
                (weight_above u lp ip m v h high)
                (ap (λ (k : ℕ). 2 ^ k) parts ∙ pow-add 2 (lq - lp) (suc lp));
          }

  module _ (a l i : ℕ) (x : OnAxis a l i) where
    none_multiple : (w e : ℕ) → w ≡ 0 → Multiple u w e
    none_multiple w e none = record { times = 0; exact = ap (λ (y : ℕ). y * 2 ^ e) none ∙ zeros (2 ^ e) u }
      where
        zeros : (a u : ℕ) → 0 * a ≡ 0 * u
        zeros a u = omega arith

    whole_multiple : (w e : ℕ) → w ≡ u → Multiple u w e
    whole_multiple w e all = record { times = 2 ^ e; exact = ap (λ (y : ℕ). y * 2 ^ e) all ∙ mul_comm u (2 ^ e) }

    -- At a point inside, of level k and index j: a border's weight is so many shares.
    inside_multiple : (k j v : ℕ) → j < 2 ^ suc k → v * 2 ^ suc k ≡ u → Multiple u (axis_weight u (j * v) a l i) (suc k)
    inside_multiple k j v below whole = by_mark a
      where
        line : (j v b : ℕ) → (v * b - j * v) * b ≡ (b - j) * (v * b)
        line j v b =
            ap (λ (y : ℕ). (v * b - y) * b) (mul_comm j v)
            ∙ ap (λ (y : ℕ). y * b) (sym (mul-sub v b j))
            ∙ omega (arith, mul_comm v (b - j), mul_assoc (b - j) v b)

        by_mark : (a : ℕ) → Multiple u (axis_weight u (j * v) a l i) (suc k)
        by_mark zero = rw (weight_inside u (j * v) l i 0 refl) (weight_multiple l i k j v x.odd whole)
        by_mark (suc zero) =
            record {
              times = 2 ^ suc k - j;
              exact = ap (λ (y : ℕ). y * 2 ^ suc k) (weight_lower u (j * v) l i) ∙ rw (← whole) (line j v (2 ^ suc k));
            }
        by_mark (suc (suc a)) =
            record {
              times = j;
              exact =
                  ap (λ (y : ℕ). y * 2 ^ suc k) (weight_upper u (j * v) l i a)
                  ∙ mul_assoc j v (2 ^ suc k)
                  ∙ ap (λ (y : ℕ). j * y) whole;
            }

    -- At a border point a weight is 0 or the unit.
    lower_multiple : (e : ℕ) → Multiple u (axis_weight u 0 a l i) e
    lower_multiple e = by_mark a
      where
        by_mark : (a : ℕ) → Multiple u (axis_weight u 0 a l i) e
        by_mark zero = none_multiple _ e (weight_inside u 0 l i 0 refl ∙ weight_low u l i (omega (arith, x.odd)))
        by_mark (suc zero) = whole_multiple _ e (omega (arith, weight_lower u 0 l i))
        by_mark (suc (suc a)) = none_multiple _ e (weight_upper u 0 l i a)

    upper_multiple : (e : ℕ) → Multiple u (axis_weight u u a l i) e
    upper_multiple e = by_mark a
      where
        by_mark : (a : ℕ) → Multiple u (axis_weight u u a l i) e
        by_mark zero = none_multiple _ e (weight_inside u u l i 0 refl ∙ weight_high u l i x.below)
        by_mark (suc zero) = none_multiple _ e (omega (arith, weight_lower u u l i))
        by_mark (suc (suc a)) = whole_multiple _ e (weight_upper u u l i a)

  -- ---- one axis more

  module _ (j w s l : ℕ) (few : s + l ≤ bits) (mj : Multiple u j s) (mw : Multiple u w l) where
    -- What is left after the division by the u.
    left : ℕ
    left = mj.times * mw.times * (splits (s + l) few).share

    product_is : j * w ≡ left * u
    unfolding left
    product_is =
        product_of j w (2 ^ s) (2 ^ l) mj.times mw.times (splits (s + l) few).share u
        (rw (sym (pow-add 2 s l)) (pow_pos (s + l)))
        mj.exact
        mw.exact
        (ap (λ (x : ℕ). (splits (s + l) few).share * x) (sym (pow-add 2 s l)) ∙ (splits (s + l) few).whole)

    quotient_is : j * w / u ≡ left
    quotient_is = ap (λ (x : ℕ). x / u) product_is ∙ mul-div_cancel left (omega (arith, binary, pow_pos bits))

    exact_step : j * w / u * u ≡ j * w
    exact_step = ap (λ (x : ℕ). x * u) quotient_is ∙ sym product_is

    multiple_step : Multiple u (j * w / u) (s + l)
    unfolding left
    multiple_step =
        record {
          times = mj.times * mw.times;
          exact =
              ap (λ (x : ℕ). x * 2 ^ (s + l)) quotient_is
              ∙ regroup (mj.times * mw.times) (splits (s + l) few).share (2 ^ (s + l)) u (splits (s + l) few).whole;
        }
      where
        regroup : (a v b u : ℕ) → v * b ≡ u → a * v * b ≡ a * u
        regroup a v b u e = omega (arith, ap (λ (x : ℕ). a * x) e)

  -- ---- all axes

  -- Weights that are multiples of the u over 2 to the numbers of m, whose sum is small.
  module _ (w m : ℕ → ℕ) (d : ℕ) (few : sum_to m d ≤ bits) (each : (t : ℕ) → t < d → Multiple u (w t) (m t)) where
    sums : (k : ℕ) → k < d → sum_to m k + m k ≤ bits
    sums k h = omega (arith, sum_to_mono m (suc k) d h, sum_to_suc m k)

    joint_multiple : (k : ℕ) → k ≤ d → Multiple u (joint u w k) (sum_to m k)
    joint_multiple zero h = record { times = 1; exact = rw (joint_zero u w, sum_to_zero m) (omega arith) }
    joint_multiple (suc k) h =
        rw (joint_suc u w k, sum_to_suc m k)
        (multiple_step (joint u w k) (w k) (sum_to m k) (m k) (sums k h) (joint_multiple k (omega arith)) (each k h))

    joint_product : (k : ℕ) → k ≤ d → joint u w k * u ^ k ≡ prod_to w k * u
    joint_product zero h = rw (joint_zero u w, prod_to_zero w, pow-zero u) (omega arith)
    joint_product (suc k) h =
        rw (joint_suc u w k, prod_to_suc w k, pow-suc u k)
        (regroup (joint u w k) (w k) (joint u w k * w k / u) (u ^ k) (prod_to w k) u
        (exact_step (joint u w k) (w k) (sum_to m k) (m k) (sums k h) (joint_multiple k (omega arith)) (each k h))
        (joint_product k (omega arith)))
      where
        regroup : (j w r e p u : ℕ) → r * u ≡ j * w → j * e ≡ p * u → r * (e * u) ≡ p * w * u
        regroup j w r e p u exact before = omega (arith, ap (λ (y : ℕ). y * e) exact, ap (λ (y : ℕ). y * w) before)

  -- ---- the points

  module _ {g : Numbered} {Point : (ℕ → ℕ) → (ℕ → ℕ) → (ℕ → ℕ) → Type 0} (n : Numbering g Point) (whole : WholeWeights bits g)
      (p q : ℕ) (p_in : p < g.count) (q_in : q < g.count) where
    axis_multiple : (t : ℕ) → t < g.axes → Multiple u (weight_in u g (coordinates_in u g q) p t) (deeper (g.level q) t)
    unfolding weight_in coordinates_in deeper
    axis_multiple t axis = by_mark (g.mark q t) (on_axis u n q q_in t axis).mark
      where
        by_mark : (c : ℕ) → c ≤ 2 →
            Multiple u
            (axis_weight u (axis_coordinate u c (g.level q t) (g.index q t)) (g.mark p t) (g.level p t) (g.index p t))
            (suc (g.level q t))
        by_mark zero h =
            let part = splits (suc (g.level q t)) (whole_coordinates bits g whole q t q_in axis) in
            rw (
              coordinate_inside u (g.level q t) (g.index q t) 0 refl,
              coordinate_is u (g.level q t) (g.index q t) (g.level q t) (g.index q t) part.share part.whole refl,
            )
            (inside_multiple (g.mark p t) (g.level p t) (g.index p t) (on_axis u n p p_in t axis) (g.level q t) (g.index q t) part.share
            (on_axis u n q q_in t axis).below
            part.whole)
        by_mark (suc zero) h =
            rw (coordinate_lower u (g.level q t) (g.index q t))
            (lower_multiple (g.mark p t) (g.level p t) (g.index p t) (on_axis u n p p_in t axis) (suc (g.level q t)))
        by_mark (suc (suc c)) h =
            rw (coordinate_upper u (g.level q t) (g.index q t) c)
            (upper_multiple (g.mark p t) (g.level p t) (g.index p t) (on_axis u n p p_in t axis) (suc (g.level q t)))

    pub joint_exact_in : joint_in u g (coordinates_in u g q) p * u ^ g.axes ≡ product_in u g (coordinates_in u g q) p * u
    unfolding joint_in product_in
    joint_exact_in =
        joint_product (weight_in u g (coordinates_in u g q) p) (deeper (g.level q)) g.axes
        (omega (arith, deeper_sum (g.level q) g.axes, whole q q_in))
        axis_multiple g.axes (omega arith)

-- Those of a shape, where top level and axes together are at most the bits of the unit.
module _ (s : Shape) (few : s.level + s.axes ≤ unit_bits) where
  pub shape_weights : WholeWeights unit_bits (numbered s)
  shape_weights q q_in = omega (arith, level_sum s q q_in)

  pub joint_exact : (p q : ℕ) → p < points_of s → q < points_of s →
      joint_at s (coordinates_of s q) p * unit ^ s.axes ≡ product_at s (coordinates_of s q) p * unit
  joint_exact = joint_exact_in unit unit_bits unit_is (numbering s) shape_weights
