-- The hat identity on one axis: twice the weight at a point's coordinate is the sum of the weights at its two neighbours', and twice the unit more
-- where the weight is the point's own. Weights and coordinates are multiples of one share of the unit; counted in these a weight is a tent whose
-- kinks are even where the point's numerator is odd.
-- Assumes nothing.
use mathlib.Core.Path.{◌≡◌, refl, ap, sym, ◌∙◌}
use mathlib.Core.Bool.{◌&&◌}
use Prim.Native.Nat.{ℕ, zero, suc, ◌+◌, ◌-◌, ◌*◌, ◌%◌, ◌^◌, ◌≤◌, ◌<◌}
use native.Mathlib.Nat.{mul-sub, mul-one, mul-zero, mul_assoc, mul_comm, pow-suc}
use native.Mathlib.Omega.{arith}
use lib.Dec.{eqb}
use lib.Pow.{pow-add}
use borrow.Author.Tests.{eq-eqb, ne_eqb}
use Rattle.naturals.proofs.Cases.{le_or_lt, eq_or_not}
use Rattle.interpolation.specs.Hats.{indicator}
use Rattle.surfaces.specs.Weights.{distance, weight}

-- A weight counted in shares, h of which are the unit: a tent of height h over c.
pub tent : ℕ → ℕ → ℕ → ℕ
tent h c y = h - distance y c

tent_is : (h c y : ℕ) → tent h c y ≡ h - ((y - c) + (c - y))
unfolding tent distance
tent_is h c y = refl

tent_scale : (s h c y : ℕ) → s * h - ((s * y - s * c) + (s * c - s * y)) ≡ s * tent h c y
tent_scale s h c y =
    rw tent_is
    (omega (arith, mul-sub s y c, mul-sub s c y, mul-sub s h ((y - c) + (c - y))))

outside : (s a : ℕ) → a ≡ 0 → s * a ≡ 0
outside s a e = ap (λ (x : ℕ). s * x) e ∙ mul-zero s

-- ---- tents

tent_right : (h c y : ℕ) → c ≤ y → tent h c y ≡ h + c - y
tent_right h c y le = omega (arith, tent_is h c y)

tent_left : (h c y : ℕ) → y ≤ c → tent h c y ≡ h + y - c
tent_left h c y le = omega (arith, tent_is h c y)

-- Even height and centre: straight between the even neighbours of an odd place.
tent_straight : (h c y : ℕ) → h % 2 ≡ 0 → c % 2 ≡ 0 → y % 2 ≡ 1 → tent h c y + tent h c y ≡ tent h c (y - 1) + tent h c (y + 1)
tent_straight h c y even_h even_c odd =
    le_or_lt c y
    (λ le.
    omega (arith, tent_right h c y le, tent_right h c (y - 1) (omega arith), tent_right h c (y + 1) (omega arith)))
    (λ lt.
    omega (arith, tent_left h c y (omega arith), tent_left h c (y - 1) (omega arith), tent_left h c (y + 1) (omega arith)))

-- Height 1: 1 at the centre and 0 elsewhere.
tent_top : (c y : ℕ) → c ≡ y → tent 1 c y ≡ 1
tent_top c y e = omega (arith, tent_is 1 c y)

tent_off : (c y : ℕ) → (c ≡ y → ⊥) → tent 1 c y ≡ 0
tent_off c y ne = omega (arith, tent_is 1 c y)

-- A power of two with one factor at least is even, and so are its multiples.
multiple_even : (m k : ℕ) → 0 < k → m * 2 ^ k % 2 ≡ 0
multiple_even m (suc k) some = omega (arith, ap (λ (x : ℕ). m * x) (pow-suc 2 k))
multiple_even m zero some = absurd (omega arith)

-- A power of two as two.
pow_parts : (a b : ℕ) → a ≤ b → 2 ^ suc b ≡ 2 ^ suc a * 2 ^ (b - a)
pow_parts a b le = let e : suc b ≡ suc a + (b - a) = omega arith in ap (λ (k : ℕ). 2 ^ k) e ∙ pow-add 2 (suc a) (b - a)

-- Twice the middle is the sum of both ends and j more, all of them counted in shares.
shares_sum : (s a b c j u x y z : ℕ) → x ≡ s * a → y ≡ s * b → z ≡ s * c → s * j ≡ u → a + a ≡ b + c + j → x + x ≡ y + z + u
shares_sum s a b c j u x y z ea eb ec ej e = omega (arith, ap (λ (w : ℕ). s * w) e)

-- ---- weights in a unit

pub weight_is : (u x l i : ℕ) → weight u x l i ≡ u - distance (x * 2 ^ suc l) (i * u)
unfolding weight
weight_is u x l i = refl

pub weight_le : (u x l i : ℕ) → weight u x l i ≤ u
weight_le u x l i = omega (arith, weight_is u x l i)

module _ (unit : ℕ) where
  -- Where s * h is the unit and x * 2^(l+1) is s * y, the weight is s times a tent.
  weight_scaled : (x l i s h y : ℕ) → s * h ≡ unit → x * 2 ^ suc l ≡ s * y → weight unit x l i ≡ s * tent h (i * h) y
  unfolding weight distance
  weight_scaled x l i s h y whole at =
      rw at (rw (centre, ← whole) (tent_scale s h (i * h) y))
    where
      centre : i * unit ≡ s * (i * h)
      centre = omega (arith, ap (λ (z : ℕ). i * z) whole)

  -- The weight is 0 at the borders, 0 and the unit.
  pub weight_low : (l i : ℕ) → 0 < i → weight unit 0 l i ≡ 0
  weight_low l i some =
      weight_scaled 0 l i unit 1 0 (mul-one unit) (omega arith)
      ∙ outside unit (tent 1 (i * 1) 0) (omega (arith, tent_is 1 (i * 1) 0))

  pub weight_high : (l i : ℕ) → i < 2 ^ suc l → weight unit unit l i ≡ 0
  weight_high l i below =
      weight_scaled unit l i unit 1 (2 ^ suc l) (mul-one unit) refl
      ∙ outside unit (tent 1 (i * 1) (2 ^ suc l)) (omega (arith, tent_is 1 (i * 1) (2 ^ suc l)))

  -- ---- the weight of a point of level lp and index ip at m shares of level lq

  -- No deeper than lq: a tent.
  pub share_above : (lp lq v : ℕ) → v * 2 ^ suc lq ≡ unit → lp ≤ lq → v * 2 ^ suc lp * 2 ^ (lq - lp) ≡ unit
  share_above lp lq v whole le = mul_assoc v (2 ^ suc lp) (2 ^ (lq - lp)) ∙ ap (λ (x : ℕ). v * x) (sym (pow_parts lp lq le)) ∙ whole

  pub weight_above : (lp ip m v h : ℕ) → v * 2 ^ suc lp * h ≡ unit → weight unit (m * v) lp ip ≡ v * 2 ^ suc lp * tent h (ip * h) m
  weight_above lp ip m v h high =
      let regroup : m * v * 2 ^ suc lp ≡ v * 2 ^ suc lp * m = omega arith in
      weight_scaled (m * v) lp ip (v * 2 ^ suc lp) h m high regroup

  -- Deeper than lq: 0.
  pub weight_below : (lp ip lq m v : ℕ) → v * 2 ^ suc lq ≡ unit → lq < lp → ip % 2 ≡ 1 → weight unit (m * v) lp ip ≡ 0
  weight_below lp ip lq m v whole lt odd =
      weight_scaled (m * v) lp ip unit 1 (m * 2 ^ (lp - lq)) (mul-one unit) shares
      ∙ outside unit (tent 1 (ip * 1) (m * 2 ^ (lp - lq)))
      (tent_off (ip * 1) (m * 2 ^ (lp - lq)) (λ e. omega (arith, multiple_even m (lp - lq) (omega arith))))
    where
      regroup : (a b p u : ℕ) → v * a ≡ u → p ≡ a * b → m * v * p ≡ u * (m * b)
      regroup a b p u e f = omega (arith, ap (λ (x : ℕ). m * b * x) e, ap (λ (x : ℕ). m * v * x) f)

      shares : m * v * 2 ^ suc lp ≡ unit * (m * 2 ^ (lp - lq))
      shares = regroup (2 ^ suc lq) (2 ^ (lp - lq)) (2 ^ suc lp) unit whole (pow_parts lq lp (omega arith))

  -- ---- the hat identity

  module _ (lp ip lq iq v : ℕ) (odd_p : ip % 2 ≡ 1) (odd_q : iq % 2 ≡ 1) (whole : v * 2 ^ suc lq ≡ unit) where
    -- That u more are there.
    abbrev Hat : ℕ → Type 0
    Hat u = weight unit (iq * v) lp ip + weight unit (iq * v) lp ip ≡ weight unit ((iq - 1) * v) lp ip + weight unit ((iq + 1) * v) lp ip + u

    hat_below : lq < lp → Hat 0
    hat_below lt =
        omega (
          arith,
          weight_below lp ip lq iq v whole lt odd_p,
          weight_below lp ip lq (iq - 1) v whole lt odd_p,
          weight_below lp ip lq (iq + 1) v whole lt odd_p,
        )

    from_tents : (h j u : ℕ) → v * 2 ^ suc lp * h ≡ unit → v * 2 ^ suc lp * j ≡ u →
        tent h (ip * h) iq + tent h (ip * h) iq ≡ tent h (ip * h) (iq - 1) + tent h (ip * h) (iq + 1) + j → Hat u
    from_tents h j u high ej =
        shares_sum (v * 2 ^ suc lp) _ _ _ j u _ _ _
        (weight_above lp ip iq v h high)
        (weight_above lp ip (iq - 1) v h high)
        (weight_above lp ip (iq + 1) v h high)
        ej

    hat_above : lp < lq → Hat 0
    hat_above lt =
        let h : ℕ = 2 ^ (lq - lp) in
        from_tents h 0 0 (share_above lp lq v whole (omega arith)) (mul-zero (v * 2 ^ suc lp))
        (omega (
          arith,
          tent_straight h (ip * h) iq
              (omega (arith, multiple_even 1 (lq - lp) (omega arith)))
              (multiple_even ip (lq - lp) (omega arith))
              odd_q,
        ))

    share_level : lp ≡ lq → v * 2 ^ suc lp ≡ unit
    share_level el = ap (λ (l : ℕ). v * 2 ^ suc l) el ∙ whole

    hat_same : lp ≡ lq → ip ≡ iq → Hat (unit + unit)
    hat_same el ei =
        from_tents 1 2 (unit + unit)
        (omega (arith, share_level el))
        (omega (arith, share_level el))
        (omega (
          arith,
          tent_top (ip * 1) iq (omega arith),
          tent_off (ip * 1) (iq - 1) (λ e. omega arith),
          tent_off (ip * 1) (iq + 1) (λ e. omega arith),
        ))

    hat_other : lp ≡ lq → (ip ≡ iq → ⊥) → Hat 0
    hat_other el ne =
        from_tents 1 0 0
        (omega (arith, share_level el))
        (mul-zero (v * 2 ^ suc lp))
        (omega (
          arith,
          tent_off (ip * 1) iq (λ e. ne (omega arith)),
          tent_off (ip * 1) (iq - 1) (λ e. omega arith),
          tent_off (ip * 1) (iq + 1) (λ e. omega arith),
        ))

    pub hat_identity :
        weight unit (iq * v) lp ip + weight unit (iq * v) lp ip
        ≡ weight unit ((iq - 1) * v) lp ip + weight unit ((iq + 1) * v) lp ip + indicator (eqb lp lq && eqb ip iq) * (unit + unit)
    hat_identity =
        eq_or_not lp lq
        (λ el.
        rw (eq-eqb lp lq el)
        (eq_or_not ip iq
        (λ ei. rw (eq-eqb ip iq ei) (omega (arith, hat_same el ei)))
        (λ ne. rw (ne_eqb ip iq ne) (omega (arith, hat_other el ne)))))
        (λ nl.
        rw (ne_eqb lp lq nl)
        (le_or_lt lp lq
        (λ le. omega (arith, hat_above (omega arith)))
        (λ lt. omega (arith, hat_below lt))))

-- ---- a finer unit

-- In a unit f times as fine, at the same place, a weight is f times as large.
pub weight_finer : (u f x l i : ℕ) → weight (u * f) (x * f) l i ≡ weight u x l i * f
unfolding weight tent
weight_finer u f x l i =
    weight_scaled (u * f) (x * f) l i f u (x * 2 ^ suc l) (mul_comm f u) (omega arith) ∙ mul_comm f (tent u (i * u) (x * 2 ^ suc l))
