-- The hat identity on one axis, marks included: inside the hat function of a level and index has it; a border's weight is a straight line, so twice it at a point is
-- the sum at the two neighbours'; and at a border point its own weight alone is the unit and every other 0.
-- Assumes nothing.
use mathlib.Core.Path.{◌≡◌, refl, ap}
use mathlib.Core.Bool.{Bool, ◌&&◌}
use Prim.Native.Nat.{ℕ, zero, suc, ◌+◌, ◌-◌, ◌*◌, ◌%◌, ◌^◌, ◌≤◌, ◌<◌}
use native.Mathlib.Nat.{div-le_of_le-mul, mul-le-mul_right, mul-sub, mul_comm, add-mul, suc-mul, one-mul}
use native.Mathlib.Omega.{arith}
use lib.Dec.{eqb}
use borrow.Author.Tests.{eq-eqb, ne_eqb}
use Rattle.interpolation.specs.Hats.{indicator}
use Rattle.surfaces.specs.Weights.{coordinate, weight, axis_coordinate, axis_weight}
use Rattle.surfaces.proofs.Hat.{weight_le, weight_low, weight_high, weight_finer, hat_identity}

-- A mark, level and index as a point has them on an axis.
pub record OnAxis (a l i : ℕ) : Type 0 where
  pub mark : a ≤ 2
  pub odd : i % 2 ≡ 1
  pub below : i < 2 ^ suc l
  pub level : 0 < a → l ≡ 0
  pub index : 0 < a → i ≡ 1

-- Whether two are the same.
abbrev pub agree : ℕ → ℕ → ℕ → ℕ → ℕ → ℕ → Bool
agree a l i c k j = eqb a c && (eqb l k && eqb i j)

module _ (u : ℕ) where
  -- ---- the weight and the coordinate by mark

  module _ (x l i : ℕ) where
    pub weight_inside : (a : ℕ) → a ≡ 0 → axis_weight u x a l i ≡ weight u x l i
    unfolding axis_weight
    weight_inside a e = rw e

    pub weight_lower : axis_weight u x 1 l i ≡ u - x
    unfolding axis_weight
    weight_lower = refl

    pub weight_upper : (a : ℕ) → axis_weight u x (suc (suc a)) l i ≡ x
    unfolding axis_weight
    weight_upper a = refl

    -- At a coordinate of at most the unit, which only an upper border asks for, a weight is at most the unit.
    pub axis_weight_le : (a : ℕ) → (0 < a → x ≤ u) → axis_weight u x a l i ≤ u
    axis_weight_le zero few = omega (arith, weight_inside 0 refl, weight_le u x l i)
    axis_weight_le (suc zero) few = omega (arith, weight_lower)
    axis_weight_le (suc (suc a)) few = omega (arith, weight_upper a, few (omega arith))

  module _ (l i : ℕ) where
    pub coordinate_inside : (a : ℕ) → a ≡ 0 → axis_coordinate u a l i ≡ coordinate u l i
    unfolding axis_coordinate
    coordinate_inside a e = rw e

    pub coordinate_lower : axis_coordinate u 1 l i ≡ 0
    unfolding axis_coordinate
    coordinate_lower = refl

    pub coordinate_upper : (a : ℕ) → axis_coordinate u (suc (suc a)) l i ≡ u
    unfolding axis_coordinate
    coordinate_upper a = refl

  -- A coordinate is at most the unit.
  coordinate_le : (l i : ℕ) → i ≤ 2 ^ suc l → coordinate u l i ≤ u
  unfolding coordinate
  coordinate_le l i few = div-le_of_le-mul (2 ^ suc l) {m = i * u} {n = u} (mul-le-mul_right u few)

  pub axis_coordinate_le : (a l i : ℕ) → i ≤ 2 ^ suc l → axis_coordinate u a l i ≤ u
  axis_coordinate_le zero l i few = rw (coordinate_inside l i 0 refl) (coordinate_le l i few)
  axis_coordinate_le (suc zero) l i few = omega (arith, coordinate_lower l i)
  axis_coordinate_le (suc (suc a)) l i few = omega (arith, coordinate_upper l i a)

  -- ---- at a point inside, between its neighbours' coordinates

  module _ (a l i : ℕ) (x : OnAxis a l i) (k j v : ℕ) (odd : j % 2 ≡ 1) (below : j < 2 ^ suc k) (whole : v * 2 ^ suc k ≡ u) where
    room : (j + 1) * v ≤ u
    room = omega (arith, mul-le-mul_right {m = j + 1} {n = 2 ^ suc k} v (omega arith), mul_comm v (2 ^ suc k), whole)

    steps : (j - 1) * v + (j + 1) * v ≡ j * v + j * v
    steps = lines j v (omega arith)
      where
        lines : (j v : ℕ) → 1 ≤ j → (j - 1) * v + (j + 1) * v ≡ j * v + j * v
        lines zero v h = absurd (omega arith)
        lines (suc j) v h =
            let e : suc j - 1 ≡ j = omega arith in
            omega (arith, ap (λ (y : ℕ). y * v) e, add-mul (suc j) 1 v, suc-mul j v, one-mul v)

    pub hat_inside :
        axis_weight u (j * v) a l i + axis_weight u (j * v) a l i
        ≡ axis_weight u ((j - 1) * v) a l i + axis_weight u ((j + 1) * v) a l i + indicator (agree a l i 0 k j) * (u + u)
    hat_inside = by_mark a x.mark
      where
        by_mark : (a : ℕ) → a ≤ 2 →
            axis_weight u (j * v) a l i + axis_weight u (j * v) a l i
            ≡ axis_weight u ((j - 1) * v) a l i + axis_weight u ((j + 1) * v) a l i + indicator (agree a l i 0 k j) * (u + u)
        by_mark zero h =
            rw (weight_inside (j * v) l i 0 refl, weight_inside ((j - 1) * v) l i 0 refl, weight_inside ((j + 1) * v) l i 0 refl)
            (hat_identity u l i k j v x.odd odd whole)
        by_mark (suc zero) h =
            omega (arith, weight_lower (j * v) l i, weight_lower ((j - 1) * v) l i, weight_lower ((j + 1) * v) l i, room, steps)
        by_mark (suc (suc a)) h =
            rw (ne_eqb (suc (suc a)) 0 (λ e. omega arith))
            (omega (arith, weight_upper (j * v) l i a, weight_upper ((j - 1) * v) l i a, weight_upper ((j + 1) * v) l i a, steps))

  -- ---- at a border point

  module _ (a l i : ℕ) (x : OnAxis a l i) where
    pub hat_lower : axis_weight u 0 a l i + axis_weight u 0 a l i ≡ indicator (agree a l i 1 0 1) * (u + u)
    hat_lower = by_mark a x.mark x.level x.index
      where
        by_mark : (a : ℕ) → a ≤ 2 → (0 < a → l ≡ 0) → (0 < a → i ≡ 1) →
            axis_weight u 0 a l i + axis_weight u 0 a l i ≡ indicator (agree a l i 1 0 1) * (u + u)
        by_mark zero h level index = omega (arith, weight_inside 0 l i 0 refl, weight_low u l i (omega (arith, x.odd)))
        by_mark (suc zero) h level index =
            rw (eq-eqb l 0 (level (omega arith)), eq-eqb i 1 (index (omega arith))) (omega (arith, weight_lower 0 l i))
        by_mark (suc (suc a)) h level index =
            rw (ne_eqb (suc (suc a)) 1 (λ e. omega arith)) (omega (arith, weight_upper 0 l i a))

    pub hat_upper : axis_weight u u a l i + axis_weight u u a l i ≡ indicator (agree a l i 2 0 1) * (u + u)
    hat_upper = by_mark a x.mark x.level x.index
      where
        by_mark : (a : ℕ) → a ≤ 2 → (0 < a → l ≡ 0) → (0 < a → i ≡ 1) →
            axis_weight u u a l i + axis_weight u u a l i ≡ indicator (agree a l i 2 0 1) * (u + u)
        by_mark zero h level index = omega (arith, weight_inside u l i 0 refl, weight_high u l i x.below)
        by_mark (suc zero) h level index = omega (arith, weight_lower u l i)
        by_mark (suc (suc zero)) h level index =
            rw (eq-eqb l 0 (level (omega arith)), eq-eqb i 1 (index (omega arith))) (omega (arith, weight_upper u l i 0))
        by_mark (suc (suc (suc a))) h level index = absurd (omega arith)

-- ---- a finer unit

-- In a unit f times as fine, at the same place, a weight is f times as large.
pub axis_weight_finer : (u f x a l i : ℕ) → axis_weight (u * f) (x * f) a l i ≡ axis_weight u x a l i * f
unfolding axis_weight
axis_weight_finer u f x zero l i = weight_finer u f x l i
axis_weight_finer u f x (suc zero) l i = sub_times u x f
  where
    sub_times : (u x f : ℕ) → u * f - x * f ≡ (u - x) * f
    sub_times u x f = omega (arith, mul-sub f u x, mul_comm f u, mul_comm f x, mul_comm f (u - x))
axis_weight_finer u f x (suc (suc a)) l i = refl
