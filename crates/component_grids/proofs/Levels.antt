-- Places and levels on one axis: a place of an axis of top level n, from 1 up to below 2^(n+1), is the place of exactly one level up to n and odd index below
-- 2^(level+1), namely of the place and 2^(n+1) without the factors of two that they share. True since a number is an odd number times a power of two in one way.
-- Assumes nothing.
use mathlib.Core.Path.{◌≡◌, refl, ap, sym, ◌∙◌}
use Prim.Native.Nat.{ℕ, zero, suc, ◌+◌, ◌-◌, ◌*◌, ◌%◌, ◌^◌, ◌≤◌, ◌<◌}
use native.Mathlib.Nat.{one-mul, mul-one, mul_assoc, pow-suc, mul-le-mul_right, lt_of_mul-lt-mul_right, eq_of_mul-eq-mul_right}
use native.Mathlib.Omega.{arith}
use lib.Pow.{pow_pos, pow_mono, pow-add, shl_lt}
use Rattle.naturals.proofs.Cases.{le_or_lt}
use Rattle.numbering.specs.Parent.{twos, parent_level, parent_index}
use Rattle.numbering.proofs.Twos.{zeros_divide, zeros_left_odd, width_enough}
use Rattle.component_grids.specs.Component.{place}

pub place_value : (n l i : ℕ) → place n l i ≡ i * 2 ^ (n - l)
unfolding place
place_value n l i = refl

-- Odd numbers times powers of two are equal only for the same power.
same_power : (a b i j : ℕ) → i % 2 ≡ 1 → j % 2 ≡ 1 → i * 2 ^ a ≡ j * 2 ^ b → a ≡ b
same_power zero zero i j oi oj e = refl
same_power zero (suc b) i j oi oj e =
    absurd (omega (arith, mul-one i, ap (λ (x : ℕ). j * x) (pow-suc 2 b), mul_assoc j (2 ^ b) 2))
same_power (suc a) zero i j oi oj e =
    absurd (omega (arith, mul-one j, ap (λ (x : ℕ). i * x) (pow-suc 2 a), mul_assoc i (2 ^ a) 2))
same_power (suc a) (suc b) i j oi oj e =
    ap suc
    (same_power a b i j oi oj
    (omega (
      arith,
      ap (λ (x : ℕ). i * x) (pow-suc 2 a),
      mul_assoc i (2 ^ a) 2,
      ap (λ (x : ℕ). j * x) (pow-suc 2 b),
      mul_assoc j (2 ^ b) 2,
    )))

-- ---- the level and the index of a place

pub index_odd : (x : ℕ) → 1 ≤ x → parent_index x % 2 ≡ 1
unfolding parent_index twos
index_odd x low = zeros_left_odd x x low (width_enough x)

pub index_times : (x : ℕ) → parent_index x * 2 ^ twos x ≡ x
unfolding parent_index twos
index_times x = zeros_divide x x

pub power_le : (x : ℕ) → 1 ≤ x → 2 ^ twos x ≤ x
power_le x low =
    omega (
      arith,
      index_times x,
      mul-le-mul_right {m = 1} {n = parent_index x} (2 ^ twos x) (omega (arith, index_odd x low)),
      one-mul (2 ^ twos x),
    )

pub level_is : (n x : ℕ) → parent_level n x ≡ n - twos x
unfolding parent_level
level_is n x = refl

pub level_le : (n x : ℕ) → parent_level n x ≤ n
level_le n x = omega (arith, level_is n x)

module _ (n x : ℕ) (low : 1 ≤ x) (high : x < 2 ^ suc n) where
  pub twos_le : twos x ≤ n
  twos_le =
      le_or_lt (twos x) n (λ le. le)
      (λ gt. absurd (omega (arith, pow_mono {i = suc n} {j = twos x} gt, power_le x low)))

  -- The steps of the finest level that one of its own level has.
  pub level_steps : n - parent_level n x ≡ twos x
  level_steps = omega (arith, level_is n x, twos_le)

  pub place_again : place n (parent_level n x) (parent_index x) ≡ x
  place_again =
      place_value n (parent_level n x) (parent_index x) ∙ ap (λ (k : ℕ). parent_index x * 2 ^ k) level_steps ∙ index_times x

  pub index_below : parent_index x < 2 ^ suc (parent_level n x)
  index_below = lt_of_mul-lt-mul_right (2 ^ twos x) (omega (arith, index_times x, split))
    where
      split : 2 ^ suc n ≡ 2 ^ suc (parent_level n x) * 2 ^ twos x
      split =
          ap (λ (k : ℕ). 2 ^ k) (omega (arith, level_is n x, twos_le)) ∙ pow-add 2 (suc (parent_level n x)) (twos x)

-- ---- the place of a level and an index

module _ (n l i : ℕ) (le : l ≤ n) (odd : i % 2 ≡ 1) (below : i < 2 ^ suc l) where
  pub place_least : 1 ≤ place n l i
  place_least =
      omega (
        arith,
        place_value n l i,
        pow_pos (n - l),
        mul-le-mul_right {m = 1} {n = i} (2 ^ (n - l)) (omega arith),
        one-mul (2 ^ (n - l)),
      )

  pub place_most : place n l i < 2 ^ suc n
  place_most =
      let all : suc l + (n - l) ≡ suc n = omega arith in
      omega (arith, place_value n l i, shl_lt {a = i} (suc l) (n - l) below, ap (λ (k : ℕ). 2 ^ k) all)

  pub twos_again : twos (place n l i) ≡ n - l
  twos_again =
      same_power (twos (place n l i)) (n - l) (parent_index (place n l i)) i (index_odd (place n l i) place_least) odd
      (index_times (place n l i) ∙ place_value n l i)

  pub level_again : parent_level n (place n l i) ≡ l
  level_again = omega (arith, level_is n (place n l i), twos_again)

  pub index_again : parent_index (place n l i) ≡ i
  index_again =
      eq_of_mul-eq-mul_right (2 ^ (n - l)) (pow_pos (n - l)) (parent_index (place n l i)) i
      (ap (λ (k : ℕ). parent_index (place n l i) * 2 ^ k) (sym twos_again) ∙ index_times (place n l i) ∙ place_value n l i)
