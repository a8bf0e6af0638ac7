-- Trailing zeros: a number is an odd number times two to the power of its trailing zeros, and every width that holds the number shows as many. True digit
-- by digit.
-- Assumes nothing.
use mathlib.Core.Path.{◌≡◌, refl, ap, ap₂, sym, ◌∙◌}
use Prim.Native.Nat.{ℕ, zero, suc, ◌*◌, ◌/◌, ◌%◌, ◌^◌, ◌<◌}
use native.Mathlib.Nat.{pow-suc, mul-one, mul_assoc, mul_comm, div-one, div-div-eq-div-mul}
use native.Mathlib.Omega.{arith}
use lib.Count.{count_trailing_zeros, under}
use Rattle.naturals.proofs.Cases.{eq_or_not}
use Rattle.numbering.specs.Parent.{twos}

zeros_even : (k m : ℕ) → m % 2 ≡ 0 → count_trailing_zeros (suc k) m ≡ suc (count_trailing_zeros k (m / 2))
unfolding count_trailing_zeros
zeros_even k m e = ap (λ (d : ℕ). under d (count_trailing_zeros k (m / 2))) e

zeros_odd : (k m : ℕ) → m % 2 ≡ 1 → count_trailing_zeros (suc k) m ≡ 0
unfolding count_trailing_zeros
zeros_odd k m e = ap (λ (d : ℕ). under d (count_trailing_zeros k (m / 2))) e

zeros_none : (m : ℕ) → count_trailing_zeros 0 m ≡ 0
unfolding count_trailing_zeros
zeros_none m = refl

-- Dividing by one power of two more is dividing the half.
div_pow_suc : (m z : ℕ) → m / 2 ^ suc z ≡ m / 2 / 2 ^ z
div_pow_suc m z = ap (λ (x : ℕ). m / x) (pow-suc 2 z ∙ mul_comm (2 ^ z) 2) ∙ sym (div-div-eq-div-mul m 2 (2 ^ z))

pub zeros_divide : (k m : ℕ) → m / 2 ^ count_trailing_zeros k m * 2 ^ count_trailing_zeros k m ≡ m
zeros_divide zero m = rw (zeros_none m) (mul-one (m / 1) ∙ div-one m)
zeros_divide (suc k) m =
    eq_or_not (m % 2) 0
    (λ e.
    let z : ℕ = count_trailing_zeros k (m / 2) in
    rw (zeros_even k m e)
    (omega (
      arith,
      ap₂ (λ (q p : ℕ). q * p) (div_pow_suc m z) (pow-suc 2 z),
      mul_assoc (m / 2 / 2 ^ z) (2 ^ z) 2,
      zeros_divide k (m / 2),
    )))
    (λ e. rw (zeros_odd k m (omega arith)) (mul-one (m / 1) ∙ div-one m))

pub zeros_left_odd : (k m : ℕ) → 0 < m → m < 2 ^ k → m / 2 ^ count_trailing_zeros k m % 2 ≡ 1
zeros_left_odd zero m pos lt = omega arith
zeros_left_odd (suc k) m pos lt =
    eq_or_not (m % 2) 0
    (λ e.
    let z : ℕ = count_trailing_zeros k (m / 2) in
    rw (zeros_even k m e)
    (ap (λ (x : ℕ). x % 2) (div_pow_suc m z)
    ∙ zeros_left_odd k (m / 2) (omega arith) (omega (arith, pow-suc 2 k))))
    (λ e. rw (zeros_odd k m (omega arith)) (omega (arith, div-one m)))

-- ---- the factors of two of a number

pub width_enough : (m : ℕ) → m < 2 ^ m
width_enough zero = omega arith
width_enough (suc m) = omega (arith, width_enough m, pow-suc 2 m)

-- Two widths that both hold the number.
zeros_same : (j k m : ℕ) → 0 < m → m < 2 ^ j → m < 2 ^ k → count_trailing_zeros j m ≡ count_trailing_zeros k m
zeros_same zero k m pos lt lt' = absurd (omega arith)
zeros_same (suc j) zero m pos lt lt' = absurd (omega arith)
zeros_same (suc j) (suc k) m pos lt lt' =
    eq_or_not (m % 2) 0
    (λ e.
    zeros_even j m e
    ∙ ap suc (zeros_same j k (m / 2) (omega arith) (omega (arith, pow-suc 2 j)) (omega (arith, pow-suc 2 k)))
    ∙ sym (zeros_even k m e))
    (λ e. zeros_odd j m (omega arith) ∙ sym (zeros_odd k m (omega arith)))

pub twos_are : (k m : ℕ) → 0 < m → m < 2 ^ k → count_trailing_zeros k m ≡ twos m
unfolding twos
twos_are k m pos lt = zeros_same k m m pos lt (width_enough m)
