-- One byte as a set of axes: a bit is tested by shift and mask, set by or and changed by exclusive or, and the other bits stay. True since the
-- bit of weight 2^t is the parity of the byte over 2^t.
-- Assumes nothing.
use mathlib.Core.Path.{◌≡◌, ap, sym, ◌∙◌}
use mathlib.Core.Bool.{true, false}
use Prim.Native.Nat.{ℕ, zero, suc, ◌+◌, ◌-◌, ◌*◌, ◌/◌, ◌%◌, ◌^◌, ◌≤◌, ◌<◌}
use native.Mathlib.Nat.{one-mul, zero-mul, pow-suc, add-mul-div_right, add-div_right, mod-eq_of_lt, div-eq_of_lt, sub-add_cancel, div-lt_iff_lt-mul, div-add-mod', mod-lt, mul-le-mul_right, add-mul, zero-div}
use native.Mathlib.Numerals.{one-add}
use native.Mathlib.Omega.{arith}
use lib.Bits.{bit_and, bit_or, bit_xor, and_mask, and_high, or_add_and, xor_add_and}
use lib.Dec.{eqb}
use lib.Pow.{pow_pos, pow_mono, pow-add, mod-pow-add, shr-shr, ones_split, ones_lt, high}
use borrow.Author.Tests.{eq-eqb, ne_eqb, eqb-true, eqb-false}
use Rattle.naturals.proofs.Cases.{eq_or_not, le_or_lt, true_or_false}
use Rattle.states.specs.declared.State.{State}
use Rattle.states.specs.States.{has, marked, cleared, toggled}

-- ---- the code's operations

pub test_bit : (n t : ℕ) → eqb (bit_and (n / 2 ^ t) 1) 1 ≡ has n t
unfolding has
test_bit n t = ap (λ (x : ℕ). eqb x 1) (and_mask (n / 2 ^ t) 1)

clear_bit : (n t : ℕ) → has n t ≡ false → n / 2 ^ t % 2 ≡ 0
unfolding has
clear_bit n t e = eq_or_not (n / 2 ^ t % 2) 0 (λ z. z) (λ nz. absurd (eqb-false (n / 2 ^ t % 2) 1 e (omega arith)))

set_bit : (n t : ℕ) → has n t ≡ true → n / 2 ^ t % 2 ≡ 1
unfolding has
set_bit n t e = eqb-true (n / 2 ^ t % 2) 1 e

mask_bit : (n t : ℕ) → bit_and n (2 ^ t) ≡ n / 2 ^ t % 2 * 2 ^ t
mask_bit n t =
    let e : 2 ^ (1 + t) - 2 ^ t ≡ 2 ^ t = omega (arith, pow-add 2 1 t) in
    ap (bit_and n) (sym e) ∙ and_high n 1 t

pub or_sets : (n t : ℕ) → has n t ≡ false → bit_or n (2 ^ t) ≡ n + 2 ^ t
or_sets n t e =
    omega (
      arith,
      or_add_and n (2 ^ t),
      mask_bit n t,
      ap (λ (x : ℕ). x * 2 ^ t) (clear_bit n t e),
      zero-mul (2 ^ t),
    )

xor_sets : (n t : ℕ) → has n t ≡ false → bit_xor n (2 ^ t) ≡ n + 2 ^ t
xor_sets n t e =
    omega (
      arith,
      xor_add_and n (2 ^ t),
      mask_bit n t,
      ap (λ (x : ℕ). x * 2 ^ t) (clear_bit n t e),
      zero-mul (2 ^ t),
    )

pub xor_clears : (n t : ℕ) → has n t ≡ true → bit_xor n (2 ^ t) ≡ n - 2 ^ t
xor_clears n t e =
    omega (
      arith,
      xor_add_and n (2 ^ t),
      mask_bit n t,
      ap (λ (x : ℕ). x * 2 ^ t) (set_bit n t e),
      one-mul (2 ^ t),
    )

-- What a state becomes, where its bit is clear and where it is set.
module _ (s : State) (t : ℕ) where
  pub toggled_sets : has s.forward t ≡ false → toggled s t ≡ marked s t
  unfolding toggled
  toggled_sets e = rw e

  pub toggled_clears : has s.forward t ≡ true → toggled s t ≡ cleared s t
  unfolding toggled
  toggled_clears e = rw e

  pub xor_toggles : record { shape = s.shape; forward = bit_xor s.forward (2 ^ t) } ≡ toggled s t
  xor_toggles =
      true_or_false (has s.forward t)
      (λ set. ap (λ (n : ℕ). record { shape = s.shape; forward = n }) (xor_clears s.forward t set) ∙ sym (toggled_clears set))
      (λ clear. ap (λ (n : ℕ). record { shape = s.shape; forward = n }) (xor_sets s.forward t clear) ∙ sym (toggled_sets clear))

-- A set bit is part of the byte.
pub bit_le : (n t : ℕ) → has n t ≡ true → 2 ^ t ≤ n
bit_le n t e =
    le_or_lt (2 ^ t) n (λ h. h)
    (λ lt. omega (arith, set_bit n t e, ap (λ (x : ℕ). x % 2) (div-eq_of_lt lt)))

-- ---- what the set then has

-- Setting bit t: it is set, and the others stay.
pub has_marked_same : (n t : ℕ) → has n t ≡ false → has (n + 2 ^ t) t ≡ true
unfolding has
has_marked_same n t e =
    eq-eqb ((n + 2 ^ t) / 2 ^ t % 2) 1
    (omega (arith, clear_bit n t e, ap (λ (x : ℕ). x % 2) (add-div_right n (pow_pos t))))

below_same : (n t u : ℕ) → u < t → (n + 2 ^ t) / 2 ^ u % 2 ≡ n / 2 ^ u % 2
below_same n t u h =
    let k : ℕ = t - suc u in
    let e : 2 ^ t ≡ 2 ^ suc k * 2 ^ u = ap (λ (x : ℕ). 2 ^ x) (omega arith) ∙ pow-add 2 (suc k) u in
    ap (λ (x : ℕ). x % 2) (ap (λ (x : ℕ). (n + x) / 2 ^ u) e ∙ add-mul-div_right n (2 ^ suc k) (pow_pos u))
    ∙ omega (arith, pow-suc 2 k)

above_same : (n t u : ℕ) → t < u → n / 2 ^ t % 2 ≡ 0 → (n + 2 ^ t) / 2 ^ u ≡ n / 2 ^ u
above_same n t u h e =
    let k : ℕ = u - suc t in
    let split : (x : ℕ) → x / 2 ^ u ≡ x / 2 ^ t / 2 / 2 ^ k =
    λ x.
    ap (λ (y : ℕ). x / 2 ^ y) (omega arith) ∙ sym (shr-shr x (t + 1) k) ∙ ap (λ (y : ℕ). y / 2 ^ k) (sym (shr-shr x t 1)) in
    split (n + 2 ^ t)
    ∙ ap (λ (x : ℕ). x / 2 ^ k) (omega (arith, e, add-div_right n (pow_pos t)))
    ∙ sym (split n)

pub has_marked_other : (n t u : ℕ) → has n t ≡ false → (u ≡ t → ⊥) → has (n + 2 ^ t) u ≡ has n u
unfolding has
has_marked_other n t u e ne =
    le_or_lt u t
    (λ le. ap (λ (x : ℕ). eqb x 1) (below_same n t u (omega arith)))
    (λ lt. ap (λ (x : ℕ). eqb (x % 2) 1) (above_same n t u lt (clear_bit n t e)))

-- Clearing bit t: it is clear, and the others stay.
pub has_cleared_same : (n t : ℕ) → has n t ≡ true → has (n - 2 ^ t) t ≡ false
unfolding has
has_cleared_same n t e =
    ne_eqb ((n - 2 ^ t) / 2 ^ t % 2) 1
    (λ f.
    omega (
      arith,
      set_bit n t e,
      f,
      ap (λ (x : ℕ). x / 2 ^ t) (sub-add_cancel (bit_le n t e)),
      add-div_right (n - 2 ^ t) (pow_pos t),
    ))

pub has_cleared_other : (n t u : ℕ) → has n t ≡ true → (u ≡ t → ⊥) → has (n - 2 ^ t) u ≡ has n u
has_cleared_other n t u e ne =
    sym (has_marked_other (n - 2 ^ t) t u (has_cleared_same n t e) ne) ∙ ap (λ (x : ℕ). has x u) (sub-add_cancel (bit_le n t e))

-- A byte with no bit above axis d stays so.
pub marked_small : (n t d : ℕ) → n < 2 ^ d → t < d → has n t ≡ false → n + 2 ^ t < 2 ^ d
marked_small n t d small h e =
    let k : ℕ = d - suc t in
    let top : 2 ^ d ≡ 2 ^ suc k * 2 ^ t = ap (λ (x : ℕ). 2 ^ x) (omega arith) ∙ pow-add 2 (suc k) t in
    let room : n / 2 ^ t + 2 ≤ 2 ^ suc k =
    omega (arith, clear_bit n t e, pow-suc 2 k, (div-lt_iff_lt-mul {k = 2 ^ t} {x = n} {y = 2 ^ suc k} (pow_pos t)).1 (omega arith)) in
    omega (
      arith,
      div-add-mod' n (2 ^ t),
      mod-lt n (pow_pos t),
      mul-le-mul_right (2 ^ t) room,
      add-mul (n / 2 ^ t) 2 (2 ^ t),
    )

pub cleared_small : (n t d : ℕ) → n < 2 ^ d → n - 2 ^ t < 2 ^ d
cleared_small n t d small = omega arith

-- No bit of 0 is set.
pub no_bits : (t : ℕ) → has 0 t ≡ false
unfolding has
no_bits t = ap (λ (x : ℕ). eqb (x % 2) 1) (zero-div (2 ^ t))

-- A byte with no bit below axis d, and none above, is 0.
low_bits : (n d : ℕ) → ((t : ℕ) → t < d → has n t ≡ false) → n % 2 ^ d ≡ 0
low_bits n zero none = omega arith
low_bits n (suc d) none =
    rw (← one-add d, mod-pow-add n 1 d, clear_bit n d (none d (omega arith)), low_bits n d (λ t h. none t (omega arith)), zero-mul (2 ^ d))

pub no_axis_lem : (n d : ℕ) → ((t : ℕ) → t < d → has n t ≡ false) → n < 2 ^ d → n ≡ 0
no_axis_lem n d none small = sym (mod-eq_of_lt small) ∙ low_bits n d none

-- A byte with all of the first d bits, and none from there on.
pub all_bits_in : (d t : ℕ) → t < d → has (2 ^ d - 1) t ≡ true
unfolding has
all_bits_in d t h =
    let k : ℕ = d - suc t in
    let e : 2 ^ d - 1 ≡ (2 ^ suc k - 1) * 2 ^ t + (2 ^ t - 1) = ap (λ (x : ℕ). 2 ^ x - 1) (omega arith) ∙ ones_split (suc k) t in
    eq-eqb ((2 ^ d - 1) / 2 ^ t % 2) 1
    (ap (λ (x : ℕ). x / 2 ^ t % 2) e
    ∙ ap (λ (x : ℕ). x % 2) (high (2 ^ suc k - 1) t (ones_lt t))
    ∙ omega (arith, pow-suc 2 k, pow_pos k))

pub all_bits_out : (d t : ℕ) → d ≤ t → has (2 ^ d - 1) t ≡ false
unfolding has
all_bits_out d t h =
    let small : 2 ^ d - 1 < 2 ^ t = omega (arith, pow_mono {i = d} {j = t} h, pow_pos d) in
    ap (λ (x : ℕ). eqb (x % 2) 1) (div-eq_of_lt small)
