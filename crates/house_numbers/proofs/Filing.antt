-- Rates and their filed numbers: each is the other's inverse, and the rate of each number that can be filed is a rate, so that no file is refused with 4.
-- True since even numbers are the rates from 0 up and odd ones those below.
-- Assumes nothing.
use mathlib.Core.Path.{◌≡◌, refl, ap, ◌∙◌}
use mathlib.Core.Bool.{true}
use Prim.Native.Nat.{ℕ, zero, suc, ◌+◌, ◌*◌, ◌/◌, ◌%◌, ◌≤◌}
use native.Mathlib.Omega.{arith}
use lib.IntN.{ℤ, pos, negsuc, ◌-ℤ◌}
use borrow.Author.Tests.{eq-eqb, ne_eqb, le-leb}
use Rattle.naturals.proofs.Cases.{eq_or_not}
use Rattle.integers.specs.Half.{is_rate}
use Rattle.house_numbers.specs.Numbers.{largest, filed, rate_of}

pub rate_even : (u : ℕ) → u % 2 ≡ 0 → rate_of u ≡ pos (u / 2)
unfolding rate_of
rate_even u e = rw (eq-eqb (u % 2) 0 e)

pub rate_odd : (u : ℕ) → (u % 2 ≡ 0 → ⊥) → rate_of u ≡ negsuc (u / 2)
unfolding rate_of
rate_odd u e = rw (ne_eqb (u % 2) 0 e)

pub rate_of_filed : (r : ℤ) → rate_of (filed r) ≡ r
unfolding filed
rate_of_filed (pos n) = rate_even (2 * n) (omega arith) ∙ ap pos (omega arith)
rate_of_filed (negsuc n) = rate_odd (2 * n + 1) (omega arith) ∙ ap negsuc (omega arith)

pub filed_of_rate : (u : ℕ) → filed (rate_of u) ≡ u
unfolding filed
filed_of_rate u =
    eq_or_not (u % 2) 0
    (λ even. rw (rate_even u even) (omega arith))
    (λ odd. rw (rate_odd u odd) (omega arith))

pub rate_filed : (u : ℕ) → u ≤ largest → is_rate (rate_of u) ≡ true
unfolding largest is_rate
rate_filed u h =
    eq_or_not (u % 2) 0
    (λ even. rw (rate_even u even) (le-leb (u / 2) 2147483647 (omega arith)))
    (λ odd. rw (rate_odd u odd) (le-leb (suc (u / 2)) 2147483648 (omega arith)))

-- One below the negative of a number, as the code has it.
pub one_below : (n : ℕ) → negsuc 0 -ℤ pos n ≡ negsuc n
one_below zero = refl
one_below (suc n) = ap negsuc (omega arith)
