-- Division rounded down: a number is its floor times the divisor plus the remainder, and nothing else of that form. True since the same holds of
-- natural numbers, and below zero what is left counts from the other end.
-- Assumes nothing.
use mathlib.Core.Path.{◌≡◌, refl, ap, sym, ◌∙◌}
use Prim.Native.Nat.{ℕ, suc, ◌+◌, ◌-◌, ◌*◌, ◌/◌, ◌%◌, ◌<◌}
use native.Mathlib.Nat.{suc-mul, mod-lt, div-add-mod', mul-add-div_right, div-eq_of_lt}
use native.Mathlib.Omega.{arith}
use lib.IntN.{ℤ, pos, negsuc, neg_ℤ, ◌+ℤ◌, ◌*ℤ◌, +ℤ_assoc}
use lib.Signed.{shr_z}
use borrow.Author.Tests.{lt-ltb}
use Rattle.integers.specs.Floor.{floor, remainder}
use Rattle.integers.proofs.Products.{plus_times}

pub shift_floor : (m : ℕ) (z : ℤ) → shr_z z m ≡ floor m z
unfolding floor
shift_floor m (pos n) = refl
shift_floor m (negsuc n) = refl

pub remainder_lt : (m : ℕ) (z : ℤ) → 0 < m → remainder m z < m
unfolding remainder
remainder_lt m (pos n) h = mod-lt n h
remainder_lt m (negsuc n) h = omega arith

-- b above a number that lies a below zero, with b < a.
pub still_below : (a b n : ℕ) → a ≡ suc (n + b) → neg_ℤ (pos a) +ℤ pos b ≡ negsuc n
still_below a b n e = rw e (rw (lt-ltb b (suc (n + b)) (omega arith)) (ap negsuc (omega arith)))

pub floor_remainder : (m : ℕ) (z : ℤ) → 0 < m → floor m z *ℤ pos m +ℤ pos (remainder m z) ≡ z
unfolding floor remainder
floor_remainder m (pos n) h = ap pos (div-add-mod' n m)
floor_remainder m (negsuc n) h =
    still_below (suc (n / m) * m) (m - 1 - n % m) n (omega (arith, suc-mul (n / m) m, div-add-mod' n m, mod-lt n h))

pub floor_unique : (m : ℕ) (a : ℤ) (r : ℕ) → r < m → floor m (a *ℤ pos m +ℤ pos r) ≡ a
unfolding floor
floor_unique m (pos k) r h = ap pos (omega (arith, mul-add-div_right {m = m} (omega arith) k r, div-eq_of_lt h))
floor_unique m (negsuc k) r h =
    let s : ℕ = m - 1 - r in
    ap (floor m) (still_below (suc k * m) r (k * m + s) (omega (arith, suc-mul k m)))
    ∙ ap negsuc (omega (arith, mul-add-div_right {m = m} (omega arith) k s, div-eq_of_lt {n = s} {m = m} (omega arith)))

-- What is above a multiple of the divisor, by its own quotient and remainder.
pub carried : (m : ℕ) (a : ℤ) (b : ℕ) → a *ℤ pos m +ℤ pos b ≡ (a +ℤ pos (b / m)) *ℤ pos m +ℤ pos (b % m)
carried m a b =
    ap (λ (n : ℕ). a *ℤ pos m +ℤ pos n) (sym (div-add-mod' b m))
    ∙ sym (+ℤ_assoc (a *ℤ pos m) (pos (b / m * m)) (pos (b % m)))
    ∙ ap (λ (z : ℤ). z +ℤ pos (b % m)) (sym (plus_times a (pos (b / m)) m))
