-- Laws of a whole number times a natural one, by cases on the sign.
-- Assumes nothing.
use mathlib.Core.Path.{◌≡◌, refl, ap, ap₂, sym, ◌∙◌}
use Prim.Native.Nat.{ℕ, zero, suc, ◌+◌, ◌*◌, ◌<◌}
use native.Mathlib.Nat.{mul-add, mul_assoc, mul_comm, mul-one, zero-mul, eq_of_mul-eq-mul_right}
use native.Mathlib.Omega.{arith}
use Rattle.std.proofs.lemmas.Int.{ints}
use lib.IntN.{ℤ, pos, negsuc, neg_ℤ, nat_abs, ◌+ℤ◌, ◌-ℤ◌, ◌*ℤ◌, neg_ℤ-+ℤ, neg_ℤ-neg_ℤ, *ℤ-zero, +ℤ_invr}

pub times_plus : (z : ℤ) (a b : ℕ) → z *ℤ pos (a + b) ≡ z *ℤ pos a +ℤ z *ℤ pos b
times_plus (pos n) a b = ap pos (mul-add n a b)
times_plus (negsuc n) a b =
    ap (λ (x : ℕ). neg_ℤ (pos x)) (mul-add (suc n) a b) ∙ neg_ℤ-+ℤ (pos (suc n * a)) (pos (suc n * b))

pub times_one : (z : ℤ) → z *ℤ pos 1 ≡ z
times_one (pos n) = ap pos (mul-one n)
times_one (negsuc n) = ap (λ (x : ℕ). neg_ℤ (pos x)) (mul-one (suc n))

times_suc : (z : ℤ) (n : ℕ) → z *ℤ pos (suc n) ≡ z *ℤ pos n +ℤ z
times_suc z n =
    ap (λ (x : ℕ). z *ℤ pos x) (omega arith) ∙ times_plus z n 1 ∙ ap (λ (x : ℤ). z *ℤ pos n +ℤ x) (times_one z)

pub neg_times : (z : ℤ) (n : ℕ) → neg_ℤ z *ℤ pos n ≡ neg_ℤ (z *ℤ pos n)
neg_times (pos zero) n = rw zero-mul
neg_times (pos (suc m)) n = refl
neg_times (negsuc m) n = sym (neg_ℤ-neg_ℤ (pos (suc m * n)))

pub times_times : (z : ℤ) (a b : ℕ) → z *ℤ pos (a * b) ≡ z *ℤ pos a *ℤ pos b
times_times (pos n) a b = ap pos (sym (mul_assoc n a b))
times_times (negsuc n) a b =
    ap (λ (x : ℕ). neg_ℤ (pos x)) (sym (mul_assoc (suc n) a b)) ∙ sym (neg_times (pos (suc n * a)) b)

-- Two factors may change places.
pub times_swap : (z : ℤ) (a b : ℕ) → z *ℤ pos a *ℤ pos b ≡ z *ℤ pos b *ℤ pos a
times_swap z a b = sym (times_times z a b) ∙ ap (λ (x : ℕ). z *ℤ pos x) (mul_comm a b) ∙ times_times z b a

pub plus_times : (x y : ℤ) (n : ℕ) → (x +ℤ y) *ℤ pos n ≡ x *ℤ pos n +ℤ y *ℤ pos n
plus_times x y zero = rw (*ℤ-zero (x +ℤ y), *ℤ-zero x, *ℤ-zero y)
plus_times x y (suc n) =
    times_suc (x +ℤ y) n
    ∙ ap (λ (v : ℤ). v +ℤ (x +ℤ y)) (plus_times x y n)
    ∙ omega (arith, ints, times_suc x n, times_suc y n)

pub size_neg : (k : ℕ) → nat_abs (neg_ℤ (pos k)) ≡ k
size_neg zero = refl
size_neg (suc k) = refl

pub size_negated : (z : ℤ) → nat_abs (neg_ℤ z) ≡ nat_abs z
size_negated (pos k) = size_neg k
size_negated (negsuc k) = refl

pub size_times : (z : ℤ) (n : ℕ) → nat_abs (z *ℤ pos n) ≡ nat_abs z * n
size_times (pos m) n = refl
size_times (negsuc m) n = size_neg (suc m * n)

-- Numbers with no difference are the same.
pub no_difference : (x y : ℤ) → nat_abs (x -ℤ y) ≡ 0 → x ≡ y
no_difference x y e = omega (arith, ints)

-- A factor above 0 cancels.
pub times_cancel : (x y : ℤ) (n : ℕ) → 0 < n → x *ℤ pos n ≡ y *ℤ pos n → x ≡ y
times_cancel x y n h e =
    let zero_times : (x -ℤ y) *ℤ pos n ≡ pos 0 =
    plus_times x (neg_ℤ y) n
    ∙ ap₂ ◌+ℤ◌ e (neg_times y n)
    ∙ +ℤ_invr (y *ℤ pos n) in
    no_difference x y
    (eq_of_mul-eq-mul_right n h (nat_abs (x -ℤ y)) 0
    (sym (size_times (x -ℤ y) n) ∙ ap nat_abs zero_times ∙ sym (zero-mul n)))
