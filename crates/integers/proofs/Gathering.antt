-- The values of a table gathered by `|`, each raised by 2^b modulo 2^64. Each raised value is a part of what is gathered: no larger, and divided by each power of two that divides the
-- whole. It is below 2^(b + 1) only for a signed number of so many bits, and 2^k, which divides what was added and 2^64, divides it only where it divides the value.
-- Assumes nothing.
use Rattle.std.proofs.Common.{◌≡◌, ℕ, zero, suc, ◌+◌, ◌-◌, ◌*◌, ◌/◌, ◌%◌, ◌^◌, ◌<◌, ◌≤◌, List, [], ◌∷◌, ◌++◌, length, get_or, bit_or, ℤ, pos, negsuc, nat_abs, sym, ap, ◌∙◌, arith, pow_mono, w64, SFits, of_z, div-add-mod'}
use native.Mathlib.Nat.{mul-mod_left, mul-add-mod_self_right, mul_assoc}
use lib.Bits.{or_add_and, and_le_l, and_le_r, or_mod}
use lib.Pow.{pow-add}
use Rattle.integers.specs.Half.{Within}

abbrev pub raised : ℕ → ℤ → ℕ
raised b z = (of_z w64 z + 2 ^ b) % 2 ^ 64

-- a is no larger than r, and each power of two that divides r divides it
pub record Part (a r : ℕ) : Type 0 where
  pub within : a ≤ r
  pub divided : (k : ℕ) → r % 2 ^ k ≡ 0 → a % 2 ^ k ≡ 0

-- Two numbers are together their `|` and their `&`, and `&` is no larger than either: so neither is larger than their `|`.
left_le : (a b : ℕ) → a ≤ bit_or a b
left_le a b = omega (arith, or_add_and a b, and_le_r a b)

right_le : (a b : ℕ) → b ≤ bit_or a b
right_le a b = omega (arith, or_add_and a b, and_le_l a b)

-- What 2^k leaves of the `|` is the `|` of what it leaves of each: so where that is 0, both are.
left_part : (a b : ℕ) → Part a (bit_or a b)
left_part a b =
    record {
      within = left_le a b;
      divided = λ k e. omega (arith, left_le (a % 2 ^ k) (b % 2 ^ k), sym (or_mod a b k) ∙ e);
    }

right_part : (a b : ℕ) → Part b (bit_or a b)
right_part a b =
    record {
      within = right_le a b;
      divided = λ k e. omega (arith, right_le (a % 2 ^ k) (b % 2 ^ k), sym (or_mod a b k) ∙ e);
    }

of_part : {a b r : ℕ} → Part a b → Part b r → Part a r
of_part p q = record { within = omega (arith, p.within, q.within); divided = λ k e. p.divided k (q.divided k e) }

-- Each value of a list is a number of 64 bits, and raised it is a part of r.
abbrev pub Gathered : ℕ → List ℤ → ℕ → Type 0
Gathered b xs r = (p : ℕ) → p < length xs → SFits w64 (get_or xs p (pos 0)) × Part (raised b (get_or xs p (pos 0))) r

-- One value more.
pub gathered_more : (b : ℕ) (xs : List ℤ) (r : ℕ) (z : ℤ) → SFits w64 z → Gathered b xs r → Gathered b (xs ++ z ∷ []) (bit_or r (raised b z))
gathered_more b [] r z fits each zero h = (fits, right_part r (raised b z))
gathered_more b [] r z fits each (suc p) h = absurd (omega arith)
gathered_more b (x ∷ xs) r z fits each zero h = let first = each 0 (omega arith) in (first.0, of_part first.1 (left_part r (raised b z)))
gathered_more b (x ∷ xs) r z fits each (suc p) h = gathered_more b xs r z fits (λ q lt. each (suc q) (omega arith)) p (omega arith)

module _ (b : ℕ) (small : b < 63) where
  top : 2 ^ b ≤ 2 ^ 62
  top = pow_mono {i = b} {j = 62} (omega arith)

  twice : 2 ^ (b + 1) ≡ 2 ^ b + 2 ^ b
  twice = omega (arith, pow-add 2 b 1)

  pub raised_within : (z : ℤ) → SFits w64 z → raised b z < 2 ^ (b + 1) → Within b z
  raised_within (pos n) fits h = let few : n < 2 ^ 63 = fits.sfits in omega (arith, top, twice)
  raised_within (negsuc n) fits h = let few : n < 2 ^ 63 = fits.sfits in omega (arith, top, twice)

  module _ (k : ℕ) (le : k ≤ b) where
    -- 2^k divides what is added, and 2^64
    added : 2 ^ b ≡ 2 ^ (b - k) * 2 ^ k
    added = let e : b ≡ b - k + k = omega arith in ap (λ (n : ℕ). 2 ^ n) e ∙ pow-add 2 (b - k) k

    whole : 2 ^ 64 ≡ 2 ^ (64 - k) * 2 ^ k
    whole = let e : 64 ≡ 64 - k + k = omega arith in ap (λ (n : ℕ). 2 ^ n) e ∙ pow-add 2 (64 - k) k

    left_off : (n q : ℕ) → (q * 2 ^ k + n) % 2 ^ k ≡ n % 2 ^ k
    left_off n q = mul-add-mod_self_right q (2 ^ k) n

    -- what 2^k leaves of a raised number is what it leaves of the number
    raised_off : (n : ℕ) → (n + 2 ^ b) % 2 ^ 64 % 2 ^ k ≡ n % 2 ^ k
    raised_off n =
        let m : ℕ = n + 2 ^ b in
        let q : ℕ = m / 2 ^ 64 in
        let rows : q * 2 ^ (64 - k) * 2 ^ k + m % 2 ^ 64 ≡ 2 ^ (b - k) * 2 ^ k + n =
        omega (arith, div-add-mod' m (2 ^ 64), added, mul_assoc q (2 ^ (64 - k)) (2 ^ k), ap (λ (x : ℕ). q * x) whole) in
        sym (left_off (m % 2 ^ 64) (q * 2 ^ (64 - k)))
        ∙ ap (λ (x : ℕ). x % 2 ^ k) rows
        ∙ left_off n (2 ^ (b - k))

    pub raised_divided : (z : ℤ) → SFits w64 z → raised b z % 2 ^ k ≡ 0 → nat_abs z % 2 ^ k ≡ 0
    raised_divided (pos n) fits e = sym (raised_off n) ∙ e
    raised_divided (negsuc n) fits e =
        let few : n < 2 ^ 63 = fits.sfits in
        let r : ℕ = 2 ^ 64 - suc n in
        let rows : r / 2 ^ k * 2 ^ k + suc n ≡ 2 ^ (64 - k) * 2 ^ k = omega (arith, div-add-mod' r (2 ^ k), whole, sym (raised_off r) ∙ e) in
        sym (left_off (suc n) (r / 2 ^ k)) ∙ ap (λ (x : ℕ). x % 2 ^ k) rows ∙ mul-mod_left (2 ^ (64 - k)) (2 ^ k)
