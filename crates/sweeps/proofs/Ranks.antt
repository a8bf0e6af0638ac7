-- The level list that follows another: its first point comes right after the last of the other. The lists of one sum have as many points each, so within a sum
-- the rank is one more; where a sum begins, the other is the last of the sum before. Likewise the list that starts with point 0 is the first of sum 0, and the
-- one that ends with the last point is the last of the top level.
-- Assumes nothing.
use mathlib.Core.Path.{◌≡◌, ap, ◌∙◌}
use mathlib.Core.Logic.{◌⊎◌, inl, inr}
use Prim.Native.Nat.{ℕ, zero, suc, ◌+◌, ◌*◌, ◌^◌, ◌≤◌, ◌<◌}
use native.Mathlib.Nat.{mul-suc, mul-zero, mul-le-mul_left}
use native.Mathlib.Omega.{arith}
use lib.Pow.{pow_pos}
use Rattle.naturals.proofs.Cases.{le_or_lt}
use Rattle.numbering.specs.Count.{vectors, start, points}
use Rattle.numbering.proofs.Vectors.{vectors_pos}
use Rattle.numbering.proofs.Numbering.{points_is, start_suc, start_mono}

-- A factor above 0 keeps the order, and so it tells numbers apart.
product_less : (c a b : ℕ) → a < b → c * a + c ≤ c * b
product_less c a b h = omega (arith, mul-le-mul_left {m = suc a} {n = b} c h, mul-suc c a)

same_factor : (c a b : ℕ) → 0 < c → c * a ≡ c * b → a ≡ b
same_factor c a b some e =
    le_or_lt a b
    (λ le. le_or_lt b a (λ ge. omega arith) (λ lt. absurd (omega (arith, product_less c a b lt))))
    (λ lt. absurd (omega (arith, product_less c b a lt)))

-- The number of the first point of the level list of sum s with rank r.
abbrev pub first_at : ℕ → ℕ → ℕ → ℕ
first_at d s r = start d s + 2 ^ s * r

-- It ends where the next sum starts at the latest, and there if it is the last of its sum.
pub end_le : (d s r : ℕ) → r < vectors d s → first_at d s r + 2 ^ s ≤ start d (suc s)
end_le d s r h = omega (arith, start_suc d s, product_less (2 ^ s) r (vectors d s) h)

last_of_sum : (d s r : ℕ) → first_at d s r + 2 ^ s ≡ start d (suc s) → suc r ≡ vectors d s
last_of_sum d s r e = same_factor (2 ^ s) (suc r) (vectors d s) (pow_pos s) (omega (arith, mul-suc (2 ^ s) r, start_suc d s))

vectors_some : (d s : ℕ) → 1 ≤ d → 0 < vectors d s
vectors_some zero s some = absurd (omega arith)
vectors_some (suc k) s some = vectors_pos k s

-- Each sum has points, so a larger sum starts later.
starts_apart : (d s u : ℕ) → 1 ≤ d → s < u → start d s < start d u
starts_apart d s u some h =
    omega (
      arith,
      start_mono d (suc s) u h,
      start_suc d s,
      product_less (2 ^ s) 0 (vectors d s) (vectors_some d s some),
      pow_pos s,
    )

-- A shape with an axis has points.
pub some_points : (d n : ℕ) → 1 ≤ d → 0 < points d n
some_points d n some = omega (arith, points_is d n, starts_apart d 0 (suc n) some (omega arith))

-- How the list of sum s' and rank r' follows the one of sum s and rank r.
abbrev pub Follows : ℕ → ℕ → ℕ → ℕ → ℕ → Type 0
Follows d s r s' r' = ((s' ≡ s) × (r' ≡ suc r)) ⊎ ((s' ≡ suc s) × (r' ≡ 0) × (suc r ≡ vectors d s))

module _ (d : ℕ) (some : 1 ≤ d) (s r : ℕ) (in_sum : r < vectors d s) where
  module _ (s' r' : ℕ) (in_sum' : r' < vectors d s') (e : first_at d s' r' ≡ first_at d s r + 2 ^ s) where
    not_before : s ≤ s'
    not_before =
        le_or_lt s s'
        (λ le. le)
        (λ lt. absurd (omega (arith, e, end_le d s' r' in_sum', start_mono d (suc s') s lt, pow_pos s, pow_pos s')))

    same_sum : s' ≡ s → r' ≡ suc r
    same_sum same =
        same_factor (2 ^ s) r' (suc r) (pow_pos s)
        (omega (arith, e, mul-suc (2 ^ s) r, ap (λ (u : ℕ). first_at d u r') same))

    -- A later sum: nothing lies between the two, so it starts where the sum of the other ends.
    module _ (later : s < s') where
      ends : first_at d s r + 2 ^ s ≡ start d (suc s)
      ends = omega (arith, e, end_le d s r in_sum, start_mono d (suc s) s' later)

      next_sum : s' ≡ suc s
      next_sum = le_or_lt s' (suc s) (λ le. omega arith) (λ lt. absurd (omega (arith, e, ends, starts_apart d (suc s) s' some lt)))

      first_of_sum : r' ≡ 0
      first_of_sum =
          same_factor (2 ^ s') r' 0 (pow_pos s')
          (omega (arith, e, ends, start_mono d (suc s) s' later, mul-zero (2 ^ s')))

    pub following : Follows d s r s' r'
    following =
        le_or_lt s' s
        (λ le.
        let same : s' ≡ s = omega (arith, not_before) in
        inl (same, same_sum same))
        (λ later. inr (next_sum later, first_of_sum later, last_of_sum d s r (ends later)))

  pub first_of_all : first_at d s r ≡ 0 → (s ≡ 0) × (r ≡ 0)
  first_of_all e = (
    le_or_lt s 0 (λ le. omega arith) (λ lt. absurd (omega (arith, starts_apart d 0 s some lt))),
    same_factor (2 ^ s) r 0 (pow_pos s) (omega (arith, mul-zero (2 ^ s))),
  )

  pub last_of_all : (n : ℕ) → s ≤ n → first_at d s r + 2 ^ s ≡ start d (suc n) → (s ≡ n) × (suc r ≡ vectors d s)
  last_of_all n low e =
      let top : s ≡ n
      = le_or_lt n s (λ le. omega arith) (λ lt. absurd (omega (arith, end_le d s r in_sum, starts_apart d (suc s) (suc n) some (omega arith)))) in
      (top, last_of_sum d s r (e ∙ ap (λ (u : ℕ). start d (suc u)) (omega arith)))
