-- How far a point reaches on an axis: two to the number of twos in its place. A multiple of 2^k reaches 2^k or further; a place between two multiples of 2^k that
-- follow each other reaches no further than these. True since a place is an odd number times its reach.
-- Assumes nothing.
use mathlib.Core.Path.{◌≡◌, refl, ap, sym, ◌∙◌}
use Prim.Native.Nat.{ℕ, zero, suc, ◌+◌, ◌-◌, ◌*◌, ◌%◌, ◌^◌, ◌≤◌, ◌<◌}
use native.Mathlib.Nat.{eq_of_mul-eq-mul_right, mul_assoc, add-mul, one-mul, mul-le-mul_right, lt_of_mul-lt-mul_right, pow-suc}
use native.Mathlib.Omega.{arith}
use lib.Pow.{pow-add, pow_mono, pow_pos}
use Rattle.naturals.proofs.Cases.{le_or_lt}
use Rattle.numbering.specs.Parent.{twos, parent_index}
use Rattle.component_grids.proofs.Levels.{index_odd, index_times}
use Rattle.component_grids.proofs.Beside.{reach}

-- A larger power of two as a multiple of a smaller one.
pub power_parts : (a b : ℕ) → a ≤ b → 2 ^ b ≡ 2 ^ (b - a) * 2 ^ a
power_parts a b h = let e : b ≡ (b - a) + a = omega arith in ap (λ (x : ℕ). 2 ^ x) e ∙ pow-add 2 (b - a) a

even_power : (k m : ℕ) → 0 < k → m * 2 ^ k % 2 ≡ 0
even_power zero m some = elim some [ ]
even_power (suc k) m some = omega (arith, ap (λ (x : ℕ). m * x) (pow-suc 2 k))

module _ (k e x : ℕ) (some : 1 ≤ x) where
  -- A multiple of 2^k.
  pub reach_multiple : x ≡ e * 2 ^ k → 2 ^ k ≤ reach x
  reach_multiple multiple =
      le_or_lt k (twos x)
      (λ le. pow_mono {i = k} {j = twos x} le)
      (λ lt.
      let parts = power_parts (twos x) k (omega arith) in
      let whole : parent_index x * 2 ^ twos x ≡ e * 2 ^ (k - twos x) * 2 ^ twos x =
      index_times x ∙ multiple ∙ ap (λ (y : ℕ). e * y) parts ∙ sym (mul_assoc e (2 ^ (k - twos x)) (2 ^ twos x)) in
      let index : parent_index x ≡ e * 2 ^ (k - twos x) = eq_of_mul-eq-mul_right (2 ^ twos x) (pow_pos (twos x)) (parent_index x) (e * 2 ^ (k - twos x)) whole in
      absurd (omega (arith, index_odd x some, even_power (k - twos x) e (omega arith))))

  -- Between two multiples of 2^k.
  pub record Between : Type 0 where
    pub below : e * 2 ^ k ≤ x - reach x
    pub above : x + reach x ≤ e * 2 ^ k + 2 ^ k

  pub reach_between : e * 2 ^ k < x → x < e * 2 ^ k + 2 ^ k → Between
  reach_between low high =
      le_or_lt k (twos x)
      (λ le.
      let parts = power_parts k (twos x) le in
      let whole : parent_index x * 2 ^ (twos x - k) * 2 ^ k ≡ x =
      mul_assoc (parent_index x) (2 ^ (twos x - k)) (2 ^ k) ∙ ap (λ (y : ℕ). parent_index x * y) (sym parts) ∙ index_times x in
      let m : ℕ = parent_index x * 2 ^ (twos x - k) in
      absurd (no_multiple m whole))
      (λ lt.
      let b : ℕ = 2 ^ twos x in
      let n : ℕ = 2 ^ (k - twos x) in
      let parts : 2 ^ k ≡ n * b = power_parts (twos x) k (omega arith) in
      within (e * n) n b (parent_index x) (index_times x)
      (mul_assoc e n b ∙ ap (λ (y : ℕ). e * y) (sym parts))
      (sym parts) refl)
    where
      no_multiple : (m : ℕ) → m * 2 ^ k ≡ x → ⊥
      no_multiple m whole =
          le_or_lt m e
          (λ le. omega (arith, mul-le-mul_right {m = m} {n = e} (2 ^ k) le))
          (λ lt. omega (arith, mul-le-mul_right {m = suc e} {n = m} (2 ^ k) lt, add-mul e 1 (2 ^ k), one-mul (2 ^ k)))

      within : (f n b o : ℕ) → o * b ≡ x → f * b ≡ e * 2 ^ k → n * b ≡ 2 ^ k → reach x ≡ b → Between
      within f n b o ex ef en er =
          let least : f < o = lt_of_mul-lt-mul_right b (omega arith) in
          let most : o < f + n = lt_of_mul-lt-mul_right b (omega (arith, add-mul f n b)) in
          record {
            below = omega (arith, mul-le-mul_right {m = suc f} {n = o} b least, add-mul f 1 b, one-mul b);
            above = omega (arith, mul-le-mul_right {m = suc o} {n = f + n} b most, add-mul o 1 b, add-mul f n b, one-mul b);
          }
