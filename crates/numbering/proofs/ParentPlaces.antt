-- Where a parent stands among the points of its level vector: the digits of the position on the other axes stay, those past the axis only shifted, since
-- the parent has another level and index on that axis alone. So the number of a parent needs the first number of its level vector, and no search.
-- Assumes nothing.
use mathlib.Core.Path.{◌≡◌, refl, ap, ap₂, sym, ◌∙◌}
use Prim.Native.Nat.{ℕ, zero, suc, ◌+◌, ◌-◌, ◌*◌, ◌/◌, ◌^◌, ◌<◌}
use native.Mathlib.Nat.{add-zero, add-suc, mul_assoc, add-mul}
use native.Mathlib.Omega.{arith}
use lib.Pow.{high}
use Rattle.naturals.specs.Sum.{sum_to}
use Rattle.naturals.proofs.Sums.{sum_to_zero, sum_to_suc, sum_to_cong}
use Rattle.numbering.specs.Point.{IsPoint}
use Rattle.numbering.specs.Number.{position}
use Rattle.numbering.specs.Parent.{update}
use Rattle.numbering.proofs.Position.{half, position_suc, position_lt, position_cong, pow_split}
use Rattle.numbering.proofs.Parents.{update_same, update_other, update_sum}

-- What axis t + 1 + u adds to the position, counted in 2^(sum of the levels up to axis t).
unfoldable pub shifted : (ℕ → ℕ) → (ℕ → ℕ) → ℕ → ℕ → ℕ
shifted l i t u = half i (suc t + u) * 2 ^ (sum_to l (suc t + u) - sum_to l (suc t))

shifted_is : (l i : ℕ → ℕ) (t u : ℕ) → shifted l i t u ≡ half i (suc t + u) * 2 ^ (sum_to l (suc t + u) - sum_to l (suc t))
unfolding shifted
shifted_is l i t u = refl

position_past : (l i : ℕ → ℕ) (t j : ℕ) →
    position l i (suc t + j) ≡ position l i (suc t) + sum_to (shifted l i t) j * 2 ^ sum_to l (suc t)
position_past l i t zero =
    omega (arith, ap (position l i) (add-zero (suc t)), ap (λ (x : ℕ). x * 2 ^ sum_to l (suc t)) (sum_to_zero (shifted l i t)))
position_past l i t (suc j) =
    omega (
      arith,
      ap (position l i) (add-suc (suc t) j),
      position_suc l i (suc t + j),
      position_past l i t j,
      ap (λ (x : ℕ). x * 2 ^ sum_to l (suc t)) (sum_to_suc (shifted l i t) j),
      add-mul (sum_to (shifted l i t) j) (shifted l i t j) (2 ^ sum_to l (suc t)),
      ap (λ (x : ℕ). x * 2 ^ sum_to l (suc t)) (shifted_is l i t j),
      mul_assoc (half i (suc t + j)) (2 ^ (sum_to l (suc t + j) - sum_to l (suc t))) (2 ^ sum_to l (suc t)),
      ap (λ (x : ℕ). half i (suc t + j) * x) (pow_split l (suc t) (suc t + j) (omega arith)),
    )

module _ (l i : ℕ → ℕ) (t k x : ℕ) where
  -- Other levels and indices on axis t.
  sums_past : (u : ℕ) → sum_to (update l t k) (suc t + u) - sum_to (update l t k) (suc t) ≡ sum_to l (suc t + u) - sum_to l (suc t)
  sums_past u =
      omega (arith, update_sum l t k (suc t + u) (omega arith), update_sum l t k (suc t) (omega arith))

  same_past : (u : ℕ) → shifted (update l t k) (update i t x) t u ≡ shifted l i t u
  same_past u =
      shifted_is (update l t k) (update i t x) t u
      ∙ ap₂ (λ (a b : ℕ). (a - 1) / 2 * 2 ^ b) (update_other i t x (suc t + u) (λ e. omega arith)) (sums_past u)
      ∙ sym (shifted_is l i t u)

  sum_before : sum_to (update l t k) t ≡ sum_to l t
  sum_before = sum_to_cong (update l t k) l t (λ u h. update_other l t k u (λ e. omega arith))

  sum_through : sum_to (update l t k) (suc t) ≡ sum_to l t + k
  sum_through = sum_to_suc (update l t k) t ∙ ap₂ ◌+◌ sum_before (update_same l t k)

  position_through : position (update l t k) (update i t x) (suc t) ≡ position l i t + (x - 1) / 2 * 2 ^ sum_to l t
  position_through =
      position_suc (update l t k) (update i t x) t
      ∙ ap₂ ◌+◌
      (position_cong (update l t k) (update i t x) l i t
      (λ u h. update_other l t k u (λ e. omega arith)) (λ u h. update_other i t x u (λ e. omega arith)))
      (ap₂ (λ (a s : ℕ). (a - 1) / 2 * 2 ^ s) (update_same i t x) sum_before)

  module _ {d n : ℕ} (p : IsPoint d n l i) (axis : t < d) where
    rest_of : suc t + (d - suc t) ≡ d
    rest_of = omega arith

    -- The axes past t.
    beyond_is : position l i d / 2 ^ sum_to l (suc t) ≡ sum_to (shifted l i t) (d - suc t)
    beyond_is =
        ap (λ (y : ℕ). y / 2 ^ sum_to l (suc t))
        (ap (position l i) (sym rest_of) ∙ position_past l i t (d - suc t) ∙ omega arith)
        ∙ high (sum_to (shifted l i t) (d - suc t)) (sum_to l (suc t)) (position_lt p (suc t) axis)

    pub moved_position :
        position (update l t k) (update i t x) d
        ≡ position l i t + (x - 1) / 2 * 2 ^ sum_to l t + position l i d / 2 ^ sum_to l (suc t) * 2 ^ (sum_to l t + k)
    moved_position =
        ap (position (update l t k) (update i t x)) (sym rest_of)
        ∙ position_past (update l t k) (update i t x) t (d - suc t)
        ∙ ap₂ ◌+◌ position_through
        (ap₂ (λ (b s : ℕ). b * 2 ^ s)
        (sum_to_cong (shifted (update l t k) (update i t x) t) (shifted l i t) (d - suc t) (λ u h. same_past u) ∙ sym beyond_is) sum_through)
