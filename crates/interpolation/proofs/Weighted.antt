-- Sums over points of coefficient times weight are linear in the weights and odd in the coefficients, and with one weight that is not 0 one term is left:
-- the laws of finite sums, term by term.
-- Assumes nothing.
use mathlib.Core.Path.{◌≡◌, ap, ◌∙◌}
use Prim.Native.Nat.{ℕ, suc, ◌+◌, ◌*◌, ◌<◌}
use lib.IntN.{ℤ, pos, neg_ℤ, ◌+ℤ◌, ◌*ℤ◌, *ℤ-zero}
use Rattle.integers.proofs.Products.{times_plus, times_times, neg_times}
use Rattle.integers.proofs.Totals.{total_cong, total_none, total_plus, total_times, total_negated, total_one}
use Rattle.interpolation.specs.Weighted.{weighted, weighted_sum}

module _ (m : ℕ) (c : ℕ → ℤ) where
  -- Equal weights give equal sums.
  pub weighted_sum_cong : (v w : ℕ → ℕ) → ((p : ℕ) → p < m → v p ≡ w p) → weighted_sum m c v ≡ weighted_sum m c w
  unfolding weighted_sum weighted
  weighted_sum_cong v w same = total_cong (weighted c v) (weighted c w) m (λ p h. ap (λ (x : ℕ). c (suc p) *ℤ pos x) (same p h))

  pub weighted_sum_none : (w : ℕ → ℕ) → ((p : ℕ) → p < m → w p ≡ 0) → weighted_sum m c w ≡ pos 0
  unfolding weighted_sum weighted
  weighted_sum_none w none =
      total_none (weighted c w) m (λ p h. ap (λ (x : ℕ). c (suc p) *ℤ pos x) (none p h) ∙ *ℤ-zero (c (suc p)))

  -- The sum is linear in the weights.
  pub weighted_sum_plus : (v w : ℕ → ℕ) → weighted_sum m c (λ p. v p + w p) ≡ weighted_sum m c v +ℤ weighted_sum m c w
  unfolding weighted_sum weighted
  weighted_sum_plus v w =
      total_cong (weighted c (λ p. v p + w p)) (λ p. weighted c v p +ℤ weighted c w p) m (λ p h. times_plus (c (suc p)) (v p) (w p))
      ∙ total_plus (weighted c v) (weighted c w) m

  pub weighted_sum_times : (w : ℕ → ℕ) (k : ℕ) → weighted_sum m c (λ p. w p * k) ≡ weighted_sum m c w *ℤ pos k
  unfolding weighted_sum weighted
  weighted_sum_times w k =
      total_cong (weighted c (λ p. w p * k)) (λ p. weighted c w p *ℤ pos k) m (λ p h. times_times (c (suc p)) (w p) k)
      ∙ total_times (weighted c w) k m

  -- It is odd in the coefficients.
  pub weighted_sum_negated : (w : ℕ → ℕ) → weighted_sum m (λ p. neg_ℤ (c p)) w ≡ neg_ℤ (weighted_sum m c w)
  unfolding weighted_sum weighted
  weighted_sum_negated w =
      total_cong (weighted (λ p. neg_ℤ (c p)) w) (λ p. neg_ℤ (weighted c w p)) m (λ p h. neg_times (c (suc p)) (w p))
      ∙ total_negated (weighted c w) m

  -- One weight that is not 0.
  pub weighted_sum_one : (w : ℕ → ℕ) (q : ℕ) → q < m → ((p : ℕ) → p < m → (p ≡ q → ⊥) → w p ≡ 0) →
      weighted_sum m c w ≡ c (suc q) *ℤ pos (w q)
  unfolding weighted_sum weighted
  weighted_sum_one w q h others =
      total_one (weighted c w) m q h
      (λ p lt ne. ap (λ (x : ℕ). c (suc p) *ℤ pos x) (others p lt ne) ∙ *ℤ-zero (c (suc p)))
