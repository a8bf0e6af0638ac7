-- The last level list of k axes and top level n: it has the sum n, and all others of that sum come before it.
-- Assumes nothing.
use mathlib.Core.Path.{◌≡◌, ap, ◌∙◌}
use Prim.Native.Nat.{ℕ, suc, ◌-◌, ◌≤◌, ◌<◌}
use native.Mathlib.Omega.{arith}
use Rattle.naturals.specs.Sum.{sum_to}
use Rattle.numbering.specs.Count.{vectors}
use Rattle.numbering.specs.Number.{rank}
use Rattle.numbering.proofs.Succession.{sum_last, rank_last}
use Rattle.layouts.specs.Layouts.{last_levels}
use Rattle.layouts.proofs.Laid.{last_here, last_other}

module _ (k n : ℕ) (some : 1 ≤ k) where
  zeros : (t : ℕ) → t < k - 1 → last_levels k n t ≡ 0
  zeros t h = last_other k n t (λ e. omega arith)

  again : suc (k - 1) ≡ k
  again = omega (arith, some)

  pub last_past : (t : ℕ) → k ≤ t → last_levels k n t ≡ 0
  last_past t past = last_other k n t (λ e. omega arith)

  pub last_sum : sum_to (last_levels k n) k ≡ n
  last_sum =
      let all : sum_to (last_levels k n) (suc (k - 1)) ≡ last_levels k n (k - 1) = sum_last (last_levels k n) (k - 1) zeros in
      rw again at all ∙ last_here k n (k - 1) again

  pub last_rank : suc (rank (last_levels k n) k) ≡ vectors k n
  last_rank = rw again at (rank_last (last_levels k n) (k - 1) zeros) ∙ ap (vectors k) last_sum
