-- The walk that ranks a level vector: after t axes it has the rank of the first t levels, and their sum.
-- True since the rank rises at each axis by the difference of two counts of level vectors.
-- Assumes nothing.
use mathlib.Core.Path.{◌≡◌, sym, ap₂, ◌∙◌}
use Prim.Native.Nat.{ℕ, suc, ◌+◌, ◌-◌, ◌≤◌, ◌<◌}
use native.Mathlib.Numerals.{add-one}
use native.Mathlib.Omega.{arith}
use Rattle.naturals.specs.Sum.{sum_to}
use Rattle.naturals.proofs.Sums.{sum_to_suc}
use Rattle.naturals.proofs.Summed.{Summed, summed_starts, summed_steps, summed_so_far, summed_fits}
use Rattle.numbering.specs.Count.{vectors}
use Rattle.numbering.specs.Number.{rank}
use Rattle.numbering.proofs.Vectors.{vectors_more}
use Rattle.numbering.proofs.Rank.{rank_zero, rank_suc, rank_step, rank_lt}
use Rattle.shapes.proofs.Totals.{vectors_small}

pub record Ranked (l : ℕ → ℕ) (d t r sum : ℕ) : Type 0 where
  pub sums : Summed l d t sum
  pub ranks : r ≡ rank l t

pub ranked_starts : (l : ℕ → ℕ) (d : ℕ) → Ranked l d 0 0 0
ranked_starts l d = record { sums = summed_starts l d; ranks = sym (rank_zero l) }

module _ {l : ℕ → ℕ} {d t r sum : ℕ} (ranked : Ranked l d t r sum) (h : t < d) (a b : ℕ)
    (next : a ≡ vectors (t + 1) (sum + l t)) (last : b ≡ vectors (t + 1) sum) where
  turned : rank l (suc t) + b ≡ r + a
  turned =
      let same : sum ≡ sum_to l t = ranked.sums.total in
      let more : sum + l t ≡ sum_to l (suc t) = omega (arith, sum_to_suc l t) in
      omega (
        arith,
        ranked.ranks,
        rank_step l t,
        next ∙ ap₂ vectors (add-one t) more,
        last ∙ ap₂ vectors (add-one t) same,
      )

  -- the code's difference is one of natural numbers
  pub ranked_sub : b ≤ a
  ranked_sub = omega (arith, turned, ranked.ranks, rank_suc l t)

  pub ranked_steps : Ranked l d (t + 1) (r + (a - b)) (sum + l t)
  ranked_steps =
      record { sums = summed_steps ranked.sums h; ranks = rw add-one (omega (arith, turned, ranked_sub)) }

-- the code's sum fits
pub ranked_fits : {l : ℕ → ℕ} {d t r sum : ℕ} → Ranked l d t r sum → t < d → d ≤ 8 → sum_to l d ≤ 8 → (a : ℕ) →
    a ≡ vectors (t + 1) (sum + l t) → r + a < 8589934592
ranked_fits {l} {d} {t} {r} {sum} ranked h high small a next =
    let so_far : sum_to l t ≡ sum = sym ranked.sums.total in
    let below : sum_to l t ≤ 8 = omega (arith, summed_so_far ranked.sums) in
    omega (
      arith,
      ranked.ranks,
      rank_lt l t,
      vectors_more t (sum_to l t),
      vectors_small (suc t) (omega arith) (omega arith) (sum_to l t) below,
      next,
      vectors_small (t + 1) (omega arith) (omega arith) (sum + l t) (omega (arith, summed_fits ranked.sums h)),
    )
