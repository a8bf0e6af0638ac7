-- The search along blocks: what is left of a place r once the blocks before block j are taken off. The search ends in the block that r lies in;
-- a place before the end of the last block that lies in none before it lies in the last.
-- Assumes nothing.
use mathlib.Core.Path.{◌≡◌}
use Prim.Native.Nat.{ℕ, suc, ◌+◌, ◌-◌, ◌≤◌, ◌<◌}
use native.Mathlib.Numerals.{add-one}
use native.Mathlib.Omega.{arith}
use Rattle.naturals.specs.Sum.{sum_to}
use Rattle.naturals.proofs.Cases.{le_or_lt}
use Rattle.naturals.proofs.Sums.{sum_to_zero, sum_to_suc, sum_to_mono}
use Rattle.numbering.proofs.Block.{block_is, block_le}
use Rattle.numbers.specs.Steps.{Lies}

pub record Searched (f : ℕ → ℕ) (m r j left : ℕ) : Type 0 where
  pub place : j ≤ m
  pub inside : r < sum_to f (suc m)
  pub rest : left + sum_to f j ≡ r

pub searched_starts : (f : ℕ → ℕ) (m r : ℕ) → r < sum_to f (suc m) → Searched f m r 0 r
searched_starts f m r h =
    record { place = omega arith; inside = h; rest = omega (arith, sum_to_zero f) }

module _ {f : ℕ → ℕ} {m r j left size : ℕ} (searched : Searched f m r j left) (is : size ≡ f j) where
  pub searched_before : size ≤ left → j < m
  searched_before h =
      le_or_lt m j
      (λ past. omega (arith, searched.rest, searched.inside, sum_to_suc f j, sum_to_mono f (suc m) (suc j) (omega arith)))
      (λ before. before)

  pub searched_steps : size ≤ left → Searched f m r (j + 1) (left - size)
  searched_steps h =
      record {
        place = omega (arith, searched_before h);
        inside = searched.inside;
        rest = rw add-one (omega (arith, searched.rest, sum_to_suc f j));
      }

  pub searched_ends : left < size → Lies f m r j left
  searched_ends h =
      record {
        here = block_is f m r j searched.place (omega (arith, searched.rest)) (omega (arith, searched.rest, sum_to_suc f j));
        rest = searched.rest;
      }

pub searched_through : {f : ℕ → ℕ} {m r j left : ℕ} → Searched f m r j left → m ≤ j → Lies f m r m left
searched_through {f} {m} {r} {j} {left} searched h =
    let last : j ≡ m = omega (arith, searched.place) in
    let sum : left + sum_to f m ≡ r = rw last at searched.rest in
    record { here = block_is f m r m (omega arith) (omega (arith, sum)) searched.inside; rest = sum }

-- The block found is one of those up to the last.
pub lies_le : {f : ℕ → ℕ} {m r j left : ℕ} → Lies f m r j left → j ≤ m
lies_le {f} {m} {r} lies = omega (arith, lies.here, block_le f m r)
