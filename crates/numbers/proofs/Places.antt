-- Numbers and ranks as places in blocks: a point number below N lies in the blocks of the level sums up to n, and the rank of a level vector in
-- those of its last levels. What the search finds there is what the point of a number is made of.
-- Assumes nothing.
use mathlib.Core.Path.{◌≡◌, ap}
use Prim.Native.Nat.{ℕ, suc, ◌-◌, ◌<◌}
use native.Mathlib.Omega.{arith}
use Rattle.naturals.specs.Sum.{sum_to}
use Rattle.numbering.specs.Count.{vectors, shell, start, points}
use Rattle.numbering.specs.Number.{ending}
use Rattle.numbering.specs.Inverse.{last_level, sum_at, within}
use Rattle.numbering.proofs.Numbering.{start_is, points_is}
use Rattle.numbering.proofs.Unrank.{all_endings}
use Rattle.numbers.specs.Steps.{Lies}

pub number_inside : (d n p : ℕ) → p < points d n → p < sum_to (shell d) (suc n)
number_inside d n p h = omega (arith, points_is d n, start_is d (suc n))

pub rank_inside : (k s r : ℕ) → r < vectors (suc k) s → r < sum_to (ending k s) (suc s)
rank_inside k s r h = omega (arith, all_endings k s)

-- The block of a point number is its level sum.
module _ (d n p : ℕ) {s left : ℕ} (lies : Lies (shell d) n p s left) where
  pub sum_found : sum_at d n p ≡ s
  unfolding sum_at
  sum_found = lies.here

  pub within_found : within d n p ≡ left
  unfolding within
  within_found = omega (arith, ap (start d) sum_found, start_is d s, lies.rest)

-- The block of a rank is the last level.
module _ (k s r : ℕ) {j left : ℕ} (lies : Lies (ending k s) s r j left) where
  pub last_found : last_level k s r ≡ j
  unfolding last_level
  last_found = lies.here

  pub rest_found : r - sum_to (ending k s) (last_level k s r) ≡ left
  rest_found = omega (arith, ap (sum_to (ending k s)) last_found, lies.rest)
