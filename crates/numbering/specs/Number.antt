-- The number of a point (document 01, "Numbering the points"; document 001, section 4): how many points come before it.
-- Assumes nothing.
use Rattle.std.specs.Prelude.{ℕ, zero, suc, ◌+◌, ◌-◌, ◌*◌, ◌/◌, ◌^◌}
use Rattle.naturals.specs.Sum.{sum_to}
use Rattle.numbering.specs.Count.{vectors, start}

-- How many level vectors of k + 1 axes with the level sum s have the level m on the last axis.
unfoldable pub ending : ℕ → ℕ → ℕ → ℕ
ending k s m = vectors k (s - m)

-- How many level vectors of the first k axes come before l among those of its level sum: vectors are compared from the last axis down,
-- so first those with a smaller level there, then those with the same level there that come before on the other axes.
unfoldable pub rank : (ℕ → ℕ) → ℕ → ℕ
rank l zero = zero
rank l (suc k) = rank l k + sum_to (ending k (sum_to l (suc k))) (l k)

-- What axis t adds to the position: ((i − 1)/2) × 2^(sum of the levels of the axes before it).
unfoldable pub digit : (ℕ → ℕ) → (ℕ → ℕ) → ℕ → ℕ
digit l i t = (i t - 1) / 2 * 2 ^ sum_to l t

-- The position of a point among those of its level vector.
unfoldable pub position : (ℕ → ℕ) → (ℕ → ℕ) → ℕ → ℕ
position l i d = sum_to (digit l i) d

-- The number of the first point of a level vector of d axes: all points of a smaller level sum, then 2^(level sum) for each earlier level vector.
unfoldable pub first_of : ℕ → (ℕ → ℕ) → ℕ
first_of d l = start d (sum_to l d) + 2 ^ sum_to l d * rank l d

-- The number of a point of d axes: that of the first point of its level vector, then the position.
unfoldable pub number : ℕ → (ℕ → ℕ) → (ℕ → ℕ) → ℕ
number d l i = first_of d l + position l i d
