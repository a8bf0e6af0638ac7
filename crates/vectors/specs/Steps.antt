-- Level vectors in lists of eight places, and which comes after or before another: by their sum, then by their rank among those of the sum.
-- Assumes nothing.
use Rattle.std.specs.Prelude.{List, ◌≡◌, ℕ, suc, ◌+◌, ◌^◌, ◌≤◌, length}
use Rattle.naturals.specs.Sum.{sum_to}
use Rattle.numbering.specs.Count.{vectors}
use Rattle.numbering.specs.Point.{at}
use Rattle.numbering.specs.Number.{rank, first_of}

-- A level vector of d axes in a list of eight places, those past axis d zero, with its sum.
pub record VectorIn (d sum : ℕ) (ls : List ℕ) : Type 0 where
  pub long : length ls ≡ 8
  pub total : sum_to (at ls) d ≡ sum
  pub rest : (t : ℕ) → d ≤ t → at ls t ≡ 0

-- How many level vectors come before it.
unfoldable pub vectors_before : ℕ → (ℕ → ℕ) → ℕ
vectors_before d l = sum_to (vectors d) (sum_to l d) + rank l d

-- The level vector after another: its first point comes after the last point of the other.
pub record NextVector (d sum : ℕ) (ls : List ℕ) (sum' : ℕ) (ls' : List ℕ) : Type 0 where
  pub vector : VectorIn d sum' ls'
  pub first : first_of d (at ls') ≡ first_of d (at ls) + 2 ^ sum
  pub count : vectors_before d (at ls') ≡ suc (vectors_before d (at ls))

-- The level vector before another: its last point comes just before the first point of the other.
pub record PreviousVector (d sum : ℕ) (ls : List ℕ) (sum' : ℕ) (ls' : List ℕ) : Type 0 where
  pub vector : VectorIn d sum' ls'
  pub first : first_of d (at ls') + 2 ^ sum' ≡ first_of d (at ls)
