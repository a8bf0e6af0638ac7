-- Cursors: while a turn goes through the level lists of one sum, the first numbers of those that are lower on the axis.
-- Assumes nothing.
use Rattle.std.specs.Prelude.{List, ◌≡◌, ℕ, ◌+◌, ◌-◌, ◌*◌, ◌^◌, ◌≤◌, ◌<◌, leb, length, if◌then◌else◌}
use Rattle.naturals.specs.Sum.{sum_to}
use Rattle.numbering.specs.Count.{start}
use Rattle.numbering.specs.Point.{at}
use Rattle.numbering.specs.Inverse.{level_of}
use Rattle.neighbours.specs.declared.facets.Facet.{Facet}

-- A list of so many places that is filled in from place a on, up to place j, with the values of a function.
pub record Filled (value : ℕ → ℕ) (long a j : ℕ) (list : List ℕ) : Type 0 where
  pub size : length list ≡ long
  pub holds : (i : ℕ) → a ≤ i → i < j → at list i ≡ value i

-- Of the level lists of d axes with the level sum s: 1 if the one that r others come before has a level of at least j on axis t, else 0; and how many of the
-- first b have.
unfoldable pub reaches : ℕ → ℕ → ℕ → ℕ → ℕ → ℕ
reaches d t s j r = if leb j (level_of d s r t) then 1 else 0

unfoldable pub passed : ℕ → ℕ → ℕ → ℕ → ℕ → ℕ
passed d t s j b = sum_to (reaches d t s j) b

-- Of the level lists of sum s the first b are passed. Those of them with a level of at least j on the axis, each lowered by j there, are the first level lists
-- of sum s − j: cursor j is the number of the first point that comes after these. Places 0 and past s are not read.
pub record Cursors (facet : Facet) (s b : ℕ) (cursors : List ℕ) : Type 0 where
  pub low : s ≤ facet.line.shape.level
  pub long : length cursors ≡ 9
  pub first : (j : ℕ) → 1 ≤ j → j ≤ s → at cursors j ≡ facet.base + start facet.axes (s - j) + 2 ^ (s - j) * passed facet.axes facet.place s j b
