-- A level vector as a turn on an axis meets it, the numbers of its points, and those of their parents.
-- Assumes nothing.
use Rattle.std.specs.Prelude.{List, ◌≡◌, ℕ, ◌+◌, ◌-◌, ◌*◌, ◌/◌, ◌^◌, ◌≤◌, length, Option}
use Rattle.numbering.specs.declared.Side.{Side}
use Rattle.numbering.specs.Point.{at}
use Rattle.numbering.specs.Number.{first_of}
use Rattle.numbering.specs.Parent.{twos, parent_level, parent_index, update}
use Rattle.neighbours.specs.Facets.{without, across, moved_on}
use Rattle.neighbours.specs.declared.facets.Rims.{Rims}
use Rattle.neighbours.specs.declared.subspaces.Subspace.{Subspace}

-- A list with, for each j from 1 to the level on the axis, the first number of the level vector that is lower by j there and elsewhere has the same levels.
-- Other places are not read.
pub record Below (v : Subspace) (starts : List ℕ) : Type 0 where
  pub long : length starts ≡ 9
  pub first : (j : ℕ) → 1 ≤ j → j ≤ v.own → at starts j ≡ v.facet.base + first_of v.facet.axes (update (at v.vector.levels) v.facet.place (v.own - j))

-- The number of the parent at numerator m, off the border, of a point to whose position the axes before this one add `before`, those beyond it `beyond` in
-- units of 2^(sum of the levels up to this axis): the parent's level vector is lower on the axis by as many levels as factors of two were dropped, and what the
-- axes beyond add comes as many bits lower.
unfoldable pub parent_from : Subspace → List ℕ → ℕ → ℕ → ℕ → ℕ
parent_from v starts before beyond m =
    at starts (twos m) + before + (parent_index m - 1) / 2 * 2 ^ v.low + beyond * 2 ^ (v.low + parent_level v.own m)

-- The number of the point of a level vector to whose position the axes before this one add `before`, this one the digit e, those beyond it `beyond`.
abbrev pub number_in : Subspace → ℕ → ℕ → ℕ → ℕ
number_in v before e beyond = v.start + before + e * 2 ^ v.low + beyond * 2 ^ (v.low + v.own)

-- The first numbers across the border of a level vector: those of the level vectors without the axis, in the faces that lie there.
abbrev pub rims_of : Subspace → Option Rims
rims_of v = moved_on v.facet.rims (first_of (v.facet.axes - 1) (without v.facet.place (at v.vector.levels)))

-- The code across the border of such a point: the digit of this axis is gone, and what the axes beyond add comes as many bits lower.
abbrev pub across_from : Subspace → Side → ℕ → ℕ → ℕ
across_from v b before beyond = across (rims_of v) b (beyond * 2 ^ v.low + before)
