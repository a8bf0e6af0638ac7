-- What is known of a level vector that a turn meets, in the form that the other laws take; and one as `Subspace::on` puts it together: its first number is
-- handed in, and it has 2^(level sum) points.
-- Assumes nothing.
use mathlib.Core.Path.{◌≡◌, ap}
use Prim.Native.Nat.{ℕ, ◌+◌, ◌*◌, ◌%◌, ◌^◌, ◌≤◌, ◌<◌}
use native.Mathlib.Omega.{arith}
use lib.ListN.{length, take}
use lib.Pow.{pow_pos, pow_mono}
use Rattle.naturals.specs.Sum.{sum_to}
use Rattle.naturals.proofs.Sums.{sum_to_mono}
use Rattle.naturals.proofs.Shifts.{one_shifted}
use Rattle.numbering.specs.Point.{at}
use Rattle.numbering.specs.Number.{first_of}
use Rattle.numbering.proofs.Subspaces.{block_below}
use Rattle.vectors.specs.Steps.{VectorIn}
use Rattle.vectors.proofs.Summing.{sum_of_first}
use Rattle.vectors.specs.declared.LevelVector.{LevelVector}
use Rattle.neighbours.specs.declared.facets.Facet.{Facet}
use Rattle.neighbours.specs.declared.subspaces.Subspace.{Subspace}

-- A level vector of the face, with nothing past its axes, and its numbers are right: those of its points, its level sum before the axis and its level
-- there.
pub record Seen (v : Subspace) : Type 0 where
  pub few : v.facet.axes ≤ 8
  pub top : v.facet.line.shape.level ≤ 8
  pub axis : v.facet.place < v.facet.axes
  pub rest : (u : ℕ) → v.facet.axes ≤ u → at v.vector.levels u ≡ 0
  pub sum : sum_to (at v.vector.levels) v.facet.axes ≤ v.facet.line.shape.level
  pub start : v.start ≡ v.facet.base + first_of v.facet.axes (at v.vector.levels)
  pub end : v.end ≡ v.start + 2 ^ sum_to (at v.vector.levels) v.facet.axes
  pub low : v.low ≡ sum_to (at v.vector.levels) v.facet.place
  pub own : v.own ≡ at v.vector.levels v.facet.place

pub vector_of : (v : Subspace) → VectorIn v.facet.axes v.vector.sum v.vector.levels
vector_of v = rw v.same at v.vector.vector

pub seen : (v : Subspace) → Seen v
seen v =
    record {
      few = v.facet.few;
      top = v.facet.line.top;
      axis = v.facet.inner;
      rest = (vector_of v).rest;
      sum = omega (arith, (vector_of v).total, v.inside);
      start = v.first;
      end = omega (arith, v.after, ap (λ (s : ℕ). 2 ^ s) (vector_of v).total);
      low = v.before;
      own = v.there;
    }

module _ (facet : Facet) (v : LevelVector) (start : ℕ) (same : v.axes ≡ facet.axes) (low : v.sum ≤ facet.line.shape.level)
    (first : start ≡ facet.base + first_of facet.axes (at v.levels)) where
  vector : VectorIn facet.axes v.sum v.levels
  vector = rw same at v.vector

  -- The levels before the axis, cut off for their sum.
  pub before_is : let before = take facet.place v.levels in sum_to (at before) (length before) ≡ sum_to (at v.levels) facet.place
  before_is = sum_of_first v.levels facet.place (omega (arith, vector.long, facet.few, facet.inner))

  pub before_small : let before = take facet.place v.levels in sum_to (at before) (length before) ≤ 8
  before_small = omega (arith, before_is, vector.total, facet.line.top, sum_to_mono (at v.levels) facet.place facet.axes (omega (arith, facet.inner)))

  -- The end is small, since the level vector lies within the table.
  pub end_small : start + 1 * 2 ^ v.sum % 2 ^ 64 < 2 ^ 33
  end_small =
      omega (
        arith,
        first,
        facet.line.top,
        one_shifted 64 v.sum (omega (arith, facet.line.top)),
        pow_mono {i = v.sum} {j = 8} (omega (arith, facet.line.top)),
        block_below facet.axes facet.line.shape.level (at v.levels) vector.rest (omega (arith, vector.total)) 0 (pow_pos (sum_to (at v.levels) facet.axes)),
        facet.sits.inside,
        facet.line.small,
      )
