-- Where a forward way over a face begins.
-- Assumes nothing.
use Rattle.std.specs.Prelude.{◌≡◌, suc}
use Rattle.numbering.specs.Count.{vectors}
use Rattle.numbering.specs.Number.{rank}
use Rattle.numbering.specs.Point.{at}
use Rattle.vectors.specs.declared.LevelVector.{LevelVector}
use Rattle.neighbours.specs.declared.facets.Facet.{Facet}

-- The last level list of a face: it has the top level for its sum, and all others of that sum come before it.
pub record LastOf (facet : Facet) (last : LevelVector) : Type 0 where
  pub axes : last.axes ≡ facet.axes
  pub sum : last.sum ≡ facet.line.shape.level
  pub rank : suc (rank (at last.levels) facet.axes) ≡ vectors facet.axes facet.line.shape.level
