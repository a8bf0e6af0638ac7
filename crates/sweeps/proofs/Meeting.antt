-- The level list at which a way stands, as a turn on an axis meets it: with the same levels. Its odd sums are the same in every table that agrees where its
-- parents stand.
-- Assumes nothing.
use mathlib.Core.Path.{◌≡◌}
use mathlib.Core.List.{List}
use Prim.Native.Nat.{ℕ, ◌+◌}
use lib.IntN.{ℤ}
use Rattle.numbering.specs.Point.{at}
use Rattle.hierarchy.specs.Turns.{value_at}
use Rattle.vectors.specs.declared.LevelVector.{LevelVector}
use Rattle.grids.specs.Grids.{neighbour}
use Rattle.neighbours.specs.declared.facets.Facet.{Facet}
use Rattle.neighbours.specs.declared.subspaces.Subspace.{Subspace}
use Rattle.neighbours.specs.Facets.{Apart}
use Rattle.neighbours.proofs.Seeing.{seen}
use Rattle.lists.proofs.Turned.{list_end}
use Rattle.lists.specs.Lists.{odd_sums, first_in, end_of}
use Rattle.sweeps.proofs.Odds.{list_odds}

pub record Met (facet : Facet) (vector : LevelVector) (v : Subspace) : Type 0 where
  pub on : v.facet ≡ facet
  pub same : v.vector ≡ vector

-- As `Subspace::on` answers it.
pub met : {facet : Facet} {vector : LevelVector} (v : Subspace) {start : ℕ} → (v.facet ≡ facet) × (v.vector ≡ vector) × (v.start ≡ start) → Met facet vector v
met v answered = record { on = answered.0; same = answered.1 }

module _ {facet : Facet} {vector : LevelVector} (v : Subspace) (m : Met facet vector v) where
  -- Where it stands, and what it adds to the count of odd sums.
  pub met_start : v.start ≡ first_in facet.base facet.axes (at vector.levels)
  met_start = rw (m.on, m.same) at (seen v).start

  pub met_end : v.end ≡ end_of facet.base facet.axes (at vector.levels)
  met_end = rw (m.on, m.same) at (list_end (seen v))

  pub met_odds : (xs ys : List ℤ) →
      ((code : ℕ) →
      Apart (neighbour facet.line.shape) facet.line.place facet.base (first_in facet.base facet.axes (at vector.levels)) (end_of facet.base facet.axes (at vector.levels)) code →
      value_at xs code ≡ value_at ys code) →
      (k : ℕ) → odd_sums v.facet.line.shape v.facet.line.place ys v.start + k ≡ odd_sums v.facet.line.shape v.facet.line.place ys v.end →
      odd_sums facet.line.shape facet.line.place xs (first_in facet.base facet.axes (at vector.levels)) + k
      ≡ odd_sums facet.line.shape facet.line.place xs (end_of facet.base facet.axes (at vector.levels))
  met_odds xs ys same k counted =
      rw (m.on, met_start, met_end) at (list_odds v xs ys (rw (m.on, met_start, met_end) same) k counted)
