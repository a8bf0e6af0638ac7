-- The neighbours of any point of a face: its parents stand before it in the face; what lies across the border stands behind the face and does not move.
-- Assumes nothing.
use mathlib.Core.Path.{◌≡◌, ap}
use mathlib.Core.Bool.{false}
use Prim.Native.Nat.{ℕ, suc, ◌+◌, ◌-◌, ◌≤◌, ◌<◌}
use native.Mathlib.Omega.{arith}
use Rattle.naturals.proofs.Cases.{true_or_false}
use Rattle.numbering.specs.declared.Side.{Side}
use Rattle.numbering.specs.Count.{points}
use Rattle.numbering.specs.Inverse.{level_at, index_at}
use Rattle.numbering.proofs.Numbering.{point_of_number_lem, number_of_point_lem}
use Rattle.numbering.proofs.Parents as parents
use Rattle.grids.specs.Grids.{neighbour}
use Rattle.neighbours.specs.declared.facets.Facet.{Facet}
use Rattle.neighbours.specs.Facets.{on_border, parent_number, Apart}

module _ (facet : Facet) (p : ℕ) (from : facet.base ≤ p) (to : p < facet.base + points facet.axes facet.line.shape.level) (b : Side) where
  abbrev q : ℕ
  q = p - facet.base

  abbrev k : ℕ
  k = facet.axes

  abbrev n : ℕ
  n = facet.line.shape.level

  abbrev beside : ℕ
  beside = neighbour facet.line.shape facet.line.place b (suc p)

  below : q < points k n
  below = omega arith

  there : neighbour facet.line.shape facet.line.place b (suc (facet.base + q)) ≡ beside
  there =
      let same : facet.base + q ≡ p = omega arith in
      ap (λ (p : ℕ). neighbour facet.line.shape facet.line.place b (suc p)) same

  parent_before : on_border facet.place b (level_at k n q) (index_at k n q) ≡ false → parent_number k facet.place b (level_at k n q) (index_at k n q) < q
  parent_before e =
      omega (arith, parents.parent_number (point_of_number_lem k n q below) facet.place facet.inner b e, number_of_point_lem k n q below)

  pub face_apart : Apart (neighbour facet.line.shape) facet.line.place facet.base p (facet.base + points k n) beside
  face_apart =
      true_or_false (on_border facet.place b (level_at k n q) (index_at k n q))
      (λ e some.
      let apart = facet.sits.apart q below b e (omega (arith, there, some)) in
      let behind = apart.1 apart.0 in
      (omega (arith, there, apart.0), λ more. (omega (arith, there, behind.0), rw there at behind.1)))
      (λ e some.
      let inside = facet.sits.inner q below b e in
      (omega (arith, there, inside), λ more. absurd (omega (arith, there, inside, parent_before e, more))))
