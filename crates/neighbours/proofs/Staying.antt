-- The neighbours of a face's points, on the axis, are points of the face or do not move: a parent stands before its point in the face, and what lies across the border
-- does not move, nor does what is no point.
-- Assumes nothing.
use mathlib.Core.Logic.{◌⊎◌, inl, inr}
use Prim.Native.Nat.{ℕ, zero, suc, ◌+◌, ◌≤◌, ◌<◌}
use native.Mathlib.Omega.{arith}
use Rattle.naturals.proofs.Cases.{le_or_lt}
use Rattle.numbering.specs.declared.Side.{Side}
use Rattle.numbering.specs.Count.{points}
use Rattle.hierarchy.specs.Grid.{Neighbours, Still}
use Rattle.grids.specs.Grids.{neighbour}
use Rattle.grids.proofs.Instance.{grid}
use Rattle.neighbours.specs.Facets.{Apart}
use Rattle.neighbours.specs.declared.facets.Facet.{Facet}
use Rattle.neighbours.proofs.Faces.{face_apart}

-- A code from lo + 1 to hi, or one that does not move.
abbrev pub Stays : Neighbours → ℕ → ℕ → ℕ → ℕ → Type 0
Stays nb t lo hi q = ((lo < q) × (q ≤ hi)) ⊎ Still nb t q

module _ (facet : Facet) where
  -- The number after the face's last.
  abbrev pub facet_end : ℕ
  facet_end = facet.base + points facet.axes facet.line.shape.level

  beside_stays : (p code : ℕ) → p < facet_end → Apart (neighbour facet.line.shape) facet.line.place facet.base p facet_end code →
      Stays (neighbour facet.line.shape) facet.line.place facet.base facet_end code
  beside_stays p zero to apart = inr (λ b. (grid facet.line.shape).border facet.line.place b)
  beside_stays p (suc q) to apart =
      let known = apart (omega arith) in
      le_or_lt (suc q) p
      (λ before. inl (known.0, omega arith))
      (λ behind. inr (known.1 behind).1)

  pub facet_stays : (q : ℕ) → facet.base < q → q ≤ facet_end → (b : Side) →
      Stays (neighbour facet.line.shape) facet.line.place facet.base facet_end (neighbour facet.line.shape facet.line.place b q)
  facet_stays zero low high b = absurd (omega arith)
  facet_stays (suc p) low high b = beside_stays p _ high (face_apart facet p (omega arith) high b)
