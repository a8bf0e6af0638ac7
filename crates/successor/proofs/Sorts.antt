-- What comes after a point of a shape, by its sort: with a zero border in the one sparse table, with values on the border over all faces.
-- Assumes nothing.
use Rattle.std.specs.Prelude.{Option, Some, None}
use mathlib.Core.Path.{◌≡◌, refl, ap}
use mathlib.Core.Bool.{true, false}
use Prim.Native.Nat.{ℕ, suc}
use lib.Dec.{ltb}
use Rattle.naturals.proofs.Cases.{true_or_false}
use Rattle.numbering.specs.Count.{points}
use Rattle.numbering.specs.Number.{number}
use Rattle.faces.specs.Marked.{border_number}
use Rattle.shapes.specs.declared.Shape.{Shape}
use Rattle.shapes.proofs.Layers.{points_plain, points_bordered}
use Rattle.grids.specs.Grids.{number_of}
use Rattle.grids.proofs.Points.{number_plain, number_bordered}
use Rattle.numbered.specs.Numbered.{unmarked}
use Rattle.points.specs.declared.Point.{Point}
use Rattle.points.specs.declared.MarkedPoint.{MarkedPoint}
use Rattle.points.specs.Points.{eight}
use Rattle.numbers.proofs.Answers.{point_plain, point_bordered}
use Rattle.successor.specs.Steps.{next_inner, next_marked, unmarked_next}
use Rattle.successor.specs.Successor.{after}

-- A point without marks, from the answer.
pub unmarked_some : (o : Option Point) (x : MarkedPoint) → unmarked_next o ≡ Some x → o ≡ Some x.point
unfolding unmarked_next
unmarked_some None x e = absurd cc
unmarked_some (Some p) x e =
    let same : record { marks = eight unmarked; point = p } ≡ x = cc in
    ap (λ (y : MarkedPoint). Some y.point) same

module _ (s : Shape) where
  pub after_bordered : s.border ≡ true → (m l i : ℕ → ℕ) →
      next_marked s.axes s.level (border_number s.axes s.level m l i) ≡ after s (number_of s m l i)
  unfolding after next_marked
  after_bordered on m l i =
      rw (number_bordered s on m l i, points_bordered s on, point_bordered s (suc (border_number s.axes s.level m l i)) on) refl

  pub after_plain : s.border ≡ false → (m l i : ℕ → ℕ) →
      unmarked_next (next_inner s.axes s.level (number s.axes l i)) ≡ after s (number_of s m l i)
  unfolding after next_inner
  after_plain off m l i =
      let q : ℕ = suc (number s.axes l i) in
      rw (number_plain s off m l i, points_plain s off)
      (true_or_false (ltb q (points s.axes s.level))
      (λ more. rw more (unfold unmarked_next in (rw (← point_plain s q off) refl)))
      (λ last. rw last (unfold unmarked_next in refl)))
