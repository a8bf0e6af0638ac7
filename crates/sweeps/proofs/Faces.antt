-- With a zero border the table is one face: its work is the work of the turn, what is left on it is what the turn leaves, and its odd sums are all there are. And of a
-- face that a back turn has done, the odd sums are those of the result: the parents of its points stand on it or do not move, and there both tables hold the same.
-- Assumes nothing.
use mathlib.Core.Path.{◌≡◌, refl, ap, ap₂, sym, ◌∙◌}
use mathlib.Core.Bool.{Bool, true, false}
use mathlib.Core.Logic.{inr}
use mathlib.Core.List.{List}
use Prim.Native.Nat.{ℕ, zero, suc, ◌+◌, ◌≤◌, ◌<◌}
use native.Mathlib.Omega.{arith}
use lib.IntN.{ℤ}
use lib.ListN.{length}
use Rattle.naturals.proofs.Cases.{le_or_lt}
use Rattle.numbering.specs.Count.{points}
use Rattle.numbering.specs.declared.Side.{Side}
use Rattle.hierarchy.specs.Grid.{Still}
use Rattle.hierarchy.specs.Turns.{value_at}
use Rattle.hierarchy.proofs.Values.{value_zero, values_length}
use Rattle.shapes.specs.declared.Shape.{Shape}
use Rattle.shapes.specs.Shapes.{points_of}
use Rattle.grids.specs.Grids.{neighbour}
use Rattle.shapes.proofs.Layers.{points_plain}
use Rattle.grids.proofs.Turned.{turned_length, former_length}
use borrow.Author.Tests.{eq-eqb}
use Rattle.faces.specs.Row.{marks_of, inner_of, row}
use Rattle.faces.proofs.Row.{first_unmarked, first_inner, row_zero}
use Rattle.grids.specs.Faces.{faces_of}
use Rattle.grids.proofs.Faces.{faces_plain}
use Rattle.sweeps.specs.Sweeps.{lists_worked, walk, face_worked, faces_down, faces_up, table_worked}
use Rattle.neighbours.specs.declared.facets.Line.{Line}
use Rattle.neighbours.specs.declared.facets.Facet.{Facet}
use Rattle.neighbours.proofs.Faces.{face_apart}
use Rattle.lists.specs.Lists.{odd_sums, whole_turn, turned_between}
use Rattle.lists.proofs.Turned.{still_turn}
use Rattle.sweeps.proofs.Parted.{Parted, all_parted, list_parted}
use Rattle.sweeps.proofs.Odds.{odds_none, same_growth, same_odd}
use Rattle.neighbours.proofs.Staying.{facet_end}

pub turn_long : (ahead : Bool) (s : Shape) (t : ℕ) (xs : List ℤ) → length (whole_turn ahead s t xs) ≡ points_of s
unfolding whole_turn
turn_long true s t xs = turned_length s t xs
turn_long false s t xs = former_length s t xs

face_worked_inside : (ahead : Bool) (s : Shape) (t f : ℕ) (ys : List ℤ) → marks_of s.axes f t ≡ 0 →
    face_worked ahead s t f ys
    ≡ lists_worked ahead s t (row s.axes s.level f) (inner_of s.axes f) (walk ahead (inner_of s.axes f) s.level) ys
unfolding face_worked
face_worked_inside ahead s t f ys inside = rw (eq-eqb (marks_of s.axes f t) 0 inside) refl

-- The work of a turn on one face.
one_face : (ahead : Bool) (s : Shape) (t : ℕ) (ys : List ℤ) → faces_of s ≡ 1 → table_worked ahead s t ys ≡ face_worked ahead s t 0 ys
unfolding table_worked faces_down faces_up
one_face true s t ys one = rw one refl
one_face false s t ys one = rw one refl

-- With a zero border the table is one face.
module _ (line : Line) (plain : line.shape.border ≡ false) (xs : List ℤ) (long : length xs ≡ points_of line.shape) where
  pub whole_end : 0 + points line.shape.axes line.shape.level ≡ points_of line.shape
  whole_end = omega (arith, points_plain line.shape plain)

  pub all_turned : (ahead : Bool) → turned_between ahead line.shape line.place 0 (0 + points line.shape.axes line.shape.level) xs ≡ whole_turn ahead line.shape line.place xs
  unfolding turned_between
  all_turned ahead =
      rw whole_end
      (all_parted (points_of line.shape) xs (whole_turn ahead line.shape line.place xs) _ (turn_long ahead line.shape line.place xs)
      (list_parted (points_of line.shape) 0 (points_of line.shape) xs (whole_turn ahead line.shape line.place xs) _ (values_length (points_of line.shape) _) long
      (omega arith) refl))

  -- Its work is the work of the turn.
  pub all_worked : (ahead : Bool) (ys : List ℤ) →
      lists_worked ahead line.shape line.place 0 line.shape.axes (walk ahead line.shape.axes line.shape.level) ys
      ≡ table_worked ahead line.shape line.place ys
  all_worked ahead ys =
      let d : ℕ = line.shape.axes in
      let inside : marks_of d 0 line.place ≡ 0 = ap (λ (m : ℕ → ℕ). m line.place) (first_unmarked d) in
      ap₂ (λ (base k : ℕ). lists_worked ahead line.shape line.place base k (walk ahead k line.shape.level) ys)
      (sym (row_zero d line.shape.level)) (sym (first_inner d))
      ∙ sym (face_worked_inside ahead line.shape line.place 0 ys inside)
      ∙ sym (one_face ahead line.shape line.place ys (faces_plain line.shape plain))

  pub all_odds : (table : List ℤ) (odd : ℕ) →
      odd_sums line.shape line.place table 0 + odd ≡ odd_sums line.shape line.place table (0 + points line.shape.axes line.shape.level) →
      odd ≡ odd_sums line.shape line.place table (points_of line.shape)
  all_odds table odd counted =
      omega (arith, counted, odds_none line.shape line.place table, ap (odd_sums line.shape line.place table) whole_end)

-- Where a face is done by a back turn, its odd sums are those of the result.
module _ (facet : Facet) (xs ys : List ℤ) (long : length xs ≡ points_of facet.line.shape)
    (parted : Parted (points_of facet.line.shape) facet.base (facet_end facet) xs (whole_turn false facet.line.shape facet.line.place xs) ys) where
  abbrev result : List ℤ
  result = whole_turn false facet.line.shape facet.line.place xs

  holds : (q : ℕ) → facet.base < q → (facet_end facet < q → Still (neighbour facet.line.shape) facet.line.place q) → value_at ys q ≡ value_at result q
  holds zero from still = absurd (omega arith)
  holds (suc p) from still =
      le_or_lt (facet_end facet) p
      (λ past.
      parted.others p (inr past) ∙ sym (still_turn false facet.line.shape facet.line.place xs long (suc p) (still (omega arith))))
      (λ within. parted.inside p (omega arith) within)

  parent_holds : (p : ℕ) → facet.base ≤ p → p < facet_end facet → (b : Side) → (q : ℕ) → q ≡ neighbour facet.line.shape facet.line.place b (suc p) →
      value_at ys q ≡ value_at result q
  parent_holds p from to b zero e = value_zero ys ∙ sym (value_zero result)
  parent_holds p from to b (suc r) e =
      let apart = rw (sym e) at (face_apart facet p from to b) in
      let known = apart (omega arith) in
      holds (suc r) known.0 (λ high. (known.1 (omega arith)).1)

  pub former_odds : (odd : ℕ) → odd_sums facet.line.shape facet.line.place result facet.base + odd ≡ odd_sums facet.line.shape facet.line.place result (facet_end facet) →
      odd_sums facet.line.shape facet.line.place ys facet.base + odd ≡ odd_sums facet.line.shape facet.line.place ys (facet_end facet)
  former_odds odd counted =
      omega (
        arith,
        counted,
        same_growth facet.line.shape facet.line.place ys result facet.base (facet_end facet) (omega arith)
            (λ p from to. same_odd facet.line.shape facet.line.place ys result p (λ b. parent_holds p from to b _ refl)),
      )
