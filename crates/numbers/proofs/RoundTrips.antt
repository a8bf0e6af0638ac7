-- The two calls undo each other: the point of a point's number is that point, and the number of a number's point is that number. From the laws of the
-- numbering, for what the calls answer.
-- Assumes nothing.
use Rattle.std.specs.Prelude.{Ok}
use mathlib.Core.Path.{◌≡◌, sym, ◌∙◌, fun_ext}
use mathlib.Core.List.{List}
use Prim.Native.Nat.{ℕ, ◌≤◌}
use native.Mathlib.Omega.{arith}
use lib.Dec.{ltb}
use lib.ListN.{length, take, get_or-eq_default}
use lib.Seq.{length-take-le, get_or-take}
use borrow.Author.Tests.{lt-ltb, ltb-true}
use Rattle.naturals.proofs.Cases.{le_or_lt}
use Rattle.refusals.specs.declared.Refusal.TheVariants.{PointNumber}
use Rattle.refusals.specs.Checks.{unless, ◌and_then◌}
use Rattle.refusals.proofs.Passing.{first_passed, next_passed, test_passed, result_passed}
use Rattle.numbering.specs.Point.{at}
use Rattle.shapes.specs.declared.Shape.{Shape}
use Rattle.shapes.specs.Shapes.{check_shape, points_of}
use Rattle.shapes.proofs.Checked.{passed_in_range}
use Rattle.grids.specs.Grids.{mark_on, level_on, index_on}
use Rattle.grids.proofs.Points.{number_lt, marks_again, levels_again, indices_again, point_at_lem, number_of_point_lem}
use Rattle.points.specs.declared.MarkedPoint.{MarkedPoint}
use Rattle.points.specs.Points.{eight, check_lists, check_point, point_at, point_of}
use Rattle.points.proofs.Eight.{eight_at, eight_length}
use Rattle.points.proofs.Passed.{named_passes}
use Rattle.numbers.specs.Numbers.{number_of_point, point_of_number}
use Rattle.numbers.proofs.Answers.{answered}

shape_passed : (s : Shape) (ms ls is : List ℕ) → check_point s ms ls is ≡ Ok tt → check_shape s ≡ Ok tt
unfolding check_point
shape_passed s ms ls is e = first_passed (check_shape s) (check_lists s ms ls is) e

-- From point to number to point.
pub number_then_point : (s : Shape) (ms ls is : List ℕ) (k : ℕ) → number_of_point s ms ls is ≡ Ok k →
    point_of_number s k ≡ Ok (point_of (at ms) (at ls) (at is))
unfolding point_of_number point_at
number_then_point s ms ls is k e =
    let a = answered s ms ls is k e in
    let name = a.passes.named in
    rw (
      shape_passed s ms ls is a.checked,
      lt-ltb k (points_of s) (omega (arith, number_lt s name, a.number)),
      ← a.number,
      marks_again s name,
      levels_again s name,
      indices_again s name,
    )

first_length : (d : ℕ) (f : ℕ → ℕ) → d ≤ 8 → length (take d (eight f)) ≡ d
first_length d f few = length-take-le d (eight f) (omega (arith, eight_length f))

-- The first d of eight places hold all of a point of d axes with nothing past them.
first_places : (d : ℕ) (f : ℕ → ℕ) → d ≤ 8 → ((t : ℕ) → d ≤ t → f t ≡ 0) → at (take d (eight f)) ≡ f
first_places d f few past =
    fun_ext λ t.
    le_or_lt d t
    (λ le. get_or-eq_default (take d (eight f)) 0 (omega (arith, first_length d f few)) ∙ sym (past t le))
    (λ lt. get_or-take d (eight f) t 0 lt ∙ eight_at f t (omega arith))

-- What a call that found a point passed, and which point it is.
located_at : (s : Shape) (k : ℕ) (p : MarkedPoint) → point_of_number s k ≡ Ok p →
    (check_shape s and_then unless (ltb k (points_of s)) PointNumber ≡ Ok tt) × (point_at s k ≡ p)
unfolding point_of_number
located_at s k p e = result_passed (check_shape s and_then unless (ltb k (points_of s)) PointNumber) (point_at s k) p e

-- From number to point to number: the lists are the first d places of the point's.
pub point_then_number : (s : Shape) (k : ℕ) (p : MarkedPoint) → point_of_number s k ≡ Ok p →
    number_of_point s (take s.axes p.marks) (take s.axes p.point.levels) (take s.axes p.point.indices) ≡ Ok k
unfolding number_of_point check_point point_at
point_then_number s k p e =
    let a = located_at s k p e in
    let shape = first_passed (check_shape s) (unless (ltb k (points_of s)) PointNumber) a.0 in
    let small =
    ltb-true k (points_of s)
    (test_passed (ltb k (points_of s)) PointNumber
    (next_passed (check_shape s) (unless (ltb k (points_of s)) PointNumber) a.0)) in
    let few = (passed_in_range s shape).high in
    let name = point_at_lem s k small in
    let m = first_places s.axes (mark_on s k) few name.marked.no_mark in
    let l = first_places s.axes (level_on s k) few name.marked.no_level in
    let i = first_places s.axes (index_on s k) few name.marked.no_index in
    let passed =
    named_passes s _ _ _
    (first_length s.axes (mark_on s k) few)
    (first_length s.axes (level_on s k) few)
    (first_length s.axes (index_on s k) few)
    (rw (m, l, i) name) in
    rw (← a.1, shape, passed, m, l, i, number_of_point_lem s k small)
