-- The order of the numbers is the order of the points, for both sorts of table: by number of border axes, then by marks from the last axis down, then as document 01
-- orders points. With a zero border no point has a mark, and the first two say nothing.
-- Assumes nothing.
use Rattle.std.specs.Prelude.{Ok}
use mathlib.Core.Path.{◌≡◌, ap, sym, ◌∙◌}
use mathlib.Core.List.{List}
use Prim.Native.Nat.{ℕ, zero, suc}
use Rattle.std.specs.declared.cmp.Ordering.{Ordering}
use Rattle.std.specs.declared.cmp.Ordering.TheVariants.{Equal}
use Rattle.naturals.proofs.Cases.{true_or_false}
use Rattle.numbering.specs.Point.{at}
use Rattle.numbering.specs.Order.{by, by_levels, order_of_points}
use Rattle.numbering.proofs.Ordering.{by_equal, levels_zero, levels_suc, numbers_ordered}
use Rattle.faces.specs.Faces.{borders}
use Rattle.faces.specs.Order.{order_of_marked}
use Rattle.faces.proofs.Ordering.{numbers_ordered_by_faces}
use Rattle.shapes.specs.declared.Shape.{Shape}
use Rattle.grids.specs.Grids.{number_of}
use Rattle.grids.proofs.Points.{PointOf, number_bordered, number_plain}
use Rattle.numbers.specs.Numbers.{number_of_point}
use Rattle.numbers.proofs.Answers.{answered}

-- The same marks decide nothing.
marks_equal : (m o : ℕ → ℕ) (k : ℕ) (next : Ordering) → m ≡ o → by_levels m o k next ≡ next
marks_equal m o zero next e = levels_zero m o next
marks_equal m o (suc k) next e =
    levels_suc m o k next ∙ by_equal (m k) (o k) (by_levels m o k next) (ap (λ (f : ℕ → ℕ). f k) e) ∙ marks_equal m o k next e

pub one_face : (d : ℕ) {m o : ℕ → ℕ} (l i k j : ℕ → ℕ) → m ≡ o → order_of_marked d m l i o k j ≡ order_of_points d l i k j
unfolding order_of_marked
one_face d {m} {o} l i k j e =
    by_equal (borders m d) (borders o d) (by_levels m o d (order_of_points d l i k j)) (ap (λ (f : ℕ → ℕ). borders f d) e)
    ∙ marks_equal m o d (order_of_points d l i k j) e

module _ (s : Shape) {m l i o k j : ℕ → ℕ} (x : PointOf s m l i) (y : PointOf s o k j) where
  pub points_ordered : by (number_of s m l i) (number_of s o k j) Equal ≡ order_of_marked s.axes m l i o k j
  points_ordered =
      true_or_false s.border
      (λ on. rw (number_bordered s on m l i, number_bordered s on o k j) (numbers_ordered_by_faces x.marked y.marked))
      (λ off.
      rw (number_plain s off m l i, number_plain s off o k j)
      (numbers_ordered x.marked.point y.marked.point ∙ sym (one_face s.axes l i k j (x.only off ∙ sym (y.only off)))))

-- So are the numbers that the call answers.
pub answers_ordered : (s : Shape) (ms ls is os ks js : List ℕ) (p q : ℕ) → number_of_point s ms ls is ≡ Ok p → number_of_point s os ks js ≡ Ok q →
    by p q Equal ≡ order_of_marked s.axes (at ms) (at ls) (at is) (at os) (at ks) (at js)
answers_ordered s ms ls is os ks js p q e f =
    let a = answered s ms ls is p e in
    let b = answered s os ks js q f in
    rw (← a.number, ← b.number) (points_ordered s a.passes.named b.passes.named)
