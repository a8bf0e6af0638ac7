-- The successor of a point, as calls: where the number of a point is k, its successor is the point of number k + 1, or the end where k is the last number N − 1.
-- Assumes nothing.
use Rattle.std.specs.Prelude.{Some, None, Ok}
use mathlib.Core.Path.{◌≡◌, refl, ◌∙◌}
use mathlib.Core.List.{List}
use Prim.Native.Nat.{ℕ, suc, ◌≤◌, ◌<◌}
use borrow.Author.Tests.{lt-ltb, le-ltb}
use Rattle.shapes.specs.declared.Shape.{Shape}
use Rattle.shapes.specs.Shapes.{points_of}
use Rattle.points.specs.Points.{point_at}
use Rattle.numbers.specs.Numbers.{number_of_point, point_of_number}
use Rattle.numbers.proofs.Answers.{answered, point_found}
use Rattle.successor.specs.Successor.{after, successor_of}

module _ (s : Shape) (ms ls is : List ℕ) (k : ℕ) (e : number_of_point s ms ls is ≡ Ok k) where
  after_number : successor_of s ms ls is ≡ Ok (after s k)
  unfolding successor_of
  after_number = let a = answered s ms ls is k e in rw (a.checked, a.number) refl

  pub successor_numbered : suc k < points_of s →
      (successor_of s ms ls is ≡ Ok (Some (point_at s (suc k)))) × (point_of_number s (suc k) ≡ Ok (point_at s (suc k)))
  unfolding after
  successor_numbered h =
      let a = answered s ms ls is k e in
      (after_number ∙ rw (lt-ltb (suc k) (points_of s) h) refl, point_found s (suc k) a.passes.shape h refl)

  pub last_has_none : points_of s ≤ suc k → successor_of s ms ls is ≡ Ok None
  unfolding after
  last_has_none h = after_number ∙ rw (le-ltb (suc k) (points_of s) h) refl
