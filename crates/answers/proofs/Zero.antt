-- 0 says that the call succeeded, since no refusal has the number 0: then the arrays hold the very point, and a successor is missing after the last number only.
-- Assumes nothing.
use mathlib.Core.Bool.{Bool, true, false}
use mathlib.Core.List.{List}
use mathlib.Core.Path.{◌≡◌, refl}
use Prim.Native.Nat.{ℕ, suc, ◌<◌}
use native.Mathlib.Omega.{arith}
use lib.Dec.{ltb}
use Rattle.std.specs.Prelude.{if◌then◌else◌, Option, Some, None, Result, Ok, Err}
use Rattle.refusals.specs.declared.Refusal.{Refusal}
use Rattle.refusals.specs.declared.Refusal.TheVariants.{Axes, Level, TableLength, Rate, Axis, PointNumber, ListLength, Coordinate, NoPoint, Contents, FileEnds, FiledNumber, BytesLeft, StrayBit, AlreadyForward, NotForward, StillSampled, StillForward, TooManyPoints, Allowance, Tag, NoSlot}
use Rattle.refusals.specs.Refusals.{number_of}
use Rattle.refusals.specs.Checks.{unless, ◌and_then◌, answer, Verdict}
use Rattle.numbering.specs.Point.{at}
use Rattle.shapes.specs.declared.Shape.{Shape}
use Rattle.shapes.specs.Shapes.{check_shape, points_of}
use Rattle.grids.specs.Grids as grids
use Rattle.points.specs.declared.MarkedPoint.{MarkedPoint}
use Rattle.points.specs.Points.{check_point, point_at}
use Rattle.numbers.specs.Numbers.{point_of_number}
use Rattle.successor.specs.Successor.{after, successor_of}
use Rattle.answers.specs.Returned.{Returned}
use Rattle.answers.specs.Answers.{of_located, of_point}

pub never_zero : (r : Refusal) → 0 < number_of r
never_zero Axes = omega arith
never_zero Level = omega arith
never_zero TableLength = omega arith
never_zero (Rate point) = omega arith
never_zero (Axis axis) = omega arith
never_zero PointNumber = omega arith
never_zero ListLength = omega arith
never_zero (Coordinate axis) = omega arith
never_zero NoPoint = omega arith
never_zero Contents = omega arith
never_zero FileEnds = omega arith
never_zero FiledNumber = omega arith
never_zero BytesLeft = omega arith
never_zero StrayBit = omega arith
never_zero (AlreadyForward axis) = omega arith
never_zero (NotForward axis) = omega arith
never_zero (StillSampled axis) = omega arith
never_zero (StillForward axis) = omega arith
never_zero TooManyPoints = omega arith
never_zero Allowance = omega arith
never_zero Tag = omega arith
never_zero NoSlot = omega arith

-- The function answered 0, and the outputs are these.
abbrev pub Gives : {A : Type 0} → A → Returned A → Type 0
Gives new r = r.told.number ≡ 0 → r.outputs ≡ new

-- A point as the three arrays have it.
abbrev pub arrays : MarkedPoint → List ℕ × List ℕ × List ℕ
arrays p = (p.marks, p.point.levels, p.point.indices)

point_given : (held : List ℕ × List ℕ × List ℕ) (l : Result MarkedPoint Refusal) (v : Verdict) (p : MarkedPoint) → l ≡ answer Err v (Ok p) → Gives (arrays p) (of_point held l)
point_given held l (Ok _) p h = rw h (λ e. refl)
point_given held l (Err r) p h = rw h (λ e. absurd (omega (arith, never_zero r, e)))

pub point_of_number_gives : (held : List ℕ × List ℕ × List ℕ) (s : Shape) (p : ℕ) →
    Gives (arrays (point_at s p)) (of_point held (point_of_number s p))
unfolding point_of_number
point_of_number_gives held s p =
    point_given held (point_of_number s p) (check_shape s and_then unless (ltb p (points_of s)) PointNumber) (point_at s p) refl

-- The point, and 0; or the three arrays as they were, and 1.
abbrev pub next : List ℕ × List ℕ × List ℕ × ℕ → Bool → MarkedPoint → List ℕ × List ℕ × List ℕ × ℕ
next held true p = (p.marks, p.point.levels, p.point.indices, 0)
next held false p = (held.0, held.1, held.2, 1)

next_given : (held : List ℕ × List ℕ × List ℕ × ℕ) (l : Result (Option MarkedPoint) Refusal) (v : Verdict) (more : Bool) (p : MarkedPoint) → l ≡ answer Err v (Ok (if more then Some p else None)) →
    Gives (next held more p) (of_located held l)
next_given held l (Ok _) true p h = rw h (λ e. refl)
next_given held l (Ok _) false p h = rw h (λ e. refl)
next_given held l (Err r) more p h = rw h (λ e. absurd (omega (arith, never_zero r, e)))

module _ (s : Shape) (ms ls is : List ℕ) where
  -- The number of the point, plus one.
  abbrev raised : ℕ
  raised = suc (grids.number_of s (at ms) (at ls) (at is))

  pub successor_gives : (held : List ℕ × List ℕ × List ℕ × ℕ) →
      Gives (next held (ltb raised (points_of s)) (point_at s raised)) (of_located held (successor_of s ms ls is))
  unfolding successor_of after
  successor_gives held =
      next_given held (successor_of s ms ls is) (check_point s ms ls is) (ltb raised (points_of s)) (point_at s raised) refl
