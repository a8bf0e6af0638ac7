-- What the steps of a level list ask and leave.
-- Assumes nothing.
use Rattle.std.specs.Prelude.{Bool, List, ◌≡◌, ◌⊎◌, ℕ, suc, ◌+◌, ◌*◌, ◌^◌, ◌≤◌, ◌<◌, ℤ, ◌+ℤ◌, nat_abs, length, Option, Some}
use Rattle.naturals.specs.Sum.{sum_to}
use Rattle.integers.specs.Half.{odd_of, stepped}
use Rattle.numbering.specs.declared.Side.{Side}
use Rattle.hierarchy.specs.Turns.{value_at}
use Rattle.shapes.specs.declared.Shape.{Shape}
use Rattle.shapes.specs.Shapes.{points_of}
use Rattle.neighbours.specs.declared.subspaces.Subspace.{Subspace}
use Rattle.neighbours.specs.declared.facets.Rims.{Rims}
use Rattle.neighbours.specs.Facets.{rim_on, across}
use Rattle.neighbours.specs.Steps.{Below}
use Rattle.lists.specs.Lists.{odd_sums, stepped_at}

-- Place t of a shape within the limits, and a table of its points.
pub record OnAxis (sh : Shape) (t : ℕ) (xs : List ℤ) : Type 0 where
  pub few : sh.axes ≤ 8
  pub low : sh.level ≤ 8
  pub place : t < sh.axes
  pub long : length xs ≡ points_of sh

-- All values of a table are at most b from zero.
abbrev pub NoLarger : ℕ → List ℤ → Type 0
NoLarger b xs = (code : ℕ) → nat_abs (value_at xs code) ≤ b

-- A table of a shape, all its values at most b from zero. (What a turn asks is said of the table and not by a type around it: the table is the buffer that is lent.)
abbrev pub TableOf : Shape → ℕ → List ℤ → Type 0
TableOf s b xs = (length xs ≡ points_of s) × NoLarger b xs

-- The value of the i-th of the points from number a on.
abbrev pub value_in : List ℤ → ℕ → ℕ → ℤ
value_in xs a i = value_at xs (suc (a + i))

-- The values of the w points from number a on leave room in 64 bits for a sum of two and for a step.
abbrev pub RoomIn : ℕ → ℕ → List ℤ → Type 0
RoomIn a w xs = (i : ℕ) → i < w → nat_abs (value_in xs a i) ≤ 2 ^ 61

-- The w points from number a on, read for a run of as many from number x on: they are none of the run, and there is room.
pub record Source (x w a : ℕ) (xs : List ℤ) : Type 0 where
  pub clear : (a + w ≤ x) ⊎ (x + w ≤ a)
  pub inside : a + w ≤ length xs
  pub room : RoomIn a w xs

-- The same of the points across the border on one side, where there are any.
abbrev pub SourceAcross : ℕ → ℕ → Side → Option Rims → List ℤ → Type 0
SourceAcross x w b rims xs = (r : Rims) → rims ≡ Some r → Source x w (rim_on r b) xs

-- The sum of the parents of the i-th point of a run beside the border: what lies across it, and the point from number a on.
abbrev pub edge_sum : List ℤ → Side → Option Rims → ℕ → ℕ → ℤ
edge_sum xs b rims a i = value_at xs (across rims b i) +ℤ value_in xs a i

-- A run: the w points from number x on, each with the sum of its parents' values. Each is stepped by its sum, the other places hold what they held, and k of
-- the sums are odd.
pub record RunStepped (ahead : Bool) (x w : ℕ) (sum : ℕ → ℤ) (xs : List ℤ) (k : ℕ) (ys : List ℤ) : Type 0 where
  pub long : length ys ≡ length xs
  pub on : (i : ℕ) → i < w → value_at ys (suc (x + i)) ≡ stepped ahead (value_at xs (suc (x + i))) (sum i)
  pub off : (p : ℕ) → (p < x) ⊎ (x + w ≤ p) → value_at ys (suc p) ≡ value_at xs (suc p)
  pub odds : k ≡ sum_to (λ i. odd_of (sum i)) w

-- Points from number lo to hi − 1: each is stepped, the other places hold what they held, and k of the sums are odd.
pub record Stepped (ahead : Bool) (s : Shape) (t lo hi : ℕ) (xs : List ℤ) (k : ℕ) (ys : List ℤ) : Type 0 where
  pub long : length ys ≡ length xs
  pub on : (p : ℕ) → lo ≤ p → p < hi → value_at ys (suc p) ≡ stepped_at ahead s t (value_at xs) (suc p)
  pub off : (p : ℕ) → (p < lo) ⊎ (hi ≤ p) → value_at ys (suc p) ≡ value_at xs (suc p)
  pub odds : odd_sums s t xs lo + k ≡ odd_sums s t xs hi

-- A level vector with the first numbers of those below it, and a table in which its points before number x may have moved: at the others and at the points
-- apart from it, where their parents are, there is room for a step.
pub record Workable (v : Subspace) (starts : List ℕ) (x : ℕ) (xs : List ℤ) : Type 0 where
  pub below : Below v starts
  pub axis : OnAxis v.facet.line.shape v.facet.line.place xs
  pub room : (p : ℕ) → (p < v.start) ⊎ (x ≤ p) → nat_abs (value_at xs (suc p)) ≤ 2 ^ 61

-- A block: the points to whose position the axes beyond add `beyond`, from number x on.
pub record BlockAt (v : Subspace) (x beyond : ℕ) : Type 0 where
  pub first : x ≡ v.start + beyond * 2 ^ (v.low + v.own)
  pub inside : x < v.end
