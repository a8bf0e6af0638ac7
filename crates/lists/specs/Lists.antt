-- The work of a turn on one level list (document 02, d), and what the whole turn leaves there.
-- Assumes nothing.
use Rattle.std.specs.Prelude.{Bool, true, false, List, ◌≡◌, ◌⊎◌, ℕ, suc, ◌+◌, ◌^◌, ◌≤◌, ◌<◌, ℤ}
use Rattle.naturals.specs.Sum.{sum_to}
use Rattle.integers.specs.Half.{odd_of, stepped}
use Rattle.numbering.specs.Number.{first_of}
use Rattle.hierarchy.specs.Turns.{value_at, values_of, sum_on}
use Rattle.hierarchy.specs.Work.{mixed}
use Rattle.shapes.specs.declared.Shape.{Shape}
use Rattle.shapes.specs.Shapes.{points_of}
use Rattle.grids.specs.Grids.{neighbour}
use Rattle.grids.specs.Turned.{turned_table, former_table}

-- What a whole turn leaves, forward (true) or back (false).
unfoldable pub whole_turn : Bool → Shape → ℕ → List ℤ → List ℤ
whole_turn true s t xs = turned_table s t xs
whole_turn false s t xs = former_table s t xs

-- The points from number lo to hi − 1 hold one table, the others another.
unfoldable pub between : ℕ → ℕ → (ℕ → ℤ) → (ℕ → ℤ) → ℕ → ℤ
between lo hi f g = mixed lo g (mixed hi f g)

-- The table with what a whole turn leaves at the points from number lo to hi − 1; the other places hold what they held.
unfoldable pub turned_between : Bool → Shape → ℕ → ℕ → ℕ → List ℤ → List ℤ
turned_between ahead s t lo hi xs = values_of (points_of s) (between lo hi (value_at (whole_turn ahead s t xs)) (value_at xs))

-- The value at a code after a step there, its parents' sum read in the same table.
unfoldable pub stepped_at : Bool → Shape → ℕ → (ℕ → ℤ) → ℕ → ℤ
stepped_at ahead s t f p = stepped ahead (f p) (sum_on (neighbour s) t f p)

-- The table with a step at each point from number lo to hi − 1; the other places hold what they held.
unfoldable pub stepped_between : Bool → Shape → ℕ → ℕ → ℕ → List ℤ → List ℤ
stepped_between ahead s t lo hi xs = values_of (points_of s) (between lo hi (stepped_at ahead s t (value_at xs)) (value_at xs))

-- In the face of k inner axes from number `base` on: the number of a level list's first point, and the number after its last one. (With a zero border the
-- table is the face of all its axes from number 0 on.)
abbrev pub first_in : ℕ → ℕ → (ℕ → ℕ) → ℕ
first_in base k l = base + first_of k l

abbrev pub end_of : ℕ → ℕ → (ℕ → ℕ) → ℕ
end_of base k l = first_in base k l + 2 ^ sum_to l k

-- The work on its level list l: a step at each of its points, all together.
unfoldable pub list_worked : Bool → Shape → ℕ → ℕ → ℕ → (ℕ → ℕ) → List ℤ → List ℤ
list_worked ahead s t base k l xs = stepped_between ahead s t (first_in base k l) (end_of base k l) xs

-- The sum of the parents of point number p: 1 where it is odd, else 0; and how many of the first m points have an odd sum.
unfoldable pub odd_at : Shape → ℕ → List ℤ → ℕ → ℕ
odd_at s t xs p = odd_of (sum_on (neighbour s) t (value_at xs) (suc p))

unfoldable pub odd_sums : Shape → ℕ → List ℤ → ℕ → ℕ
odd_sums s t xs m = sum_to (odd_at s t xs) m

-- The table in which a turn that started from xs comes to the level list l. Forward, from the last list down: the lists after it hold what the whole turn
-- leaves. Back, from the first list up: the lists before it do. All others hold what they held.
unfoldable pub came_to : Bool → Shape → ℕ → ℕ → ℕ → (ℕ → ℕ) → List ℤ → List ℤ
came_to true s t base k l xs = turned_between true s t (end_of base k l) (points_of s) xs
came_to false s t base k l xs = turned_between false s t 0 (first_in base k l) xs

-- The work on a list: its points then hold what the whole turn leaves them, and no other place changes.
pub record ListTurned (ahead : Bool) (s : Shape) (t base k : ℕ) (l : ℕ → ℕ) (xs before after : List ℤ) : Type 0 where
  pub holds : (p : ℕ) → first_in base k l ≤ p → p < end_of base k l → value_at after (suc p) ≡ value_at (whole_turn ahead s t xs) (suc p)
  pub others : (p : ℕ) → (p < first_in base k l) ⊎ (end_of base k l ≤ p) → value_at after (suc p) ≡ value_at before (suc p)
