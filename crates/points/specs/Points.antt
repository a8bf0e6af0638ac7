-- Points by value and in lists: what the calls on them share (document 01, "Terms and limits" and refusals 7 and 9; document 02, g: the marks).
-- Assumes nothing.
use Rattle.std.specs.Prelude.{Bool, ◌&&◌, ◌||◌, List, [], ◌∷◌, ℕ, eqb, leb, length, Result, Ok, Err}
use Rattle.refusals.specs.declared.Refusal.{Refusal}
use Rattle.refusals.specs.declared.Refusal.TheVariants.{ListLength, NoPoint}
use Rattle.refusals.specs.Checks.{unless, ◌and_then◌, answer, Verdict}
use Rattle.naturals.specs.Test.{all}
use Rattle.numbering.specs.Point.{at, is_point}
use Rattle.shapes.specs.declared.Shape.{Shape}
use Rattle.shapes.specs.Shapes.{check_shape}
use Rattle.grids.specs.Grids.{mark_on, level_on, index_on}
use Rattle.points.specs.declared.Point.{Point}
use Rattle.points.specs.declared.MarkedPoint.{MarkedPoint}

-- On an axis of level l and index i the mark a fits: 0, inside; or, where there are values on the border, 1 or 2 with level 0 and index 1.
unfoldable pub mark_fits : Bool → ℕ → ℕ → ℕ → Bool
mark_fits border a l i = eqb a 0 || border && leb a 2 && eqb l 0 && eqb i 1

-- The mark on axis t fits.
unfoldable pub fitting : Bool → (ℕ → ℕ) → (ℕ → ℕ) → (ℕ → ℕ) → ℕ → Bool
fitting border m l i t = mark_fits border (m t) (l t) (i t)

-- Marks, levels and indices are lists of length d (else 7); levels and indices name a point, and each mark fits (else 9).
unfoldable pub check_lists : Shape → List ℕ → List ℕ → List ℕ → Verdict
check_lists s ms ls is =
    unless (eqb (length ms) s.axes && eqb (length ls) s.axes && eqb (length is) s.axes) ListLength
    and_then unless (is_point s.axes s.level (at ls) (at is) && all (fitting s.border (at ms) (at ls) (at is)) s.axes) NoPoint

-- A point handed in as three lists: refused with 1, 2, 19, 7 or 9.
unfoldable pub check_point : Shape → List ℕ → List ℕ → List ℕ → Verdict
check_point s ms ls is = check_shape s and_then check_lists s ms ls is

-- A number for each of the eight axes there can be.
unfoldable pub eight : (ℕ → ℕ) → List ℕ
eight f = f 0 ∷ f 1 ∷ f 2 ∷ f 3 ∷ f 4 ∷ f 5 ∷ f 6 ∷ f 7 ∷ []

-- These levels and indices by value; and a point by value, with its marks too.
abbrev pub bare_point : (ℕ → ℕ) → (ℕ → ℕ) → Point
bare_point l i = record { levels = eight l; indices = eight i }

abbrev pub point_of : (ℕ → ℕ) → (ℕ → ℕ) → (ℕ → ℕ) → MarkedPoint
point_of m l i = record { marks = eight m; point = bare_point l i }

-- The levels and indices of a point handed in as three lists, by value. Of a shape that passes, it is refused with 7 or 9.
unfoldable pub point_in : Shape → List ℕ → List ℕ → List ℕ → Result Point Refusal
point_in s ms ls is = answer Err (check_lists s ms ls is) (Ok (bare_point (at ls) (at is)))

unfoldable pub point_from : Shape → List ℕ → List ℕ → List ℕ → Result Point Refusal
point_from s ms ls is = answer Err (check_point s ms ls is) (Ok (bare_point (at ls) (at is)))

-- Point number p of a shape, places past axis d zero.
unfoldable pub point_at : Shape → ℕ → MarkedPoint
point_at s p = point_of (mark_on s p) (level_on s p) (index_on s p)
