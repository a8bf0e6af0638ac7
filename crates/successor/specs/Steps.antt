-- What the steps of the call answer: the next indices on the same levels, and the point that comes next within one sparse table and over all faces of a table
-- with values on the border.
-- Assumes nothing.
use Rattle.std.specs.Prelude.{Bool, true, false, List, ◌≡◌, ℕ, suc, ◌%◌, ◌^◌, ◌≤◌, ◌<◌, ltb, length, if◌then◌else◌, Option, Some, None}
use Rattle.naturals.specs.Sum.{sum_to}
use Rattle.numbering.specs.Point.{at}
use Rattle.numbering.specs.Number.{position}
use Rattle.numbering.specs.Count.{points}
use Rattle.numbering.specs.Inverse.{level_at, index_at}
use Rattle.faces.specs.Marked.{border_points, mark_at, border_level_at, border_index_at}
use Rattle.numbered.specs.Numbered.{unmarked}
use Rattle.points.specs.declared.Point.{Point}
use Rattle.points.specs.declared.MarkedPoint.{MarkedPoint}
use Rattle.points.specs.Points.{eight, bare_point, point_of}

-- The indices `is` of a point of d axes with the levels ls, stepped: the position one higher, or all 1 where it was the last.
pub record StepsIndices (d : ℕ) (ls is : List ℕ) (past : Bool) (next : List ℕ) : Type 0 where
  pub long : length next ≡ 8
  pub rest : (t : ℕ) → d ≤ t → at next t ≡ at is t
  pub odd : (t : ℕ) → t < d → at next t % 2 ≡ 1
  pub below : (t : ℕ) → t < d → at next t < 2 ^ suc (at ls t)
  pub higher : past ≡ false → position (at ls) (at next) d ≡ suc (position (at ls) (at is) d)
  pub last : past ≡ true → suc (position (at ls) (at is) d) ≡ 2 ^ sum_to (at ls) d
  pub ones : past ≡ true → (t : ℕ) → t < d → at next t ≡ 1

-- After number q of the sparse table of d axes and top level n: the levels and indices of the number one higher, or none past the last.
unfoldable pub next_inner : ℕ → ℕ → ℕ → Option Point
next_inner d n q = if ltb (suc q) (points d n) then Some (bare_point (level_at d n (suc q)) (index_at d n (suc q))) else None

-- After number p of a table with values on the border.
unfoldable pub next_marked : ℕ → ℕ → ℕ → Option MarkedPoint
next_marked d n p =
    if ltb (suc p) (border_points d n)
    then Some (point_of (mark_at d n (suc p)) (border_level_at d n (suc p)) (border_index_at d n (suc p)))
    else None

-- The same without a mark.
unfoldable pub unmarked_next : Option Point → Option MarkedPoint
unmarked_next None = None
unmarked_next (Some p) = Some (record { marks = eight unmarked; point = p })
