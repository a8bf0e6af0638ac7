-- What the call for an estimate answers (document 01, "Estimates" and the two tables of refusals).
-- Assumes nothing.
use Rattle.refusals.specs.declared.Refusal.{Refusal}
use Rattle.std.specs.Prelude.{Bool, false, List, ℕ, suc, leb, eqb, ℤ, length, Result, Ok, Err}
use Rattle.naturals.specs.Test.{all}
use Rattle.naturals.specs.FirstFailing.{first_failing}
use Rattle.refusals.specs.declared.Refusal.TheVariants.{ListLength, Coordinate, Contents, StillSampled}
use Rattle.refusals.specs.Checks.{unless, ◌and_then◌, answer, Verdict}
use Rattle.integers.specs.Half.{content_at}
use Rattle.numbering.specs.Point.{at}
use Rattle.hierarchy.specs.Turns.{value_at}
use Rattle.grids.specs.Grids.{numbered}
use Rattle.surfaces.specs.Weights.{unit, is_coordinate}
use Rattle.surfaces.specs.Surface.{estimate_in}
use Rattle.states.specs.declared.State.{State}
use Rattle.states.specs.States.{check_axes, check_state}

-- Every axis is forward, else refused with 17 and the first that is not.
unfoldable pub check_forward : State → Verdict
check_forward s = check_axes false StillSampled s

-- What reads a coordinate is said of any unit u (document 02, e, speaks of two).

-- The coordinate on axis t, counted from 0, is at most the unit.
unfoldable pub inside_at : ℕ → List ℕ → ℕ → Bool
inside_at u xs t = is_coordinate u (at xs t)

-- The first axis where it is not, counted from 0, or d.
unfoldable pub first_outside : ℕ → ℕ → List ℕ → ℕ
first_outside u d xs = first_failing (inside_at u xs) d

-- There is a coordinate for each axis, else refused with 7; each is at most the unit, else with 8 and the first axis where it is not.
unfoldable pub check_coordinates : ℕ → ℕ → List ℕ → Verdict
check_coordinates u d xs =
    unless (eqb (length xs) d) ListLength
    and_then unless (leb d (first_outside u d xs)) (Coordinate (suc (first_outside u d xs)))

-- The checks of an estimate: 1, 2, 14, 19, 3, 17, 7, 8, and 10 where any value is past the content limit.
unfoldable pub check_estimate : ℕ → State → List ℤ → List ℕ → Verdict
check_estimate u s table xs =
    check_state s (length table)
    and_then check_forward s
    and_then check_coordinates u s.shape.axes xs
    and_then unless (all (content_at table) (length table)) Contents

-- The answer in the unit u: the estimate, or the refusal of the first check that refuses.
unfoldable pub estimate_in_unit : ℕ → State → List ℤ → List ℕ → Result ℤ Refusal
estimate_in_unit u s table xs =
    answer Err (check_estimate u s table xs) (Ok (estimate_in u (numbered s.shape) (value_at table) (at xs)))

-- What the call answers.
abbrev pub estimate : State → List ℤ → List ℕ → Result ℤ Refusal
estimate = estimate_in_unit unit
