-- What the call for an estimate with its margin answers (document 02, f): the estimate, S and the margin rounded up to a whole number, refused as the
-- estimate is.
-- Assumes nothing.
use Rattle.refusals.specs.declared.Refusal.{Refusal}
use Rattle.std.specs.Prelude.{List, ℕ, ℤ, Result, Ok, Err}
use Rattle.refusals.specs.Checks.{answer}
use Rattle.numbering.specs.Point.{at}
use Rattle.hierarchy.specs.Turns.{value_at}
use Rattle.shapes.specs.declared.Shape.{Shape}
use Rattle.surfaces.specs.Weights.{unit}
use Rattle.surfaces.specs.Surface.{estimate_at}
use Rattle.surfaces.specs.Margin.{margin, absolute_sum_at}
use Rattle.states.specs.declared.State.{State}
use Rattle.estimates.specs.declared.Estimated.{Estimated}
use Rattle.estimates.specs.Estimates.{check_estimate}

-- The three numbers for the coefficients c at the coordinates x.
abbrev pub estimated_at : Shape → (ℕ → ℤ) → (ℕ → ℕ) → Estimated
estimated_at s c x =
    record { estimate = estimate_at s c x; absolute_sum = absolute_sum_at s c x; margin = margin unit s.axes (absolute_sum_at s c x) }

-- What the call answers.
unfoldable pub estimate_with_margin : State → List ℤ → List ℕ → Result Estimated Refusal
estimate_with_margin s table xs =
    answer Err (check_estimate unit s table xs) (Ok (estimated_at s.shape (value_at table) (at xs)))

-- The estimate of an answer, without the other two.
abbrev pub alone : Result Estimated Refusal → Result ℤ Refusal
alone (Ok e) = Ok e.estimate
alone (Err r) = Err r
