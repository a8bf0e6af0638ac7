-- As the call answers: the exact value of the surface lies within the answered margin of the answered estimate, and the estimate and every refusal are those of
-- the call for the estimate alone. True of the surface; and both calls have the same checks.
-- Assumes nothing.
use Rattle.std.specs.Prelude.{Ok, Err}
use mathlib.Core.Path.{◌≡◌, refl, subst}
use mathlib.Core.List.{List}
use Prim.Native.Nat.{ℕ}
use lib.IntN.{ℤ}
use Rattle.refusals.specs.Checks.{answer, Verdict}
use Rattle.refusals.proofs.Passing.{result_passed}
use Rattle.numbering.specs.Point.{at}
use Rattle.hierarchy.specs.Turns.{value_at}
use Rattle.grids.specs.Grids.{numbered}
use Rattle.surfaces.specs.Weights.{unit}
use Rattle.surfaces.specs.Surface.{exact_value, estimate_at}
use Rattle.surfaces.specs.Margin.{WithinMargin, DiffersByAtMost, WithinUnit}
use Rattle.surfaces.proofs.Margin.{within_margin, within_whole}
use Rattle.states.specs.declared.State.{State}
use Rattle.estimates.specs.declared.Estimated.{Estimated}
use Rattle.estimates.specs.Estimates.{check_estimate, estimate_in_unit, estimate}
use Rattle.estimates.specs.Margin.{estimated_at, estimate_with_margin, alone}
use Rattle.estimates.proofs.Answering.{listed}

module _ (s : State) (table : List ℤ) (xs : List ℕ) where
  -- Estimate and refusals are those of the other call.
  pub same_estimate : alone (estimate_with_margin s table xs) ≡ estimate s table xs
  unfolding estimate_with_margin estimate_in_unit
  same_estimate = each (check_estimate unit s table xs)
    where
      each : (v : Verdict) →
          alone (answer Err v (Ok (estimated_at s.shape (value_at table) (at xs)))) ≡ answer Err v (Ok (estimate_at s.shape (value_at table) (at xs)))
      each (Ok _) = refl
      each (Err r) = refl

  module _ (e : Estimated) (answered : estimate_with_margin s table xs ≡ Ok e) where
    found : (check_estimate unit s table xs ≡ Ok tt) × (estimated_at s.shape (value_at table) (at xs) ≡ e)
    unfolding estimate_with_margin
    found = result_passed (check_estimate unit s table xs) (estimated_at s.shape (value_at table) (at xs)) e answered

    -- The coordinates passed the check.
    coordinates : WithinUnit unit (numbered s.shape) (at xs)
    coordinates t axis on = (listed s table xs found.0).coordinates t axis

    -- The exact value lies within the margin of the estimate.
    pub answer_within : DiffersByAtMost e.margin e.estimate (exact_value s.shape (value_at table) (at xs))
    answer_within =
        subst (λ (f : Estimated). DiffersByAtMost f.margin f.estimate (exact_value s.shape (value_at table) (at xs))) found.1
        (within_whole s.shape (value_at table) (at xs) coordinates)

    -- And within the margin that is not rounded up, of the S that is answered.
    pub answer_bound : WithinMargin unit s.shape.axes e.absolute_sum e.estimate (exact_value s.shape (value_at table) (at xs))
    answer_bound =
        subst
        (λ (f : Estimated). WithinMargin unit s.shape.axes f.absolute_sum f.estimate (exact_value s.shape (value_at table) (at xs)))
        found.1
        (within_margin s.shape (value_at table) (at xs) coordinates)
