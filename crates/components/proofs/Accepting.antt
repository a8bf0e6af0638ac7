-- Rates are accepted on a grid exactly where the check passes, since it tests just what the record says. Then the call passes: so nothing but 1, 2, 19, 3 and 4 is
-- ever answered, and 10 never is.
-- Assumes nothing.
use Rattle.std.specs.Prelude.{Ok, Err}
use mathlib.Core.Path.{◌≡◌, refl, ap, sym, ◌∙◌}
use mathlib.Core.Bool.{Bool, true, false, ◌&&◌}
use mathlib.Core.List.{List}
use Prim.Native.Nat.{ℕ}
use native.Mathlib.Omega.{arith}
use lib.Dec.{leb, eqb}
use lib.IntN.{ℤ}
use lib.ListN.{length}
use borrow.Author.Tests.{eqb-true, eq-eqb}
use Rattle.naturals.specs.Test.{all}
use Rattle.naturals.specs.FirstFailing.{Passes, first_failing}
use Rattle.refusals.specs.declared.Refusal.{Refusal}
use Rattle.refusals.specs.declared.Refusal.TheVariants.{Axes, Level, TableLength, TooManyPoints, Rate, Contents}
use Rattle.refusals.specs.Refusals.{number_of}
use Rattle.refusals.specs.Checks.{unless, ◌and_then◌, Verdict}
use Rattle.refusals.proofs.Passing.{first_passed, next_passed, test_passed}
use Rattle.shapes.specs.Shapes.{most_points}
use Rattle.states.specs.After.{left, left_by}
use Rattle.tables.specs.Tables.{rate_at, check_rates}
use Rattle.tables.proofs.Checking.{rate_place, rates_passed, rates_pass}
use Rattle.components.specs.Components.{low_at, check_levels, grid_points, check_grid, check_component, component_table, component_coefficients}
use Rattle.components.specs.Accepted.{AcceptedOn}

module _ (ls : List ℕ) (rs : List ℤ) where
  abbrev long : Verdict
  long = unless (eqb (length rs) (grid_points ls)) TableLength

  pub passed_accepted : check_component ls rs ≡ Ok tt → AcceptedOn ls rs
  unfolding check_component
  passed_accepted e =
      let rest = next_passed (check_grid ls) (long and_then check_rates rs) e in
      let places = eqb-true (length rs) (grid_points ls) (test_passed (eqb (length rs) (grid_points ls)) TableLength (first_passed long (check_rates rs) rest)) in
      record {
        grid = first_passed (check_grid ls) (long and_then check_rates rs) e;
        long = places;
        each = λ p h. sym (rate_place rs p) ∙ rates_passed rs (next_passed long (check_rates rs) rest) p (omega (arith, places));
      }

  module _ (a : AcceptedOn ls rs) where
    pub accepted_rates : Passes (rate_at rs) (length rs)
    accepted_rates p h = rate_place rs p ∙ a.each p (omega (arith, a.long))

    pub accepted_passed : check_component ls rs ≡ Ok tt
    unfolding check_component
    accepted_passed =
        rw (
          a.grid,
          eq-eqb (length rs) (grid_points ls) a.long,
          rates_pass rs accepted_rates,
        )

    -- Accepted rates have coefficients.
    pub component_accepted : component_coefficients ls rs ≡ left (Ok tt) (component_table ls rs)
    unfolding component_coefficients
    component_accepted = rw accepted_passed

-- ---- 10 never occurs

-- The refusal has another number.
abbrev NotTen : Verdict → Type 0
NotTen v = v ≡ Err Contents → ⊥

number : Verdict → ℕ
number (Ok _) = 0
number (Err r) = number_of r

unless_other : (b : Bool) (r : Refusal) → (number_of r ≡ 10 → ⊥) → NotTen (unless b r)
unfolding number
unless_other true r other e = omega (arith, ap number e)
unless_other false r other e = other (ap number e)

then_other : (v w : Verdict) → NotTen v → NotTen w → NotTen (v and_then w)
then_other (Ok _) w first next = next
then_other (Err r) w first next = first

left_verdict : (xs ys : List ℤ) (v : Verdict) → (left_by xs v ys).verdict ≡ v
left_verdict xs ys (Ok _) = refl
left_verdict xs ys (Err r) = refl

module _ (ls : List ℕ) (xs : List ℤ) where
  grid_other : NotTen (check_grid ls)
  unfolding check_grid check_levels
  grid_other =
      let few = leb 1 (length ls) && leb (length ls) 8 in
      let low = all (low_at ls) (length ls) in
      let small = leb (grid_points ls) most_points in
      then_other (check_levels ls) (unless small TooManyPoints)
      (then_other (unless few Axes) (unless low Level) (unless_other few Axes (λ n. omega arith)) (unless_other low Level (λ n. omega arith)))
      (unless_other small TooManyPoints (λ n. omega arith))

  rates_other : NotTen (check_rates xs)
  unfolding check_rates
  rates_other =
      let first = first_failing (rate_at xs) (length xs) in
      unless_other (leb (length xs) first) (Rate first) (λ n. omega arith)

  -- The call is never refused with 10.
  pub component_never_contents : (component_coefficients ls xs).verdict ≡ Err Contents → ⊥
  unfolding component_coefficients check_component
  component_never_contents e =
      then_other (check_grid ls) (long ls xs and_then check_rates xs) grid_other
      (then_other (long ls xs) (check_rates xs) (unless_other (eqb (length xs) (grid_points ls)) TableLength (λ n. omega arith)) rates_other)
      (sym (left_verdict xs (component_table ls xs) (check_component ls xs)) ∙ e)
