-- What the checks of an estimate tell where they pass: all that the sum asks. And where they pass, the estimate is the answer; where one refuses, it is that refusal.
-- Assumes nothing.
use Rattle.std.specs.Prelude.{Ok, Err}
use mathlib.Core.Path.{◌≡◌}
use mathlib.Core.Bool.{true, false}
use mathlib.Core.List.{List}
use Prim.Native.Nat.{ℕ, suc, ◌≤◌, ◌<◌}
use native.Mathlib.Omega.{arith}
use lib.Dec.{leb, eqb}
use lib.IntN.{ℤ}
use lib.ListN.{length}
use borrow.Author.Tests.{leb-true, eqb-true}
use Rattle.naturals.specs.Test.{all}
use Rattle.naturals.proofs.Tests.{all_at}
use Rattle.naturals.proofs.FirstFailing.{none_first}
use Rattle.refusals.specs.declared.Refusal.{Refusal}
use Rattle.refusals.specs.declared.Refusal.TheVariants.{ListLength, Coordinate, Contents}
use Rattle.refusals.specs.Checks.{unless, ◌and_then◌, Verdict}
use Rattle.refusals.proofs.Passing.{first_passed, next_passed, test_passed}
use Rattle.integers.specs.Half.{content_at}
use Rattle.numbering.specs.Point.{at}
use Rattle.hierarchy.specs.Turns.{value_at}
use Rattle.shapes.proofs.Checked.{InRange}
use Rattle.shapes.proofs.Layers.{most_bordered}
use Rattle.surfaces.specs.Weights.{unit, is_coordinate}
use Rattle.surfaces.specs.Surface.{estimate_at}
use Rattle.states.specs.declared.State.{State}
use Rattle.states.specs.States.{check_state}
use Rattle.states.proofs.Checked.{Stands, state_passed}
use Rattle.evaluation.specs.Steps.{Listed, Evaluable}
use Rattle.estimates.specs.Estimates.{check_forward, inside_at, first_outside, check_coordinates, check_estimate, estimate_in_unit, estimate}

-- Where no coordinate is outside, each is at most the unit.
each_inside : (d : ℕ) (cs : List ℕ) → d ≤ first_outside unit d cs → (t : ℕ) → t < d → at cs t ≤ unit
unfolding first_outside inside_at is_coordinate
each_inside d cs le t h = leb-true (at cs t) unit (none_first (inside_at unit cs) d le t h)

module _ (s : State) (xs : List ℤ) (cs : List ℕ) (passed : check_estimate unit s xs cs ≡ Ok tt) where
  abbrev d : ℕ
  d = s.shape.axes

  -- The four checks in a row.
  abbrev first : Verdict
  first = check_state s (length xs)

  abbrev second : Verdict
  second = check_forward s

  abbrev third : Verdict
  third = check_coordinates unit d cs

  abbrev fourth : Verdict
  fourth = unless (all (content_at xs) (length xs)) Contents

  in_a_row : first and_then second and_then third and_then fourth ≡ Ok tt
  unfolding check_estimate
  in_a_row = passed

  after_first : second and_then third and_then fourth ≡ Ok tt
  after_first = next_passed first (second and_then third and_then fourth) in_a_row

  after_second : third and_then fourth ≡ Ok tt
  after_second = next_passed second (third and_then fourth) after_first

  stands : Stands s (length xs)
  stands = state_passed s (length xs) (first_passed first (second and_then third and_then fourth) in_a_row)

  pub in_range : InRange s.shape
  in_range = stands.range

  pub listed : Listed d cs
  unfolding check_coordinates
  listed =
      let lengths = unless (eqb (length cs) d) ListLength in
      let places = unless (leb d (first_outside unit d cs)) (Coordinate (suc (first_outside unit d cs))) in
      let both : lengths and_then places ≡ Ok tt = first_passed third fourth after_second in
      record {
        few = in_range.high;
        long = eqb-true (length cs) d (test_passed (eqb (length cs) d) ListLength (first_passed lengths places both));
        coordinates =
            each_inside d cs
            (leb-true d (first_outside unit d cs)
            (test_passed (leb d (first_outside unit d cs)) (Coordinate (suc (first_outside unit d cs))) (next_passed lengths places both)));
      }

  contents : all (content_at xs) (length xs) ≡ true
  contents = test_passed (all (content_at xs) (length xs)) Contents (next_passed third fourth after_second)

  pub evaluable : Evaluable s.shape xs cs
  unfolding content_at value_at
  evaluable =
      record {
        some = in_range.low;
        low = in_range.top;
        most = most_bordered in_range;
        small = in_range.small;
        long = stands.long;
        contents = λ p lt. all_at (content_at xs) (length xs) contents p (omega (arith, stands));
        listed = listed;
      }

-- The checks pass where each does, and then the estimate is the answer.
pub estimate_answered : (s : State) (xs : List ℤ) (cs : List ℕ) → check_state s (length xs) ≡ Ok tt → check_forward s ≡ Ok tt →
    check_coordinates unit s.shape.axes cs ≡ Ok tt → all (content_at xs) (length xs) ≡ true →
    estimate s xs cs ≡ Ok (estimate_at s.shape (value_at xs) (at cs))
unfolding estimate_in_unit check_estimate
estimate_answered s xs cs e f g h = rw (e, f, g, h)

-- What the first check that refuses refuses, the estimate does: a state,
pub unchecked : (s : State) (xs : List ℤ) (cs : List ℕ) (r : Refusal) → check_state s (length xs) ≡ Err r → estimate s xs cs ≡ Err r
unfolding estimate_in_unit check_estimate
unchecked s xs cs r e = rw e

module _ (s : State) (xs : List ℤ) (cs : List ℕ) (e : check_state s (length xs) ≡ Ok tt) where
  -- an axis that is not forward,
  pub half_turned : (r : Refusal) → check_forward s ≡ Err r → estimate s xs cs ≡ Err r
  unfolding estimate_in_unit check_estimate
  half_turned r f = rw (e, f)

  module _ (f : check_forward s ≡ Ok tt) where
    -- a list of coordinates or a place outside of the grid,
    pub outside : (r : Refusal) → check_coordinates unit s.shape.axes cs ≡ Err r → estimate s xs cs ≡ Err r
    unfolding estimate_in_unit check_estimate
    outside r g = rw (e, f, g)

    -- and contents over the limit.
    pub past_limit : check_coordinates unit s.shape.axes cs ≡ Ok tt → all (content_at xs) (length xs) ≡ false → estimate s xs cs ≡ Err Contents
    unfolding estimate_in_unit check_estimate
    past_limit g h = rw (e, f, g, h)
