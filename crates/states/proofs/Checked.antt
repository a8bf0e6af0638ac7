-- What a passed check of a state tells: a shape in range, no bit above its axes and a table of its points; and where all that holds it passes. Each of its
-- checks is a test of just one of these. Likewise for the check that no axis has a bit: it passes where each has the other.
-- Assumes nothing.
use Rattle.std.specs.Prelude.{Ok, Err}
use mathlib.Core.Path.{◌≡◌, refl, sym}
use mathlib.Core.Bool.{Bool, true, false, not, beq}
use Prim.Native.Nat.{ℕ, suc, ◌+◌, ◌^◌, ◌≤◌, ◌<◌}
use native.Mathlib.Numerals.{add-one}
use native.Mathlib.Omega.{arith}
use lib.Dec.{leb, ltb}
use borrow.Author.Tests.{leb-true, le-leb, lt-leb, ltb-true, lt-ltb}
use Rattle.naturals.proofs.FirstFailing.{first_none, none_first}
use Rattle.refusals.specs.declared.Refusal.{Refusal}
use Rattle.refusals.specs.declared.Refusal.TheVariants.{StrayBit}
use Rattle.refusals.specs.Checks.{◌and_then◌}
use Rattle.refusals.proofs.Passing.{first_passed, next_passed, test_passed}
use Rattle.shapes.specs.Shapes.{check_limits, check_size, points_of, check_length}
use Rattle.shapes.proofs.Checked.{InRange, parts_in_range, limits_in_range, size_passes, length_passed, length_passes}
use Rattle.states.specs.declared.State.{State}
use Rattle.states.specs.States.{has, is_other, first_axis, check_axes, check_bits, check_state}

pub record Stands (s : State) (places : ℕ) : Type 0 where
  pub range : InRange s.shape
  pub few : s.forward < 2 ^ s.shape.axes
  pub long : places ≡ points_of s.shape

module _ (s : State) where
  pub few_bits : check_bits s ≡ Ok tt → s.forward < 2 ^ s.shape.axes
  unfolding check_bits
  few_bits e = ltb-true s.forward (2 ^ s.shape.axes) (test_passed (ltb s.forward (2 ^ s.shape.axes)) StrayBit e)

  bits_pass : s.forward < 2 ^ s.shape.axes → check_bits s ≡ Ok tt
  unfolding check_bits
  bits_pass h = rw (lt-ltb s.forward (2 ^ s.shape.axes) h)

  pub state_passed : (places : ℕ) → check_state s places ≡ Ok tt → Stands s places
  unfolding check_state
  state_passed places e =
      let limits = check_limits s.shape in
      let size = check_size s.shape in
      let long = check_length s.shape places in
      let after_limits = next_passed limits (check_bits s and_then size and_then long) e in
      let after_bits = next_passed (check_bits s) (size and_then long) after_limits in
      record {
        range =
            parts_in_range s.shape
            (first_passed limits (check_bits s and_then size and_then long) e)
            (first_passed size long after_bits);
        few = few_bits (first_passed (check_bits s) (size and_then long) after_limits);
        long = length_passed s.shape places (next_passed size long after_bits);
      }

  pub state_passes : (places : ℕ) → Stands s places → check_state s places ≡ Ok tt
  unfolding check_state
  state_passes places h =
      rw (
        limits_in_range s.shape h.range,
        bits_pass h.few,
        size_passes s.shape h.range.small,
        length_passes s.shape places h.long,
      )

-- A bit that is not the one looked for is the other.
other_bit : (b bit : Bool) → not (beq b bit) ≡ true → b ≡ not bit
other_bit true true e = cc
other_bit true false e = refl
other_bit false true e = refl
other_bit false false e = cc

is_other_lem : (b bit : Bool) → b ≡ not bit → not (beq b bit) ≡ true
is_other_lem true true e = cc
is_other_lem true false e = refl
is_other_lem false true e = refl
is_other_lem false false e = cc

module _ (bit : Bool) (refusal : ℕ → Refusal) (s : State) where
  -- What it answers, by the first axis that is found.
  pub axis_found : (first : ℕ) → first ≡ first_axis bit s → first < s.shape.axes → check_axes bit refusal s ≡ Err (refusal (first + 1))
  unfolding check_axes
  axis_found first e h = rw (← e, lt-leb s.shape.axes first h, add-one first)

  pub none_found : (first : ℕ) → first ≡ first_axis bit s → s.shape.axes ≤ first → check_axes bit refusal s ≡ Ok tt
  unfolding check_axes
  none_found first e h = rw (← e, le-leb s.shape.axes first h)

  pub axes_passed : check_axes bit refusal s ≡ Ok tt → (t : ℕ) → t < s.shape.axes → has s.forward t ≡ not bit
  unfolding check_axes first_axis is_other
  axes_passed e t h =
      let d = s.shape.axes in
      let first = first_axis bit s in
      other_bit (has s.forward t) bit
      (none_first (is_other bit s.forward) d (leb-true d first (test_passed (leb d first) (refusal (suc first)) e)) t h)

  pub axes_pass : ((t : ℕ) → t < s.shape.axes → has s.forward t ≡ not bit) → check_axes bit refusal s ≡ Ok tt
  unfolding first_axis is_other
  axes_pass each =
      let d = s.shape.axes in
      none_found d (sym (first_none (is_other bit s.forward) d (λ t h. is_other_lem (has s.forward t) bit (each t h)))) (omega arith)
