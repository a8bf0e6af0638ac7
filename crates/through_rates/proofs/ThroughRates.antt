-- In the words of the calls: the surface of the coefficients of accepted rates passes through every rate, no other coefficients have such a surface, and after a
-- forward turn the sums on the lines along its axis are the values before it, and those of no other values on a line. From the same of tables as functions, which
-- the lists of the calls hold.
-- Assumes nothing.
use Rattle.std.specs.Prelude.{Ok}
use mathlib.Core.Path.{◌≡◌, ap, sym, ◌∙◌}
use mathlib.Core.Bool.{true, ◌&&◌}
use mathlib.Core.List.{List}
use Prim.Native.Nat.{ℕ, suc, ◌-◌, ◌^◌, ◌<◌}
use native.Mathlib.Omega.{arith}
use lib.IntN.{ℤ, pos, ◌*ℤ◌}
use lib.ListN.{length, get_or}
use lib.Seq.{ext_get_or}
use Rattle.naturals.proofs.Tests.{and_left, and_right, all_at}
use Rattle.integers.specs.Half.{is_even, in_limit}
use Rattle.hierarchy.specs.Grid.{Neighbours}
use Rattle.hierarchy.specs.Turns.{value_at, sum_on, forward, accepted_at, accepted}
use Rattle.hierarchy.proofs.Values.{value_zero, value_suc}
use Rattle.shapes.specs.declared.Shape.{Shape}
use Rattle.shapes.specs.Shapes.{points_of}
use Rattle.shapes.proofs.Checked.{InRange, passed_in_range}
use Rattle.grids.specs.Grids.{neighbour}
use Rattle.grids.proofs.Turned.{turned_holds}
use Rattle.surfaces.specs.Weights.{unit}
use Rattle.surfaces.specs.Surface.{coordinates_of, exact_value, Exactly}
use Rattle.surfaces.specs.Lines.{line_sum}
use Rattle.surfaces.proofs.Interpolates.{surface_through, only_surface, line_through}
use Rattle.states.specs.declared.State.{State}
use Rattle.states.specs.After.{after}
use Rattle.tables.specs.Tables.{times}
use Rattle.turns.specs.Turns.{is_accepted, forward_turn}
use Rattle.turns.proofs.Checking.{place_of}
use Rattle.turns.proofs.BothWays.{went_forward}
use Rattle.turns.proofs.Lines.{OnLine, along}
use Rattle.whole.specs.Accepted.{Accepted}
use Rattle.whole.specs.Whole.{coefficients_of}
use Rattle.whole.proofs.Inverse.{coefficients_length}
use Rattle.whole.proofs.AnswersDown.{coefficient_at}
use Rattle.through_rates.proofs.LineValues.{line_determines}

module _ (s : Shape) (rs : List ℤ) (a : Accepted s rs) where
  range : InRange s
  range = passed_in_range s a.shape

  -- The surface passes through every rate, times 2^d.
  pub surface_of_coefficients : (q : ℕ) → q < points_of s →
      Exactly (exact_value s (value_at (coefficients_of s rs)) (coordinates_of s q))
      (times s.axes (get_or rs q (pos 0)))
  unfolding times
  surface_of_coefficients q h =
      surface_through s range.low (omega (arith, range)) (value_at (coefficients_of s rs)) (value_at rs) (value_zero rs)
      (coefficient_at s rs) q h
      ∙ ap (λ (z : ℤ). z *ℤ pos (2 ^ s.axes) *ℤ pos (unit ^ s.axes)) (value_suc rs q)

  -- No other coefficients have such a surface.
  pub only_coefficients_through : (xs : List ℤ) → length xs ≡ points_of s →
      ((q : ℕ) → q < points_of s →
      Exactly (exact_value s (value_at xs) (coordinates_of s q))
      (times s.axes (get_or rs q (pos 0)))) →
      xs ≡ coefficients_of s rs
  unfolding times
  only_coefficients_through xs long through =
      ext_get_or (pos 0) xs (coefficients_of s rs) (long ∙ sym (coefficients_length s rs))
      (λ i h. at_place i (omega arith))
    where
      at_place : (i : ℕ) → i < points_of s → get_or xs i (pos 0) ≡ get_or (coefficients_of s rs) i (pos 0)
      at_place i h =
          sym (value_suc xs i)
          ∙ only_surface s range.low (omega (arith, range)) (value_at xs) (value_at rs) (value_zero rs)
          (λ q lt.
          through q lt ∙ ap (λ (z : ℤ). z *ℤ pos (2 ^ s.axes) *ℤ pos (unit ^ s.axes)) (sym (value_suc rs q)))
          i h
          ∙ sym (coefficient_at s rs i h)
          ∙ value_suc (coefficients_of s rs) i

-- An accepted turn has an even sum at each point.
even_sum : (nb : Neighbours) (t : ℕ) (f : ℕ → ℤ) (p : ℕ) → accepted_at nb t f p ≡ true → is_even (sum_on nb t f (suc p)) ≡ true
unfolding accepted_at
even_sum nb t f p e =
    let before = in_limit (f (suc p)) in
    let even = is_even (sum_on nb t f (suc p)) in
    and_right before even (and_left (before && even) (in_limit (forward nb t f (suc p))) e)

even_sums : (s : Shape) (t : ℕ) (xs : List ℤ) → is_accepted s t xs ≡ true → (q : ℕ) → q < points_of s →
    is_even (sum_on (neighbour s) t (value_at xs) (suc q)) ≡ true
unfolding is_accepted accepted
even_sums s t xs e q h =
    let nb = neighbour s in
    even_sum nb t (value_at xs) q (all_at (accepted_at nb t (value_at xs)) (points_of s) e q h)

-- A forward turn that is done: on each line along its axis the sums of the turned values are the values before it.
pub turn_on_lines : (s next : State) (xs ys : List ℤ) (axis : ℕ) → forward_turn s xs axis ≡ after (Ok next) ys →
    (q : ℕ) → q < points_of s.shape →
    line_sum s.shape (axis - 1) (value_at ys) q ≡ value_at xs (suc q) *ℤ pos unit
turn_on_lines s next xs ys axis e q h =
    let went = went_forward s next xs ys axis e in
    let may = went.0.may in
    ap (λ (f : ℕ → ℤ). line_sum s.shape (axis - 1) f q)
    (ap value_at (sym went.2) ∙ turned_holds s.shape (axis - 1) xs may.long)
    ∙ line_through s.shape (omega (arith, may.range)) (axis - 1) (place_of may) (value_at xs) (value_zero xs) (even_sums s.shape (axis - 1) xs went.0.accepted) q h

-- No other values on the line of a point have these sums.
pub only_values_on_line : (s next : State) (xs ys : List ℤ) (axis : ℕ) → forward_turn s xs axis ≡ after (Ok next) ys → (zs : List ℤ) (p : ℕ) →
    ((q : ℕ) → q < points_of s.shape → OnLine s.shape (axis - 1) p q →
    line_sum s.shape (axis - 1) (value_at zs) q ≡ value_at xs (suc q) *ℤ pos unit) →
    (q : ℕ) → q < points_of s.shape → OnLine s.shape (axis - 1) p q → value_at zs (suc q) ≡ value_at ys (suc q)
only_values_on_line s next xs ys axis e zs p sums q h line =
    let may = (went_forward s next xs ys axis e).0.may in
    let t = axis - 1 in
    line_determines s.shape (omega (arith, may.range)) t (place_of may) (value_at zs) (value_at ys) q h
    (λ r lt beside. sums r lt (along s.shape t p q r line beside) ∙ sym (turn_on_lines s next xs ys axis e r lt))
