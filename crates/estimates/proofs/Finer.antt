-- On one axis an old coordinate times 16 is answered as the old coordinate was, refusals alike: the unit is 16 times the old one. The checks compare each
-- coordinate with the unit, both 16 times what they were, and the estimate over one axis is the same in every finer unit.
-- Assumes nothing.
use Rattle.std.specs.Prelude.{Ok, Err}
use mathlib.Core.Path.{◌≡◌, refl, ap, sym, ◌∙◌, fun_ext}
use mathlib.Core.List.{List}
use Prim.Native.Nat.{ℕ, ◌*◌, ◌<◌}
use native.Mathlib.Nat.{zero-mul, mul-le-mul_right, le_of_mul-le-mul_right}
use native.Mathlib.Omega.{arith}
use lib.Dec.{leb}
use lib.IntN.{ℤ}
use lib.ListN.{length, get_or, length-map, get_or-map}
use lib.Pow.{pow_pos}
use borrow.Author.Tests.{le-leb, lt-leb}
use Rattle.naturals.proofs.Cases.{le_or_lt}
use Rattle.refusals.specs.Checks.{answer}
use Rattle.numbering.specs.Point.{at}
use Rattle.hierarchy.specs.Turns.{value_at}
use Rattle.grids.specs.Grids.{numbered}
use Rattle.surfaces.specs.Weights.{unit, is_coordinate}
use Rattle.surfaces.proofs.Unit.{unit_is}
use Rattle.surfaces.proofs.Finer.{finer, estimate_finer}
use Rattle.states.specs.declared.State.{State}
use Rattle.estimates.specs.Estimates.{inside_at, first_outside, check_coordinates, check_estimate, estimate_in_unit, estimate}
use Rattle.estimates.specs.Finer.{old_unit, each_times}

-- Two numbers compare as their multiples do.
times_compared : (a b f : ℕ) → 0 < f → leb (a * f) (b * f) ≡ leb a b
times_compared a b f more =
    le_or_lt a b
    (λ le. le-leb (a * f) (b * f) (mul-le-mul_right f le) ∙ sym (le-leb a b le))
    (λ lt.
    lt-leb (a * f) (b * f)
    (le_or_lt (a * f) (b * f)
    (λ le. absurd (omega (arith, lt, le_of_mul-le-mul_right {k = f} le more)))
    (λ above. above))
    ∙ sym (lt-leb a b lt))

module _ (u f : ℕ) (some : 0 < u) (more : 0 < f) (s : State) (table : List ℤ) (xs : List ℕ) where
  same_length : length (each_times f xs) ≡ length xs
  unfolding each_times
  same_length = length-map xs (λ (x : ℕ). x * f)

  same_places : at (each_times f xs) ≡ finer f (at xs)
  unfolding each_times
  same_places =
      fun_ext λ t.
      ap (get_or (each_times f xs) t) (sym (zero-mul f)) ∙ get_or-map (λ (x : ℕ). x * f) xs t 0

  same_inside : inside_at (u * f) (each_times f xs) ≡ inside_at u xs
  unfolding inside_at is_coordinate
  same_inside =
      fun_ext λ t. ap (λ (y : ℕ → ℕ). leb (y t) (u * f)) same_places ∙ times_compared (at xs t) u f more

  same_checks : check_estimate (u * f) s table (each_times f xs) ≡ check_estimate u s table xs
  unfolding check_estimate check_coordinates first_outside
  same_checks = rw (same_length, same_inside) refl

  -- A table of one axis answers the same in every finer unit.
  pub answer_finer : s.shape.axes ≡ 1 → estimate_in_unit (u * f) s table (each_times f xs) ≡ estimate_in_unit u s table xs
  unfolding estimate_in_unit
  answer_finer one =
      rw (same_checks, same_places)
      (ap (λ (z : ℤ). answer Err (check_estimate u s table xs) (Ok z))
      (estimate_finer u f some more (numbered s.shape) one (at xs) (value_at table)))

-- The unit, which is two to its bits, is 16 times the old one.
unit_finer : unit ≡ old_unit * 16
unfolding old_unit
unit_finer = unit_is

-- On one axis, for every state, table and list of old coordinates: 16 times these coordinates are answered as they were.
pub old_coordinates : (s : State) (table : List ℤ) (xs : List ℕ) → s.shape.axes ≡ 1 →
    estimate s table (each_times 16 xs) ≡ estimate_in_unit old_unit s table xs
unfolding old_unit
old_coordinates s table xs one =
    ap (λ (u : ℕ). estimate_in_unit u s table (each_times 16 xs)) unit_finer
    ∙ answer_finer old_unit 16 (pow_pos 16) (omega arith) s table xs one
