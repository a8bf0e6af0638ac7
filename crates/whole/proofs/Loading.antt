-- A loaded table is the table of no axis, each rate times 2^d. So it agrees with the model's empty set, and its values are within the limit.
-- Assumes nothing.
use mathlib.Core.Path.{◌≡◌, refl, ap, sym, ◌∙◌, fun_ext}
use mathlib.Core.Bool.{true}
use mathlib.Core.List.{List, map}
use Prim.Native.Nat.{ℕ, zero, suc, ◌^◌, ◌≤◌, ◌<◌}
use native.Mathlib.Omega.{arith}
use lib.IntN.{ℤ, pos, nat_abs, zero-*ℤ}
use lib.ListN.{length, length-map}
use lib.Pow.{pow_pos}
use Rattle.naturals.specs.Test.{all}
use Rattle.naturals.proofs.Cases.{le_or_lt}
use Rattle.naturals.proofs.Tests.{all_at, all_from}
use Rattle.integers.specs.Half.{is_rate, in_limit, content_at}
use Rattle.integers.proofs.Sizes.{rate_size}
use Rattle.hierarchy.specs.Turns.{value_at, values_of}
use Rattle.hierarchy.specs.Sets.{scaled, swept, table_of, no_axis}
use Rattle.hierarchy.proofs.Bounds.{table_in_limit}
use Rattle.hierarchy.proofs.Values.{value_zero, value_past, value_mapped, values_of_value}
use Rattle.shapes.specs.declared.Shape.{Shape}
use Rattle.shapes.specs.Shapes.{points_of}
use Rattle.shapes.proofs.Checked.{InRange, in_range_passed}
use Rattle.grids.specs.Grids.{neighbour}
use Rattle.states.proofs.Bits.{no_bits}
use Rattle.tables.specs.Tables.{rate_at, times}
use Rattle.runs.proofs.Calls.{Rates, Agrees}
use Rattle.whole.specs.Steps.{InTable}
use Rattle.whole.proofs.Inverse.{AreRates}

pub rate_at_lem : (xs : List ℤ) (m : ℕ) → all (rate_at xs) m ≡ true → (p : ℕ) → p < m → is_rate (value_at xs (suc p)) ≡ true
unfolding rate_at
rate_at_lem xs m e p h = all_at (rate_at xs) m e p h

-- Accepted rates, as a table.
pub rates_of_list : (s : Shape) (xs : List ℤ) → AreRates s xs → Rates (points_of s) (value_at xs)
rates_of_list s xs a =
    record {
      border = value_zero xs;
      past = λ p h. value_past xs p (omega (arith, a.long));
      small = small;
    }
  where
    small : (p : ℕ) → nat_abs (value_at xs p) ≤ 2 ^ 31
    small zero = rw (value_zero xs) (omega arith)
    small (suc p) =
        le_or_lt (points_of s) p
        (λ past. rw (value_past xs (suc p) (omega (arith, a.long))) (omega arith))
        (λ h. rate_size (value_at xs (suc p)) (rate_at_lem xs (points_of s) a.each p h))

pub times_zero : (d : ℕ) → times d (pos 0) ≡ pos 0
unfolding times
times_zero d = zero-*ℤ (pos (2 ^ d))

module _ (s : Shape) (xs : List ℤ) where
  pub loaded_holds : value_at (map (times s.axes) xs) ≡ scaled s.axes (value_at xs)
  unfolding times scaled
  loaded_holds = fun_ext (value_mapped (times s.axes) xs (times_zero s.axes))

  -- With no axis in the set nothing is turned.
  swept_none : (k : ℕ) (f : ℕ → ℤ) → swept (neighbour s) no_axis k f ≡ f
  unfolding swept
  swept_none zero f = refl
  swept_none (suc k) f = swept_none k f

  loaded_none : value_at (map (times s.axes) xs) ≡ table_of (neighbour s) s.axes no_axis (value_at xs)
  unfolding table_of
  loaded_none = loaded_holds ∙ sym (swept_none s.axes (scaled s.axes (value_at xs)))

  -- The loaded list is the table of no axis.
  loaded_list : length xs ≡ points_of s → map (times s.axes) xs ≡ values_of (points_of s) (table_of (neighbour s) s.axes no_axis (value_at xs))
  loaded_list len =
      sym (values_of_value (points_of s) (map (times s.axes) xs) (length-map xs (times s.axes) ∙ len))
      ∙ ap (values_of (points_of s)) loaded_none

  -- So its values are within the limit.
  pub loaded_in : InRange s → AreRates s xs → InTable s (map (times s.axes) xs)
  unfolding content_at value_at
  loaded_in range a =
      let ys = map (times s.axes) xs in
      record {
        shape = in_range_passed s range;
        long = length-map xs (times s.axes) ∙ a.long;
        contents =
            all_from (content_at ys) (length ys)
            (λ p h.
            ap (λ (f : ℕ → ℤ). in_limit (f (suc p))) loaded_none
            ∙ table_in_limit (neighbour s) no_axis s.axes (value_at xs) range.high (rates_of_list s xs a).small (suc p));
      }

pub loaded_agrees : (s : Shape) (range : InRange s) (xs : List ℤ) (a : AreRates s xs) →
    Agrees s range (value_at xs) (rates_of_list s xs a) no_axis 0 (map (times s.axes) xs)
loaded_agrees s range xs a =
    record { few = pow_pos s.axes; bits = no_bits; table = loaded_list s xs a.long }
