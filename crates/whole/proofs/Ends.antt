-- Coefficients to rates, where it ends: once every axis is back, unloading succeeds exactly where the table has rates, and leaves them.
-- Assumes nothing.
use Rattle.std.specs.Prelude.{Ok}
use mathlib.Core.Path.{◌≡◌, refl, ap, sym, ◌∙◌, fun_ext}
use mathlib.Core.Bool.{true, false, true≢false}
use mathlib.Core.List.{List, map}
use Prim.Native.Nat.{ℕ, zero, suc, ◌%◌, ◌^◌, ◌<◌}
use native.Mathlib.Omega.{arith}
use lib.Dec.{eqb}
use lib.IntN.{ℤ, nat_abs}
use lib.ListN.{length}
use lib.Pow.{pow_pos}
use borrow.Author.Tests.{eqb-true, eq-eqb}
use Rattle.naturals.specs.Test.{all}
use Rattle.naturals.proofs.Cases.{le_or_lt, true_or_false}
use Rattle.naturals.proofs.Tests.{and_left, and_right, all_at, all_from}
use Rattle.refusals.specs.declared.Refusal.TheVariants.{Contents, StillForward}
use Rattle.refusals.specs.Checks.{unless}
use Rattle.integers.specs.Half.{is_rate}
use Rattle.hierarchy.specs.Turns.{value_at, values_of}
use Rattle.hierarchy.specs.Sets.{scaled, swept, table_of, every_axis}
use Rattle.hierarchy.proofs.Values.{value_zero, value_suc, value_past, values_of_value}
use Rattle.shapes.specs.declared.Shape.{Shape}
use Rattle.shapes.specs.Shapes.{points_of}
use Rattle.shapes.proofs.Checked.{InRange}
use Rattle.grids.specs.Grids.{neighbour}
use Rattle.states.specs.After.{left_by}
use Rattle.states.proofs.Bits.{no_bits}
use Rattle.states.proofs.Checked.{state_passes, axes_pass}
use Rattle.tables.specs.Tables.{rate_at, times, quotient, is_scaled, scaled_at, check_sampled, unload}
use Rattle.tables.proofs.Quotients.{quotient_times, times_quotient, times_divisible}
use Rattle.runs.proofs.Calls.{state_of}
use Rattle.whole.specs.Whole.{coefficients_of, back_all, rates_of, has_rates}
use Rattle.whole.proofs.AllAxes.{back_zero, back_past, swept_of_back}
use Rattle.whole.proofs.Inverse.{AreRates, coefficients_have_rates, rates_length, rates_at}
use Rattle.whole.proofs.Loading.{times_zero, rate_at_lem}
use Rattle.whole.proofs.Descending.{Going, rates_there, still_theirs}

rate_means : (xs : List ℤ) (p : ℕ) → rate_at xs p ≡ is_rate (value_at xs (suc p))
unfolding rate_at
rate_means xs p = refl

scaled_means : (d : ℕ) (xs : List ℤ) (p : ℕ) → scaled_at d xs p ≡ is_scaled d (value_at xs (suc p))
unfolding scaled_at
scaled_means d xs p = refl

scaled_is : (d : ℕ) (r : ℕ → ℤ) (p : ℕ) → scaled d r p ≡ times d (r p)
unfolding scaled times
scaled_is d r p = refl

-- A rate times 2^d is one.
times_scaled : (d : ℕ) (z : ℤ) → is_rate z ≡ true → is_scaled d (times d z) ≡ true
unfolding is_scaled
times_scaled d z rate = rw (eq-eqb (nat_abs (times d z) % 2 ^ d) 0 (times_divisible d z), quotient_times d z, rate)

module _ (s : Shape) (range : InRange s) (xs₀ : List ℤ) (len : length xs₀ ≡ points_of s) where
  coefficients_are : (rs : List ℤ) → coefficients_of s rs ≡ values_of (points_of s) (swept (neighbour s) every_axis s.axes (scaled s.axes (value_at rs)))
  unfolding coefficients_of table_of
  coefficients_are rs = refl

  -- Once every axis is back, the values decide.
  module _ (xs : List ℤ) (g : Going s xs₀ len 0 xs) where
    held : value_at xs ≡ back_all s s.axes (value_at xs₀)
    unfolding back_all
    held = g.rest

    none_forward : check_sampled (state_of s 0) ≡ Ok tt
    unfolding check_sampled
    none_forward = axes_pass true StillForward (state_of s 0) (λ t h. no_bits t)

    pub unload_is : unload (state_of s 0) xs ≡ left_by xs (unless (all (scaled_at s.axes xs) (length xs)) Contents) (map (quotient s.axes) xs)
    unfolding unload
    unload_is =
        rw (
          state_passes (state_of s 0) (length xs) (record { range = range; few = pow_pos s.axes; long = g.long }),
          none_forward,
        )

    -- Divided, they are the rates of the table.
    pub divided : map (quotient s.axes) xs ≡ rates_of s xs₀
    unfolding rates_of
    divided =
        ap (map (quotient s.axes))
        (sym (values_of_value (points_of s) xs g.long) ∙ ap (values_of (points_of s)) held)

    value_scaled : all (scaled_at s.axes xs) (length xs) ≡ true → (p : ℕ) → p < points_of s → is_scaled s.axes (value_at xs (suc p)) ≡ true
    unfolding scaled_at
    value_scaled e p h = all_at (scaled_at s.axes xs) (length xs) e p (omega (arith, g.long))

    value_divides : (z : ℤ) → is_scaled s.axes z ≡ true → (nat_abs z % 2 ^ s.axes ≡ 0) × (is_rate (quotient s.axes z) ≡ true)
    unfolding is_scaled
    value_divides z e = (
      eqb-true (nat_abs z % 2 ^ s.axes) 0 (and_left (eqb (nat_abs z % 2 ^ s.axes) 0) (is_rate (quotient s.axes z)) e),
      and_right (eqb (nat_abs z % 2 ^ s.axes) 0) (is_rate (quotient s.axes z)) e,
    )

    rate_there : (p : ℕ) → p < points_of s → value_at (rates_of s xs₀) (suc p) ≡ quotient s.axes (value_at xs (suc p))
    rate_there p h =
        value_suc (rates_of s xs₀) p
        ∙ rates_at s xs₀ p h
        ∙ ap (λ (f : ℕ → ℤ). quotient s.axes (f (suc p))) (sym held)

    module _ (e : all (scaled_at s.axes xs) (length xs) ≡ true) where
      are_rates : AreRates s (rates_of s xs₀)
      are_rates =
          record {
            long = rates_length s xs₀;
            each =
                all_from (rate_at (rates_of s xs₀)) (points_of s)
                (λ p h. is_rate_lem p h);
          }
        where
          is_rate_lem : (p : ℕ) → p < points_of s → rate_at (rates_of s xs₀) p ≡ true
          is_rate_lem p h =
              rate_means (rates_of s xs₀) p
              ∙ ap is_rate (rate_there p h)
              ∙ (value_divides (value_at xs (suc p)) (value_scaled e p h)).1

      scaled_back : (p : ℕ) → scaled s.axes (value_at (rates_of s xs₀)) p ≡ back_all s s.axes (value_at xs₀) p
      scaled_back zero =
          scaled_is s.axes (value_at (rates_of s xs₀)) 0
          ∙ ap (times s.axes) (value_zero (rates_of s xs₀))
          ∙ times_zero s.axes
          ∙ sym (back_zero s s.axes (value_at xs₀) (value_zero xs₀))
      scaled_back (suc p) =
          scaled_is s.axes (value_at (rates_of s xs₀)) (suc p)
          ∙ le_or_lt (points_of s) p
          (λ past.
          ap (times s.axes) (value_past (rates_of s xs₀) (suc p) (omega (arith, rates_length s xs₀)))
          ∙ times_zero s.axes
          ∙ sym
          (back_past s s.axes (value_at xs₀) (value_zero xs₀) (suc p) (omega arith)
          ∙ value_past xs₀ (suc p) (omega arith)))
          (λ h.
          ap (times s.axes) (rate_there p h)
          ∙ times_quotient s.axes (value_at xs (suc p)) (value_divides (value_at xs (suc p)) (value_scaled e p h)).0
          ∙ ap (λ (f : ℕ → ℤ). f (suc p)) held)

      -- Unloaded, the table has rates.
      pub unloaded : has_rates s xs₀ ≡ true
      unloaded =
          coefficients_have_rates s (rates_of s xs₀) xs₀ are_rates
          (coefficients_are (rates_of s xs₀)
          ∙ ap (values_of (points_of s))
          (ap (swept (neighbour s) every_axis s.axes) (fun_ext scaled_back)
          ∙ swept_of_back s s.axes (value_at xs₀) (value_zero xs₀))
          ∙ values_of_value (points_of s) xs₀ len)

    -- Where the table has rates, the values are these times 2^d, and unloading succeeds.
    is_times : has_rates s xs₀ ≡ true → (p : ℕ) → value_at xs (suc p) ≡ times s.axes (value_at (rates_of s xs₀) (suc p))
    unfolding swept
    is_times has_them p =
        ap (λ (f : ℕ → ℤ). f (suc p)) (still_theirs s xs₀ len range has_them 0 xs g)
        ∙ scaled_is s.axes (value_at (rates_of s xs₀)) (suc p)

    pub unloads : has_rates s xs₀ ≡ true → all (scaled_at s.axes xs) (length xs) ≡ true
    unloads has_them =
        all_from (scaled_at s.axes xs) (length xs)
        (λ p h. is_scaled_lem p (omega (arith, g.long)))
      where
        is_scaled_lem : (p : ℕ) → p < points_of s → scaled_at s.axes xs p ≡ true
        is_scaled_lem p h =
            scaled_means s.axes xs p
            ∙ ap (is_scaled s.axes) (is_times has_them p)
            ∙ times_scaled s.axes (value_at (rates_of s xs₀) (suc p))
            (rate_at_lem (rates_of s xs₀) (points_of s) (rates_there s xs₀ len range has_them).each p h)

    -- Not unloaded, it has none.
    pub not_unloaded : all (scaled_at s.axes xs) (length xs) ≡ false → has_rates s xs₀ ≡ false
    not_unloaded e = true_or_false (has_rates s xs₀) (λ has_them. absurd (true≢false (sym (unloads has_them) ∙ e))) (λ none. none)
