-- Rates and coefficients determine each other: the rates of the coefficients of rates are these rates, and a table has rates exactly where some accepted rates
-- have it as their coefficients.
-- Assumes nothing.
use mathlib.Core.Path.{◌≡◌, ap, sym, ◌∙◌}
use mathlib.Core.Bool.{true}
use mathlib.Core.List.{List, map}
use Prim.Native.Nat.{ℕ, suc, ◌<◌}
use native.Mathlib.Omega.{arith}
use lib.IntN.{ℤ, pos, nat_abs, ◌-ℤ◌, +ℤ_invr}
use lib.ListN.{length, get_or, length-map, get_or-map}
use lib.Seq.{ext_get_or}
use borrow.Author.Tests.{eqb-true, eq-eqb}
use Rattle.naturals.specs.Test.{all}
use Rattle.naturals.proofs.Tests.{and_left, and_right, all_at, all_from}
use Rattle.integers.proofs.Products.{no_difference}
use Rattle.hierarchy.specs.Turns.{value_at, values_of}
use Rattle.hierarchy.specs.Sets.{scaled, table_of, every_axis}
use Rattle.hierarchy.proofs.Closed.{scaled_border}
use Rattle.hierarchy.proofs.Values.{value_zero, value_suc, value_past, values_length, values_at, value_of_values}
use Rattle.hierarchy.proofs.Steps.{table_past}
use Rattle.shapes.specs.declared.Shape.{Shape}
use Rattle.shapes.specs.Shapes.{points_of}
use Rattle.grids.proofs.Instance.{grid}
use Rattle.grids.specs.Grids.{neighbour, depth}
use Rattle.tables.specs.Tables.{rate_at, times, quotient}
use Rattle.tables.proofs.Quotients.{quotient_times, quotient_zero}
use Rattle.whole.specs.Whole.{coefficients_of, back_all, rates_of, same_at, has_rates}
use Rattle.whole.proofs.AllAxes.{swept_zero, back_of_swept}

quotient_of_scaled : (d : ℕ) (r : ℕ → ℤ) (p : ℕ) → quotient d (scaled d r p) ≡ r p
unfolding scaled times
quotient_of_scaled d r p = quotient_times d (r p)

-- Two lists that the test finds the same are the same.
same_self : (xs : List ℤ) (p : ℕ) → same_at xs xs p ≡ true
unfolding same_at
same_self xs p = eq-eqb (nat_abs (value_at xs (suc p) -ℤ value_at xs (suc p))) 0 (ap nat_abs (+ℤ_invr (value_at xs (suc p))))

same_at_lem : (xs ys : List ℤ) (p : ℕ) → same_at xs ys p ≡ true → value_at xs (suc p) ≡ value_at ys (suc p)
unfolding same_at
same_at_lem xs ys p e =
    no_difference (value_at xs (suc p)) (value_at ys (suc p)) (eqb-true (nat_abs (value_at xs (suc p) -ℤ value_at ys (suc p))) 0 e)

same_lists : (xs ys : List ℤ) (m : ℕ) → length xs ≡ m → length ys ≡ m → all (same_at xs ys) m ≡ true → xs ≡ ys
same_lists xs ys m lx ly e =
    ext_get_or (pos 0) xs ys (lx ∙ sym ly)
    (λ i h.
    sym (value_suc xs i) ∙ same_at_lem xs ys i (all_at (same_at xs ys) m e i (omega arith)) ∙ value_suc ys i)

-- Accepted rates of a shape.
pub record AreRates (s : Shape) (rs : List ℤ) : Type 0 where
  pub long : length rs ≡ points_of s
  pub each : all (rate_at rs) (points_of s) ≡ true

module _ (s : Shape) where
  coefficients_zero : (rs : List ℤ) → table_of (neighbour s) s.axes every_axis (value_at rs) 0 ≡ pos 0
  unfolding table_of
  coefficients_zero rs =
      swept_zero s s.axes (scaled s.axes (value_at rs)) (scaled_border s.axes (value_at rs) (value_zero rs))

  -- All axes of the coefficients turned back are the rates times 2^d.
  back_of_coefficients : (rs : List ℤ) →
      back_all s s.axes (table_of (neighbour s) s.axes every_axis (value_at rs)) ≡ scaled s.axes (value_at rs)
  unfolding table_of
  back_of_coefficients rs = back_of_swept s s.axes (scaled s.axes (value_at rs)) (scaled_border s.axes (value_at rs) (value_zero rs))

  coefficients_hold : (rs : List ℤ) → length rs ≡ points_of s →
      value_at (coefficients_of s rs) ≡ table_of (neighbour s) s.axes every_axis (value_at rs)
  unfolding coefficients_of
  coefficients_hold rs len =
      value_of_values (points_of s) (table_of (neighbour s) s.axes every_axis (value_at rs))
      (coefficients_zero rs)
      (λ p h.
      table_past (points_of s) (neighbour s) (depth s) (grid s) s.axes
      every_axis (value_at rs) (value_zero rs) p h (value_past rs p (omega arith)))

  pub back_of_list : (rs : List ℤ) → length rs ≡ points_of s → back_all s s.axes (value_at (coefficients_of s rs)) ≡ scaled s.axes (value_at rs)
  back_of_list rs len = ap (back_all s s.axes) (coefficients_hold rs len) ∙ back_of_coefficients rs

  quotients_at : (f : ℕ → ℤ) (i : ℕ) → i < points_of s →
      get_or (map (quotient s.axes) (values_of (points_of s) f)) i (pos 0) ≡ quotient s.axes (f (suc i))
  quotients_at f i h =
      ap (get_or (map (quotient s.axes) (values_of (points_of s) f)) i) (sym (quotient_zero s.axes))
      ∙ get_or-map (quotient s.axes) (values_of (points_of s) f) i (pos 0)
      ∙ ap (quotient s.axes) (values_at (points_of s) f i h)

  pub rates_at : (xs : List ℤ) (i : ℕ) → i < points_of s →
      get_or (rates_of s xs) i (pos 0) ≡ quotient s.axes (back_all s s.axes (value_at xs) (suc i))
  unfolding rates_of
  rates_at xs i h = quotients_at (back_all s s.axes (value_at xs)) i h

  pub coefficients_length : (rs : List ℤ) → length (coefficients_of s rs) ≡ points_of s
  unfolding coefficients_of
  coefficients_length rs = values_length (points_of s) (table_of (neighbour s) s.axes every_axis (value_at rs))

  pub rates_length : (xs : List ℤ) → length (rates_of s xs) ≡ points_of s
  unfolding rates_of
  rates_length xs =
      length-map (values_of (points_of s) (back_all s s.axes (value_at xs))) (quotient s.axes)
      ∙ values_length (points_of s) (back_all s s.axes (value_at xs))

  -- The rates of the coefficients of rates are these rates.
  pub rates_of_coefficients : (rs : List ℤ) → length rs ≡ points_of s → rates_of s (coefficients_of s rs) ≡ rs
  rates_of_coefficients rs len =
      ext_get_or (pos 0) (rates_of s (coefficients_of s rs)) rs (rates_length (coefficients_of s rs) ∙ sym len)
      (λ i h. at_place i (omega (arith, rates_length (coefficients_of s rs))))
    where
      at_place : (i : ℕ) → i < points_of s → get_or (rates_of s (coefficients_of s rs)) i (pos 0) ≡ get_or rs i (pos 0)
      at_place i h =
          rates_at (coefficients_of s rs) i h
          ∙ ap (λ (f : ℕ → ℤ). quotient s.axes (f (suc i))) (back_of_list rs len)
          ∙ quotient_of_scaled s.axes (value_at rs) (suc i)
          ∙ value_suc rs i

  -- Where some accepted rates have a table as their coefficients, the table has rates: these.
  pub coefficients_have_rates : (rs xs : List ℤ) → AreRates s rs → coefficients_of s rs ≡ xs → has_rates s xs ≡ true
  unfolding has_rates
  coefficients_have_rates rs xs a e =
      let same : rates_of s xs ≡ rs = ap (rates_of s) (sym e) ∙ rates_of_coefficients rs a.long in
      rw (same, a.each, e) (all_from (same_at xs xs) (points_of s) (λ p h. same_self xs p))

  -- And where a table has rates, they are accepted and the table is their coefficients.
  pub has_rates_lem : (xs : List ℤ) → length xs ≡ points_of s → has_rates s xs ≡ true →
      AreRates s (rates_of s xs) × (coefficients_of s (rates_of s xs) ≡ xs)
  unfolding has_rates
  has_rates_lem xs len e =
      let rates = all (rate_at (rates_of s xs)) (points_of s) in
      let same = all (same_at (coefficients_of s (rates_of s xs)) xs) (points_of s) in (
        record { long = rates_length xs; each = and_left rates same e },
        same_lists (coefficients_of s (rates_of s xs)) xs (points_of s) (coefficients_length (rates_of s xs)) len (and_right rates same e),
      )
