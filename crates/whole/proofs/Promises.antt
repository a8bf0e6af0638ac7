-- The promises of the whole calls, over their definitions: rates to coefficients and back gives the same rates, for all accepted rates; coefficients to rates is
-- refused with 10 if and only if no accepted rates have them; where it passes it leaves the accepted rates that have them.
-- Assumes nothing.
use Rattle.std.specs.Prelude.{Ok, Err}
use mathlib.Core.Path.{◌≡◌, refl, ap, sym, ◌∙◌}
use mathlib.Core.List.{List}
use Prim.Native.Nat.{ℕ}
use native.Mathlib.Omega.{arith}
use lib.IntN.{ℤ}
use Rattle.naturals.proofs.Cases.{true_or_false}
use Rattle.naturals.proofs.Tests.{all_at, all_from}
use Rattle.refusals.specs.declared.Refusal.TheVariants.{Contents}
use Rattle.refusals.specs.Checks.{unless, ◌and_then◌, Verdict}
use Rattle.refusals.proofs.Passing.{first_passed, next_passed, test_passed}
use Rattle.shapes.specs.declared.Shape.{Shape}
use Rattle.shapes.specs.Shapes.{points_of}
use Rattle.shapes.proofs.Checked.{InRange, passed_in_range, in_range_passed}
use Rattle.states.specs.After.{Left, left, left_by}
use Rattle.tables.specs.Tables.{check_table, rate_at}
use Rattle.tables.proofs.Checking.{table_passed, table_passes, rate_place, rates_pass}
use Rattle.whole.specs.Accepted.{Accepted}
use Rattle.whole.specs.Whole.{coefficients_of, rates_to_coefficients, rates_of, has_rates, coefficients_to_rates}
use Rattle.whole.proofs.Inverse.{AreRates, coefficients_length, coefficients_have_rates, has_rates_lem, rates_of_coefficients}
use Rattle.whole.proofs.AnswersUp.{passes_so}
use Rattle.whole.proofs.AnswersDown.{refused_rates, passed_rates}

accepted : (s : Shape) (rs : List ℤ) → InRange s → AreRates s rs → Accepted s rs
accepted s rs range a =
    record {
      shape = in_range_passed s range;
      long = a.long;
      each = λ p h. sym (rate_place rs p) ∙ all_at (rate_at rs) (points_of s) a.each p h;
    }

module _ (s : Shape) (rs : List ℤ) (a : Accepted s rs) where
  in_range : InRange s
  in_range = passed_in_range s a.shape

  are_rates : AreRates s rs
  are_rates =
      record {
        long = a.long;
        each = all_from (rate_at rs) (points_of s) (λ p h. rate_place rs p ∙ a.each p h);
      }

  -- Accepted rates have coefficients.
  pub have_coefficients : rates_to_coefficients s rs ≡ left (Ok tt) (coefficients_of s rs)
  have_coefficients =
      passes_so s rs
      (rw (
        table_passes s rs (record { range = in_range; long = a.long }),
        rates_pass rs (λ p h. rate_place rs p ∙ a.each p (omega (arith, a.long))),
      ))

  -- And these go back to the same rates.
  pub and_back : coefficients_to_rates s (coefficients_of s rs) ≡ left (Ok tt) rs
  and_back =
      let xs = coefficients_of s rs in
      passed_rates s xs
      (table_passes s xs (record { range = in_range; long = coefficients_length s rs }))
      (coefficients_have_rates s rs xs are_rates refl)
      ∙ ap (left (Ok tt)) (rates_of_coefficients s rs a.long)

-- Refused with 10: no accepted rates have these coefficients.
pub refused_means : (s : Shape) (xs : List ℤ) → (coefficients_to_rates s xs).verdict ≡ Err Contents → (rs : List ℤ) → Accepted s rs → coefficients_of s rs ≡ xs → ⊥
refused_means s xs e rs a c =
    let passed : (coefficients_to_rates s xs).verdict ≡ (Ok tt) = ap (λ (l : Left). l.verdict) (rw c at (and_back s rs a)) in
    let z : ◌≡◌ {A = ℕ} 0 1 = cc in
    omega arith

-- No accepted rates have them: refused with 10, and the table left as it was.
pub refused_where : (s : Shape) (xs : List ℤ) → check_table s xs ≡ Ok tt → ((rs : List ℤ) → Accepted s rs → coefficients_of s rs ≡ xs → ⊥) →
    coefficients_to_rates s xs ≡ left (Err Contents) xs
refused_where s xs e none =
    let o = table_passed s xs e in
    true_or_false (has_rates s xs)
    (λ yes.
    let there = has_rates_lem s xs o.long yes in
    absurd (none (rates_of s xs) (accepted s (rates_of s xs) o.range there.0) there.1))
    (λ no_rates. refused_rates s xs e no_rates)

left_passed : (xs ys zs : List ℤ) (v : Verdict) → left_by xs v zs ≡ left (Ok tt) ys → (v ≡ Ok tt) × (zs ≡ ys)
left_passed xs ys zs (Ok _) e = (refl, ap (λ (l : Left). l.table) e)
left_passed xs ys zs (Err r) e =
    let f : Err r ≡ (Ok tt) = ap (λ (l : Left). l.verdict) e in
    let z : ◌≡◌ {A = ℕ} 0 1 = cc in absurd (omega arith)

-- Passed: what it leaves are accepted rates, and rates to coefficients takes them to this table.
pub passed_means : (s : Shape) (xs ys : List ℤ) → coefficients_to_rates s xs ≡ left (Ok tt) ys → Accepted s ys × (rates_to_coefficients s ys ≡ left (Ok tt) xs)
unfolding coefficients_to_rates
passed_means s xs ys e =
    let given = unless (has_rates s xs) Contents in
    let told = left_passed xs ys (rates_of s xs) (check_table s xs and_then given) e in
    let o = table_passed s xs (first_passed (check_table s xs) given told.0) in
    let there = has_rates_lem s xs o.long (test_passed (has_rates s xs) Contents (next_passed (check_table s xs) given told.0)) in
    let a : Accepted s ys = rw (← told.1) (accepted s (rates_of s xs) o.range there.0) in
    (a, have_coefficients s ys a ∙ ap (left (Ok tt)) (ap (coefficients_of s) (sym told.1) ∙ there.1))
