-- What the last division does to the call's answer: the estimate is the whole number nearest to the quotient, so within one half of it, and the estimate
-- of the negated table is the negated one, refusals staying. True of the sum and its division; and the checks see only lengths and sizes, which negation
-- keeps.
-- Assumes nothing.
use Rattle.std.specs.Prelude.{Result, Ok, Err}
use Rattle.refusals.specs.declared.Refusal.{Refusal}
use mathlib.Core.Path.{◌≡◌, refl, ap, subst, ◌∙◌, fun_ext}
use mathlib.Core.List.{List}
use Prim.Native.Nat.{ℕ, ◌*◌, ◌≤◌}
use lib.Dec.{leb}
use lib.IntN.{ℤ, pos, neg_ℤ, nat_abs, ◌-ℤ◌, ◌*ℤ◌}
use lib.ListN.{length, get_or, length-map, get_or-map}
use Rattle.refusals.specs.Checks.{answer, Verdict}
use Rattle.integers.specs.Half.{limit, in_limit, content_at}
use Rattle.integers.specs.Nearest.{Nearest}
use Rattle.integers.proofs.Products.{size_negated}
use Rattle.numbering.specs.Point.{at}
use Rattle.hierarchy.specs.Turns.{value_at}
use Rattle.hierarchy.proofs.Values.{value_mapped}
use Rattle.surfaces.specs.Weights.{unit}
use Rattle.surfaces.specs.Surface.{joint_sum, estimate_at}
use Rattle.surfaces.proofs.Rounding.{estimate_nearest, estimate_half, estimate_odd}
use Rattle.states.specs.declared.State.{State}
use Rattle.estimates.specs.Estimates.{check_estimate, estimate_in_unit, estimate}
use Rattle.estimates.specs.Negated.{negated, negated_answer}

module _ (s : State) (table : List ℤ) (xs : List ℕ) where
  abbrev sum : ℤ
  sum = joint_sum s.shape (value_at table) (at xs)

  -- What holds of the sum's division holds of an answer that is an estimate.
  abbrev Holds : (ℤ → Type 0) → Result ℤ Refusal → Type 0
  Holds P (Ok v) = P v
  Holds P (Err r) = Unit {0}

  holds_answered : (P : ℤ → Type 0) (z : ℤ) → P z → (v : Verdict) → Holds P (answer Err v (Ok z))
  holds_answered P z holds (Ok _) = holds
  holds_answered P z holds (Err r) = tt

  pub answered : (P : ℤ → Type 0) → P (estimate_at s.shape (value_at table) (at xs)) → (v : ℤ) → estimate s table xs ≡ Ok v → P v
  unfolding estimate_in_unit
  answered P holds v e =
      subst (Holds P) e (holds_answered P (estimate_at s.shape (value_at table) (at xs)) holds (check_estimate unit s table xs))

  -- The estimate is the whole number nearest to the quotient, of two as near the one further from zero.
  pub answer_nearest : (v : ℤ) → estimate s table xs ≡ Ok v → Nearest unit sum v
  answer_nearest = answered (Nearest unit sum) (estimate_nearest s.shape (value_at table) (at xs))

  -- It is within one half of it.
  pub within_half : (v : ℤ) → estimate s table xs ≡ Ok v → 2 * nat_abs (v *ℤ pos unit -ℤ sum) ≤ unit
  within_half = answered (λ v. 2 * nat_abs (v *ℤ pos unit -ℤ sum) ≤ unit) (estimate_half s.shape (value_at table) (at xs))

  -- The checks see lengths and sizes, which negation keeps.
  negated_length : length (negated table) ≡ length table
  unfolding negated
  negated_length = length-map table neg_ℤ

  negated_contents : content_at (negated table) ≡ content_at table
  unfolding negated content_at in_limit
  negated_contents =
      fun_ext λ p.
      ap (λ (n : ℕ). leb n limit) (ap nat_abs (get_or-map neg_ℤ table p (pos 0)) ∙ size_negated (get_or table p (pos 0)))

  negated_checks : check_estimate unit s (negated table) xs ≡ check_estimate unit s table xs
  unfolding check_estimate
  negated_checks = rw (negated_length, negated_contents)

  negated_values : value_at (negated table) ≡ (λ p. neg_ℤ (value_at table p))
  unfolding negated
  negated_values = fun_ext (value_mapped neg_ℤ table refl)

  answer_negated : (z : ℤ) (v : Verdict) → answer Err v (Ok (neg_ℤ z)) ≡ negated_answer (answer Err v (Ok z))
  answer_negated z (Ok _) = refl
  answer_negated z (Err r) = refl

  -- The estimate of the negated table is the negated estimate, and it is refused alike.
  pub estimate_negated : estimate s (negated table) xs ≡ negated_answer (estimate s table xs)
  unfolding estimate_in_unit
  estimate_negated =
      rw (negated_checks, negated_values, estimate_odd s.shape (value_at table) (at xs))
      (answer_negated (estimate_at s.shape (value_at table) (at xs)) (check_estimate unit s table xs))
