-- What passed checks of a table tell: a shape in range, a table of its points, and every value a rate. And where all that holds they pass.
-- Assumes nothing.
use Rattle.std.specs.Prelude.{Ok}
use Rattle.std.proofs.Common.{◌≡◌, ℕ, leb, List, length, get_or, ℤ, pos, ap, arith, le-leb, leb-true}
use Rattle.naturals.specs.FirstFailing.{Passes, first_failing}
use Rattle.naturals.proofs.FirstFailing.{first_none, none_first}
use Rattle.refusals.specs.declared.Refusal.TheVariants.{Rate}
use Rattle.refusals.proofs.Passing.{first_passed, next_passed, test_passed}
use Rattle.integers.specs.Half.{is_rate}
use Rattle.hierarchy.proofs.Values.{value_suc}
use Rattle.shapes.specs.declared.Shape.{Shape}
use Rattle.shapes.specs.Shapes.{check_shape, points_of, check_length}
use Rattle.shapes.proofs.Checked.{InRange, passed_in_range, in_range_passed, length_passed, length_passes}
use Rattle.tables.specs.Tables.{check_table, rate_at, check_rates, check_rated}

pub record Opens (s : Shape) (xs : List ℤ) : Type 0 where
  pub range : InRange s
  pub long : length xs ≡ points_of s

module _ (s : Shape) (xs : List ℤ) where
  pub table_passed : check_table s xs ≡ Ok tt → Opens s xs
  unfolding check_table
  table_passed e =
      let long = check_length s (length xs) in
      record {
        range = passed_in_range s (first_passed (check_shape s) long e);
        long = length_passed s (length xs) (next_passed (check_shape s) long e);
      }

  pub table_passes : Opens s xs → check_table s xs ≡ Ok tt
  unfolding check_table
  table_passes o = rw (in_range_passed s o.range, length_passes s (length xs) o.long)

pub rate_place : (xs : List ℤ) (p : ℕ) → rate_at xs p ≡ is_rate (get_or xs p (pos 0))
unfolding rate_at
rate_place xs p = ap is_rate (value_suc xs p)

module _ (xs : List ℤ) where
  pub rates_passed : check_rates xs ≡ Ok tt → Passes (rate_at xs) (length xs)
  unfolding check_rates
  rates_passed e =
      let first = first_failing (rate_at xs) (length xs) in
      none_first (rate_at xs) (length xs) (leb-true (length xs) first (test_passed (leb (length xs) first) (Rate first) e))

  pub rates_pass : Passes (rate_at xs) (length xs) → check_rates xs ≡ Ok tt
  unfolding check_rates
  rates_pass each = rw (first_none (rate_at xs) (length xs) each, le-leb (length xs) (length xs) (omega arith))

pub rated_pass : (s : Shape) (xs : List ℤ) → Opens s xs → Passes (rate_at xs) (length xs) → check_rated s xs ≡ Ok tt
rated_pass s xs o each = rw (table_passes s xs o) (rates_pass xs each)

module _ (s : Shape) (xs : List ℤ) (e : check_rated s xs ≡ Ok tt) where
  pub rated_opens : Opens s xs
  rated_opens = table_passed s xs (first_passed (check_table s xs) (check_rates xs) e)

  pub rated_passes : Passes (rate_at xs) (length xs)
  rated_passes = rates_passed xs (next_passed (check_table s xs) (check_rates xs) e)
