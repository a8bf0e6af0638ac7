-- What the offices have open tells the points open and the common points in use; an office of an account that passes has at most 53,248 points open. Once a table is
-- opened in a free slot its office has the table's points more, so the test of the common points can be reckoned before.
-- Assumes nothing.
use Rattle.std.specs.Prelude.{Ok}
use Rattle.std.specs.Result.{result_and}
use mathlib.Core.Path.{◌≡◌, ap}
use Prim.Native.Nat.{ℕ, ◌+◌, ◌≤◌, ◌<◌}
use native.Mathlib.Omega.{arith}
use lib.ListN.{length, set}
use lib.Seq.{get_or-set_same, get_or-set_other}
use borrow.Author.Tests.{eqb-true}
use Rattle.naturals.proofs.Cases.{eq_or_not}
use Rattle.naturals.proofs.Sums.{sum_to_zero, sum_to_suc, sum_to_cong, term_le}
use Rattle.refusals.specs.declared.Refusal.TheVariants.{Tag}
use Rattle.refusals.specs.Checks.{◌and_then◌}
use Rattle.refusals.proofs.Passing.{passed_or_refused, test_passed}
use Rattle.numbering.specs.Point.{at}
use Rattle.shapes.specs.Shapes.{sparse, points_of, check_shape}
use Rattle.accounts.specs.declared.Account.{Account}
use Rattle.accounts.specs.Accounts.{offices, tags, own_points, common_points, byte_of, is_free, points_in, under, points_under, held, held_by, total, above, common, put}
use Rattle.accounts.specs.Calls.{check_common, check_free}
use Rattle.accounts.specs.Steps.{above_at, common_over, check_more}
use Rattle.accounts.proofs.Bytes.{free_points, shape_points}
use Rattle.accounts.proofs.Slots.{held_put, held_other}
use Rattle.accounts.proofs.Weights.{at_office}

module _ (a : Account) where
  pub total_is : total a ≡ held a 0 + held a 1 + held a 2 + held a 3
  unfolding total
  total_is =
      let f = held a in
      omega (arith, sum_to_zero f, sum_to_suc f 0, sum_to_suc f 1, sum_to_suc f 2, sum_to_suc f 3)

  pub held_small : common a ≤ common_points → (o : ℕ) → o < offices → at (held_by a) o ≤ common_points + own_points
  unfolding common above
  held_small h o inside =
      let one = term_le (above a) offices o inside in omega (arith, h, one, at_office (held a) o inside)

-- What a passed test of a slot tells.
free_told : (a : Account) (o tag : ℕ) → check_free a o tag ≡ Ok tt → under a o tag ≡ 0
unfolding check_free
free_told a o tag e = eqb-true (under a o tag) 0 (test_passed (is_free (under a o tag)) Tag e)

-- The table is opened.
module _ (a : Account) (o tag axes level : ℕ) (long : length a.slots ≡ 32) (inside : o < offices) (tagged : tag < tags) where
  abbrev next : Account
  next = put a o tag (byte_of axes level)

  module _ (free : under a o tag ≡ 0) (passes : check_shape (sparse axes level) ≡ Ok tt) where
    held_more : held a o + points_of (sparse axes level) ≡ held next o
    unfolding points_under
    held_more =
        omega (
          arith,
          held_put a o tag (byte_of axes level) tagged long inside,
          ap points_in free,
          free_points,
          shape_points axes level passes,
        )

    common_opened : common_over (set (held_by a) o (at (held_by a) o + points_of (sparse axes level))) ≡ common next
    unfolding common_over common above
    common_opened =
        let more = at (held_by a) o + points_of (sparse axes level) in
        let own : more ≡ held next o = omega (arith, at_office (held a) o inside, held_more) in
        sum_to_cong (above_at (set (held_by a) o more)) (above next) offices
        (λ u h.
        eq_or_not u o
        (λ e. rw e (omega (arith, get_or-set_same (held_by a) o more 0 inside, own)))
        (λ ne.
        omega (
          arith,
          get_or-set_other (held_by a) o u more 0 ne,
          at_office (held a) u h,
          held_other a o tag (byte_of axes level) tagged u ne,
        )))

    more_opened : check_more (held_by a) o (points_of (sparse axes level)) ≡ check_common next
    unfolding check_more check_common
    more_opened = rw common_opened

  -- The last two checks of an opening: nothing is open under the tag, and then the common points suffice.
  pub last_checks : check_shape (sparse axes level) ≡ Ok tt →
      result_and (check_free a o tag) (check_more (held_by a) o (points_of (sparse axes level))) ≡ check_free a o tag and_then check_common next
  last_checks passes =
      passed_or_refused (check_free a o tag)
      (λ passed. rw passed (more_opened (free_told a o tag passed) passes))
      (λ r e. rw e)
