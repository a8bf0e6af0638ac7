-- The calls on an account (document 02, i): opening and closing a table, and what a planner reads. The checks stand in the paper's order, first match wins.
-- Assumes nothing.
use Rattle.std.specs.Prelude.{not, ◌&&◌, ℕ, ◌-◌, leb, ltb, if◌then◌else◌, Option, Some, None, Result, Ok, Err}
use Rattle.naturals.specs.Test.{all}
use Rattle.refusals.specs.declared.Refusal.{Refusal}
use Rattle.refusals.specs.declared.Refusal.TheVariants.{Allowance, Tag, NoSlot}
use Rattle.refusals.specs.Checks.{unless, ◌and_then◌, answer, Verdict}
use Rattle.shapes.specs.declared.Shape.{Shape}
use Rattle.shapes.specs.Shapes.{sparse, check_shape}
use Rattle.accounts.specs.declared.Account.{Account}
use Rattle.accounts.specs.declared.Answered.{Answered}
use Rattle.accounts.specs.declared.Usage.{Usage}
use Rattle.accounts.specs.Accounts.{offices, tags, common_points, byte_of, shape_in, is_free, under, held_by, total, common, office_passes, put}

-- The common points in use are no more than there are, else refused with 20.
unfoldable pub check_common : Account → Verdict
check_common a = unless (leb (common a) common_points) Allowance

-- An account that some history gives, else refused with 20: each slot holds nothing or a shape that passes, and the common points suffice. (That these are, of
-- 32 slots, the accounts of histories is proved: crate histories.)
unfoldable pub check_account : Account → Verdict
check_account a = unless (all (office_passes a) offices) Allowance and_then check_common a

-- An office is one of 1 to 4 and a tag one of 0 to 7, else refused with 22.
unfoldable pub check_slot : ℕ → ℕ → Verdict
check_slot office tag = unless (leb 1 office && leb office offices && ltb tag tags) NoSlot

-- Nothing is open under a tag of the office at place o, or something is: else refused with 21.
unfoldable pub check_free : Account → ℕ → ℕ → Verdict
check_free a o tag = unless (is_free (under a o tag)) Tag

unfoldable pub check_open : Account → ℕ → ℕ → Verdict
check_open a o tag = unless (not (is_free (under a o tag))) Tag

-- The account with this table opened, and with the one under the tag closed.
abbrev pub opened : Account → ℕ → ℕ → ℕ → ℕ → Account
opened a office tag axes level = put a (office - 1) tag (byte_of axes level)

abbrev pub closed : Account → ℕ → ℕ → Account
closed a office tag = put a (office - 1) tag 0

-- What a call leaves: a refused one the account as it was.
abbrev pub done : Account → Answered
done a = record { verdict = Ok tt; account = a }

abbrev pub refused : Account → Refusal → Answered
refused a r = record { verdict = Err r; account = a }

-- What an opening has to pass before the common points that it would take are looked at: refused with 20 for the account itself, then with 1, 2, 19, 22 or 21.
unfoldable pub check_opening : Account → ℕ → ℕ → ℕ → ℕ → Verdict
check_opening a office tag axes level =
    check_account a and_then check_shape (sparse axes level) and_then check_slot office tag and_then check_free a (office - 1) tag

-- Opening: at last refused with 20 where the common points would not suffice.
unfoldable pub open_table : Account → ℕ → ℕ → ℕ → ℕ → Answered
open_table a office tag axes level =
    answer (refused a)
    (check_opening a office tag axes level and_then check_common (opened a office tag axes level))
    (done (opened a office tag axes level))

-- Closing: refused with 20 for the account itself, then with 22 or 21.
unfoldable pub close_table : Account → ℕ → ℕ → Answered
close_table a office tag =
    answer (refused a)
    (check_account a and_then check_slot office tag and_then check_open a (office - 1) tag)
    (done (closed a office tag))

-- What a planner reads: the points open, by office and in all, and the common points in use and free. Refused with 20.
abbrev pub usage : Account → Usage
usage a =
    record {
      by_office = held_by a;
      in_all = total a;
      common = common a;
      free = common_points - common a;
    }

unfoldable pub usage_of : Account → Result Usage Refusal
usage_of a = answer Err (check_account a) (Ok (usage a))

-- What is open under a tag, if anything. Refused with 20 or 22.
abbrev pub shape_or_none : ℕ → Option Shape
shape_or_none byte = if is_free byte then None else Some (shape_in byte)

unfoldable pub shape_under : Account → ℕ → ℕ → Result (Option Shape) Refusal
shape_under a office tag = answer Err (check_account a and_then check_slot office tag) (Ok (shape_or_none (under a (office - 1) tag)))
