-- What verdicts tell: of checks in a row, which passed; of a call, what it then leaves.
-- Assumes nothing.
use Rattle.std.specs.Prelude.{Ok, Err}
use mathlib.Core.Path.{◌≡◌, refl, ap, sym, ◌∙◌}
use mathlib.Core.Bool.{Bool, true, false, ◌&&◌}
use Prim.Native.Nat.{ℕ, ◌-◌, ◌≤◌, ◌<◌}
use native.Mathlib.Omega.{arith}
use lib.Dec.{leb, ltb}
use borrow.Author.Tests.{leb-true, ltb-true, le-leb, lt-ltb, eqb-true}
use Rattle.naturals.proofs.Tests.{and_left, and_right}
use Rattle.refusals.specs.declared.Refusal.{Refusal}
use Rattle.refusals.specs.declared.Refusal.TheVariants.{Allowance, Tag, NoSlot}
use Rattle.refusals.specs.Checks.{unless, ◌and_then◌, answer, Verdict}
use Rattle.refusals.specs.Refusals.{number_of}
use Rattle.refusals.proofs.Results.{refused_done, same_refusal}
use Rattle.refusals.proofs.Passing.{first_passed, next_passed, test_passed}
use Rattle.shapes.specs.Shapes.{sparse, check_shape}
use Rattle.accounts.specs.declared.Account.{Account}
use Rattle.accounts.specs.Accounts.{offices, tags, common_points, is_free, under, common}
use Rattle.accounts.specs.Calls.{check_common, check_account, check_slot, check_free, check_open, opened, closed, done, refused, check_opening, open_table, close_table}
use Rattle.histories.specs.Histories.{Call, opening, closing, carried_out}

-- Checks in a row do not refuse with 20 where none of them does, and a test refuses with its own number only.
pub row_not : (v w : Verdict) → (v ≡ Err Allowance → ⊥) → (w ≡ Err Allowance → ⊥) → v and_then w ≡ Err Allowance → ⊥
row_not (Ok _) w first next e = next e
row_not (Err r) w first next e = first e

pub test_not : (t : Bool) (r : Refusal) → (number_of r ≡ 20 → ⊥) → unless t r ≡ Err Allowance → ⊥
test_not true r ne e = refused_done Allowance tt (sym e)
test_not false r ne e = ne (ap number_of (same_refusal r Allowance e))

-- The numbers of an office and a tag.
pub record InOffice (office tag : ℕ) : Type 0 where
  pub first : 1 ≤ office
  pub last : office ≤ offices
  pub tag_in : tag < tags

pub office_in : (office tag : ℕ) → InOffice office tag → office - 1 < offices
office_in office tag i = omega (arith, i.first, i.last)

pub slot_passed : (office tag : ℕ) → check_slot office tag ≡ Ok tt → InOffice office tag
unfolding check_slot
slot_passed office tag e =
    let low = leb 1 office in
    let high = leb office offices in
    let inside = ltb tag tags in
    let all = test_passed (low && high && inside) NoSlot e in
    let both = and_left (low && high) inside all in
    record {
      first = leb-true 1 office (and_left low high both);
      last = leb-true office offices (and_right low high both);
      tag_in = ltb-true tag tags (and_right (low && high) inside all);
    }

pub slot_passes : (office tag : ℕ) → InOffice office tag → check_slot office tag ≡ Ok tt
unfolding check_slot
slot_passes office tag i = rw (le-leb 1 office i.first, le-leb office offices i.last, lt-ltb tag tags i.tag_in)

-- What holds where nothing but the allowance can refuse an opening.
pub record Ready (a : Account) (office tag axes level : ℕ) : Type 0 where
  pub possible : check_account a ≡ Ok tt
  pub shape : check_shape (sparse axes level) ≡ Ok tt
  pub place : InOffice office tag
  pub free : under a (office - 1) tag ≡ 0

pub opening_ready : (a : Account) (office tag axes level : ℕ) → check_opening a office tag axes level ≡ Ok tt → Ready a office tag axes level
unfolding check_opening check_free
opening_ready a office tag axes level e =
    let account = check_account a in
    let shape = check_shape (sparse axes level) in
    let place = check_slot office tag in
    let byte = under a (office - 1) tag in
    let free = unless (is_free byte) Tag in
    let from_shape = next_passed account (shape and_then place and_then free) e in
    let from_place = next_passed shape (place and_then free) from_shape in
    record {
      possible = first_passed account (shape and_then place and_then free) e;
      shape = first_passed shape (place and_then free) from_shape;
      place = slot_passed office tag (first_passed place free from_place);
      free = eqb-true byte 0 (test_passed (is_free byte) Tag (next_passed place free from_place));
    }

-- A call says what its checks say.
says_checks : (a b : Account) (v : Verdict) → (answer (refused a) v (done b)).verdict ≡ v
says_checks a b (Ok _) = refl
says_checks a b (Err r) = refl

pub open_says : (a : Account) (office tag axes level : ℕ) →
    (open_table a office tag axes level).verdict ≡ check_opening a office tag axes level and_then check_common (opened a office tag axes level)
unfolding open_table
open_says a office tag axes level = says_checks a (opened a office tag axes level) _

pub close_says : (a : Account) (office tag : ℕ) →
    (close_table a office tag).verdict ≡ check_account a and_then check_slot office tag and_then check_open a (office - 1) tag
unfolding close_table
close_says a office tag = says_checks a (closed a office tag) _

-- A refused call leaves the account as it was.
refused_so : (a b : Account) (v : Verdict) (r : Refusal) → (answer (refused a) v (done b)).verdict ≡ Err r → answer (refused a) v (done b) ≡ refused a r
refused_so a b v r e = rw (sym (says_checks a b v) ∙ e)

pub call_refused : (call : Call) (a : Account) (r : Refusal) → (carried_out call a).verdict ≡ Err r → carried_out call a ≡ refused a r
unfolding open_table close_table
call_refused (opening office tag axes level) a r e = refused_so a _ _ r e
call_refused (closing office tag) a r e = refused_so a _ _ r e

-- An opening that passes, and a closing that does.
pub record Opened (a : Account) (office tag axes level : ℕ) : Type 0 where
  pub ready : Ready a office tag axes level
  pub suffices : common (opened a office tag axes level) ≤ common_points
  pub leaves : open_table a office tag axes level ≡ done (opened a office tag axes level)

pub open_passed : (a : Account) (office tag axes level : ℕ) → (open_table a office tag axes level).verdict ≡ Ok tt → Opened a office tag axes level
unfolding open_table check_common
open_passed a office tag axes level e =
    let b = opened a office tag axes level in
    let before = check_opening a office tag axes level in
    let enough = leb (common b) common_points in
    let last = unless enough Allowance in
    let all : before and_then last ≡ Ok tt = sym (open_says a office tag axes level) ∙ e in
    record {
      ready = opening_ready a office tag axes level (first_passed before last all);
      suffices = leb-true (common b) common_points (test_passed enough Allowance (next_passed before last all));
      leaves = rw all;
    }

pub record Closed (a : Account) (office tag : ℕ) : Type 0 where
  pub place : InOffice office tag
  pub leaves : close_table a office tag ≡ done (closed a office tag)

pub close_passed : (a : Account) (office tag : ℕ) → (close_table a office tag).verdict ≡ Ok tt → Closed a office tag
unfolding close_table
close_passed a office tag e =
    let account = check_account a in
    let place = check_slot office tag in
    let last = check_open a (office - 1) tag in
    let all : account and_then place and_then last ≡ Ok tt = sym (close_says a office tag) ∙ e in
    record {
      place = slot_passed office tag (first_passed place last (next_passed account (place and_then last) all));
      leaves = rw all;
    }
