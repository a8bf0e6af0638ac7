-- What it means that an account is possible, that is, passes the check of accounts: each slot holds nothing or a shape that passes, and the common points
-- suffice. What is left of a possible account where some slots are emptied is possible too, since no office then has more open.
-- Assumes nothing.
use Rattle.std.specs.Prelude.{Ok}
use mathlib.Core.Path.{◌≡◌, ap}
use mathlib.Core.Bool.{true}
use mathlib.Core.Logic.{◌⊎◌, inl, ⊎_elim}
use Prim.Native.Nat.{ℕ, ◌≤◌, ◌<◌}
use native.Mathlib.Omega.{arith}
use lib.Dec.{leb}
use borrow.Author.Tests.{leb-true, le-leb}
use Rattle.naturals.specs.Test.{all}
use Rattle.naturals.proofs.Tests.{all_at, all_from}
use Rattle.refusals.specs.declared.Refusal.TheVariants.{Allowance}
use Rattle.refusals.specs.Checks.{unless}
use Rattle.refusals.proofs.Passing.{first_passed, next_passed, test_passed}
use Rattle.accounts.specs.declared.Account.{Account}
use Rattle.accounts.specs.Accounts.{offices, tags, common_points, points_in, under, points_under, held, above, common, slot_passes, office_passes}
use Rattle.accounts.specs.Calls.{check_common, check_account}
use Rattle.naturals.proofs.Changes.{sum_le}
use Rattle.accounts.proofs.Bytes.{Holds, slot_holds, holds_slot, free_points}

pub record Possible (a : Account) : Type 0 where
  pub slots : (o tag : ℕ) → o < offices → tag < tags → Holds (under a o tag)
  pub suffices : common a ≤ common_points

office_holds : (a : Account) (o : ℕ) → ((tag : ℕ) → tag < tags → Holds (under a o tag)) → office_passes a o ≡ true
unfolding office_passes slot_passes
office_holds a o each = all_from (slot_passes a o) tags (λ tag tag_in. holds_slot (under a o tag) (each tag tag_in))

office_slots : (a : Account) (o : ℕ) → office_passes a o ≡ true → (tag : ℕ) → tag < tags → Holds (under a o tag)
unfolding office_passes slot_passes
office_slots a o e tag tag_in = slot_holds (under a o tag) (all_at (slot_passes a o) tags e tag tag_in)

pub possible_passes : (a : Account) → Possible a → check_account a ≡ Ok tt
unfolding check_account check_common
possible_passes a p =
    rw (
      all_from (office_passes a) offices (λ o o_in. office_holds a o (λ tag tag_in. p.slots o tag o_in tag_in)),
      le-leb (common a) common_points p.suffices,
    )

pub passes_possible : (a : Account) → check_account a ≡ Ok tt → Possible a
unfolding check_account check_common
passes_possible a e =
    let each = all (office_passes a) offices in
    let enough = leb (common a) common_points in
    let first = unless each Allowance in
    let last = unless enough Allowance in
    let passes = test_passed each Allowance (first_passed first last e) in
    record {
      slots = λ o tag o_in tag_in. office_slots a o (all_at (office_passes a) offices passes o o_in) tag tag_in;
      suffices = leb-true (common a) common_points (test_passed enough Allowance (next_passed first last e));
    }

-- Each slot of the first account holds nothing, or what it holds in the second.
abbrev pub PartOf : Account → Account → Type 0
PartOf b a = (o tag : ℕ) → o < offices → tag < tags → (under b o tag ≡ 0) ⊎ (under b o tag ≡ under a o tag)

module _ (b a : Account) (part : PartOf b a) where
  part_points : (o tag : ℕ) → o < offices → tag < tags → points_under b o tag ≤ points_under a o tag
  unfolding points_under
  part_points o tag o_in tag_in =
      ⊎_elim (λ free. omega (arith, ap points_in free, free_points)) (λ same. omega (arith, ap points_in same)) (part o tag o_in tag_in)

  part_above : (o : ℕ) → o < offices → above b o ≤ above a o
  unfolding above held
  part_above o o_in =
      let less = sum_le (points_under b o) (points_under a o) tags (λ tag tag_in. part_points o tag o_in tag_in) in
      omega (arith, less)

  pub part_common : common b ≤ common a
  unfolding common
  part_common = sum_le (above b) (above a) offices part_above

  pub part_possible : Possible a → Possible b
  part_possible p =
      record {
        slots = λ o tag o_in tag_in. ⊎_elim (λ free. inl free) (λ same. rw same (p.slots o tag o_in tag_in)) (part o tag o_in tag_in);
        suffices = omega (arith, part_common, p.suffices);
      }
