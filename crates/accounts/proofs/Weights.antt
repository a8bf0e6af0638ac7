-- The check of an account by one test. The table of points has for each byte what its slot weighs: a test, which antt computes, compares all 256 entries. Where each
-- slot holds what it may, the weights are the points that are open. A slot that holds something else weighs more than its office's own points and all common ones
-- together, so the test of the common points refuses such an account as well.
-- Assumes nothing.
use Rattle.std.specs.Prelude.{Ok, Err}
use mathlib.Core.Path.{◌≡◌, refl, ap}
use mathlib.Core.Bool.{Bool, true, false}
use mathlib.Core.Logic.{⊎_elim}
use Prim.Native.Nat.{ℕ, zero, suc, ◌*◌, ◌≤◌, ◌<◌}
use native.Mathlib.Omega.{arith}
use lib.ListN.{get_or}
use lib.Dec.{eqb}
use borrow.Author.Tests.{le-leb, lt-leb, eqb-true, eqb-false}
use Rattle.naturals.specs.Sum.{sum_to}
use Rattle.naturals.specs.Test.{all}
use Rattle.naturals.proofs.Cases.{true_or_false}
use Rattle.naturals.proofs.Summed.{sum_bound}
use Rattle.naturals.proofs.Sums.{sum_to_cong, term_le}
use Rattle.naturals.proofs.Tests.{all_at, one_fails}
use Rattle.refusals.specs.declared.Refusal.TheVariants.{Allowance}
use Rattle.numbering.specs.Point.{at}
use Rattle.numbering.specs.Binomial.{choose}
use Rattle.numbering.specs.Count.{vectors, shell, start, points}
use Rattle.shapes.specs.Shapes.{most_points, points_of, check_limits, check_size, check_shape}
use Rattle.shapes.proofs.Checked.{passed_in_range}
use Rattle.accounts.specs.declared.Account.{Account}
use Rattle.accounts.specs.declared.TheConstants.{POINTS}
use Rattle.accounts.specs.Accounts.{offices, tags, common_points, shape_in, is_free, is_slot, points_in, under, points_under, by_office, held, held_by, above, common, slot_passes, office_passes}
use Rattle.accounts.specs.Calls.{check_common, check_account}
use Rattle.accounts.specs.Steps.{no_shape, weight, weight_under, weighed, weighed_by, above_at, common_over}
use Rattle.accounts.proofs.Bytes.{slot_holds}

-- ---- the table

right : ℕ → Bool
right byte = eqb (get_or POINTS byte 0) (weight byte)

all_right : all right 256 ≡ true
unfolding all right weight is_slot points_in check_shape check_limits check_size points_of points start shell vectors sum_to choose
all_right = refl

pub table_right : (byte : ℕ) → byte < 256 → get_or POINTS byte 0 ≡ weight byte
unfolding right
table_right byte h = eqb-true (get_or POINTS byte 0) (weight byte) (all_at right 256 all_right byte h)

-- ---- what the slots weigh

pub at_office : (f : ℕ → ℕ) (o : ℕ) → o < offices → at (by_office f) o ≡ f o
at_office f zero inside = refl
at_office f (suc zero) inside = refl
at_office f (suc (suc zero)) inside = refl
at_office f (suc (suc (suc zero))) inside = refl
at_office f (suc (suc (suc (suc o)))) inside = absurd (omega arith)

slot_weighs : (byte : ℕ) → is_slot byte ≡ true → weight byte ≡ points_in byte
unfolding weight
slot_weighs byte passes = rw passes

no_slot_weighs : (byte : ℕ) → is_slot byte ≡ false → weight byte ≡ no_shape
unfolding weight
no_slot_weighs byte fails = rw fails

-- A slot has at most the points of a shape.
slot_small : (byte : ℕ) → is_slot byte ≡ true → points_in byte ≤ most_points
unfolding points_in
slot_small byte pass =
    true_or_false (is_free byte)
    (λ free. rw free (omega arith))
    (λ taken.
    rw taken
    (⊎_elim
    (λ free. absurd (eqb-false byte 0 taken free))
    (λ shape. (passed_in_range (shape_in byte) shape).small)
    (slot_holds byte pass)))

weight_small : (byte : ℕ) → weight byte < 65536
weight_small byte =
    true_or_false (is_slot byte)
    (λ pass. omega (arith, slot_weighs byte pass, slot_small byte pass))
    (λ fails. omega (arith, no_slot_weighs byte fails))

-- Some slots of an office weigh little.
under_small : (a : Account) (o tag : ℕ) → weight_under a o tag < 65536
unfolding weight_under
under_small a o tag = weight_small (under a o tag)

pub weighed_small : (a : Account) (o tag : ℕ) → sum_to (weight_under a o) tag ≤ 65536 * tag
weighed_small a o tag = sum_bound (weight_under a o) 65536 tag (under_small a o)

module _ (a : Account) where
  -- An office whose slots hold what they may weighs what it has open.
  office_weighs : (o : ℕ) → office_passes a o ≡ true → weighed a o ≡ held a o
  unfolding office_passes slot_passes weighed weight_under held points_under
  office_weighs o passes =
      sum_to_cong (weight_under a o) (points_under a o) tags (λ tag h. slot_weighs (under a o tag) (all_at (slot_passes a o) tags passes tag h))

  -- An office with a slot that holds something else weighs more than its own points and all common ones.
  office_outweighs : (o : ℕ) → office_passes a o ≡ false → no_shape ≤ weighed a o
  unfolding office_passes slot_passes weighed weight_under
  office_outweighs o fails =
      one_fails (slot_passes a o) tags fails
      (λ tag h no_slot. omega (arith, term_le (weight_under a o) tags tag h, no_slot_weighs (under a o tag) no_slot))

  pub common_is : common_over (held_by a) ≡ common a
  unfolding common_over common above sum_to
  common_is = refl

  -- Where each office passes, the weights are what the offices have open.
  all_weigh : all (office_passes a) offices ≡ true → weighed_by a ≡ held_by a
  all_weigh passes =
      let each = λ (o : ℕ) (h : o < offices). office_weighs o (all_at (office_passes a) offices passes o h) in
      rw (each 0 (omega arith), each 1 (omega arith), each 2 (omega arith), each 3 (omega arith)) refl

  one_outweighs : all (office_passes a) offices ≡ false → common_points < common_over (weighed_by a)
  unfolding common_over
  one_outweighs fails =
      one_fails (office_passes a) offices fails
      (λ o h no_office.
      omega (
        arith,
        term_le (above_at (weighed_by a)) offices o h,
        at_office (weighed a) o h,
        office_outweighs o no_office,
      ))

  -- ---- the check

  pub heavy_refused : common_points < common_over (weighed_by a) → check_account a ≡ Err Allowance
  unfolding check_account check_common
  heavy_refused heavy =
      true_or_false (all (office_passes a) offices)
      (λ passes.
      let more : common_points < common a = omega (arith, heavy, ap common_over (all_weigh passes), common_is) in
      rw (passes, lt-leb (common a) common_points more) refl)
      (λ fails. rw fails refl)

  -- What the one test tells where it passes.
  pub record Light : Type 0 where
    pub passes : check_account a ≡ Ok tt
    pub counted : weighed_by a ≡ held_by a
    pub suffices : common a ≤ common_points

  pub light_passes : common_over (weighed_by a) ≤ common_points → Light
  unfolding check_account check_common
  light_passes light =
      true_or_false (all (office_passes a) offices)
      (λ passes.
      let counted = all_weigh passes in
      let few : common a ≤ common_points = omega (arith, light, ap common_over counted, common_is) in
      record { passes = rw (passes, le-leb (common a) common_points few) refl; counted = counted; suffices = few })
      (λ fails. absurd (omega (arith, light, one_outweighs fails)))
