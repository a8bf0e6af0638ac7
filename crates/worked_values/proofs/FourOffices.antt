-- The manual's day of four offices (section 20): each answer, the common points that are free after each call, and the account at the end. By computing.
-- Assumes nothing.
use Rattle.std.specs.Prelude.{Ok, Err}
use mathlib.Core.Path.{◌≡◌, refl}
use mathlib.Core.List.{List, [], ◌∷◌, ◌++◌}
use Prim.Native.Nat.{ℕ, ◌-◌}
use lib.ListN.{replicate}
use Rattle.naturals.specs.Sum.{sum_to}
use Rattle.naturals.specs.Test.{all}
use Rattle.refusals.specs.declared.Refusal.TheVariants.{TooManyPoints, Allowance, Tag, NoSlot}
use Rattle.numbering.specs.Binomial.{choose}
use Rattle.numbering.specs.Count.{vectors, shell, start, points}
use Rattle.shapes.specs.Shapes.{points_of, check_limits, check_size, check_shape}
use Rattle.accounts.specs.declared.Account.{Account}
use Rattle.accounts.specs.Accounts.{common_points, is_slot, points_in, points_under, held, above, common, slot_passes, office_passes, empty}
use Rattle.accounts.specs.Calls.{check_common, check_account, check_slot, check_free, check_open, check_opening, open_table, close_table}
use Rattle.histories.specs.Histories.{Call, opening, closing, carried_out, run, history}

abbrev pub day : List Call
day =
    opening 1 0 8 5
    ∷ opening 2 0 4 7
    ∷ opening 3 0 3 7
    ∷ opening 3 0 3 6
    ∷ opening 3 1 3 5
    ∷ opening 3 1 1 0
    ∷ opening 4 0 2 8
    ∷ opening 4 8 2 8
    ∷ opening 5 0 2 8
    ∷ opening 4 1 8 6
    ∷ closing 2 3
    ∷ closing 1 0
    ∷ opening 3 2 3 7
    ∷ []

-- The common points that are free after each call.
abbrev pub free_after : List Call → Account → List ℕ
free_after [] a = []
free_after (call ∷ calls) a =
    let next = (carried_out call a).account in (common_points - common next) ∷ free_after calls next

pub answers_of_the_day : (history day).answers
    ≡ Ok tt
    ∷ Ok tt
    ∷ Err Allowance
    ∷ Ok tt
    ∷ Ok tt
    ∷ Err Tag
    ∷ Ok tt
    ∷ Err NoSlot
    ∷ Err NoSlot
    ∷ Err TooManyPoints
    ∷ Err Tag
    ∷ Ok tt
    ∷ Ok tt
    ∷ []
unfolding run open_table close_table check_opening check_account check_common check_slot check_free check_open all office_passes slot_passes is_slot check_shape check_limits check_size common above held points_under points_in points_of points start shell vectors sum_to choose
answers_of_the_day = refl

pub free_of_the_day : free_after day empty
    ≡ 21503 ∷ 2302 ∷ 2302 ∷ 2302 ∷ 2302 ∷ 2302 ∷ 2301 ∷ 2301 ∷ 2301 ∷ 2301 ∷ 2301 ∷ 29950 ∷ 22785 ∷ []
unfolding run open_table close_table check_opening check_account check_common check_slot check_free check_open all office_passes slot_passes is_slot check_shape check_limits check_size common above held points_under points_in points_of points start shell vectors sum_to choose
free_of_the_day = refl

-- Hex 47, 36, 35, 37 and 28.
pub account_of_the_day : (history day).account.slots
    ≡ replicate 8 0 ++ (71 ∷ replicate 7 0) ++ (54 ∷ 53 ∷ 55 ∷ replicate 5 0) ++ (40 ∷ replicate 7 0)
unfolding run open_table close_table check_opening check_account check_common check_slot check_free check_open all office_passes slot_passes is_slot check_shape check_limits check_size common above held points_under points_in points_of points start shell vectors sum_to choose
account_of_the_day = refl
