-- After every history the points open are those opened less those closed, and never more than the whole account: each call that passes changes one slot.
-- Assumes nothing.
use mathlib.Core.Path.{◌≡◌, refl, ap, ◌∙◌}
use mathlib.Core.List.{List, [], ◌∷◌}
use Prim.Native.Nat.{ℕ, ◌+◌, ◌-◌, ◌*◌, ◌≤◌}
use native.Mathlib.Omega.{arith}
use Rattle.naturals.specs.Sum.{sum_to}
use Rattle.refusals.proofs.Passing.{passed_or_refused}
use Rattle.accounts.specs.declared.Account.{Account}
use Rattle.accounts.specs.Accounts.{offices, account_points, own_points, common_points, byte_of, points_in, under, points_under, held, total, above, common, empty, put}
use Rattle.histories.specs.Histories.{Call, opening, closing, carried_out, run, history}
use Rattle.histories.specs.Balance.{opens, closes, all_opened, all_closed}
use Rattle.naturals.proofs.Changes.{sum_change}
use Rattle.accounts.proofs.Bytes.{free_points, shape_points}
use Rattle.accounts.proofs.Slots.{held_put, held_other}
use Rattle.histories.proofs.Verdicts.{InOffice, office_in, open_passed, close_passed, call_refused}
use Rattle.histories.proofs.Kept.{Kept, empty_kept, kept_call, history_kept}

-- The points open change by what a slot holds more or less.
total_put : (a : Account) (office tag byte : ℕ) → Kept a → InOffice office tag →
    total (put a (office - 1) tag byte) + points_under a (office - 1) tag ≡ total a + points_in byte
unfolding total
total_put a office tag byte k place =
    let o = office - 1 in
    let o_in = office_in office tag place in
    let others = sum_change (held (put a o tag byte)) (held a) offices o o_in (λ p p_in ne. held_other a o tag byte place.tag_in p ne) in
    omega (arith, others, held_put a o tag byte place.tag_in k.long o_in)

free_under : (a : Account) (o tag : ℕ) → under a o tag ≡ 0 → points_under a o tag ≡ 0
unfolding points_under
free_under a o tag free = ap points_in free ∙ free_points

one_call : (call : Call) (a : Account) → Kept a → total (carried_out call a).account + closes call a ≡ total a + opens call a
unfolding opens closes
one_call (opening office tag axes level) a k =
    passed_or_refused (carried_out (opening office tag axes level) a).verdict
    (λ passed.
    let o = open_passed a office tag axes level passed in
    rw o.leaves
    (omega (
      arith,
      total_put a office tag (byte_of axes level) k o.ready.place,
      free_under a (office - 1) tag o.ready.free,
      shape_points axes level o.ready.shape,
    )))
    (λ r e. rw (call_refused (opening office tag axes level) a r e))
one_call (closing office tag) a k =
    passed_or_refused (carried_out (closing office tag) a).verdict
    (λ passed.
    let c = close_passed a office tag passed in
    rw c.leaves (omega (arith, total_put a office tag 0 k c.place, free_points)))
    (λ r e. rw (call_refused (closing office tag) a r e))

balance_from : (calls : List Call) (a : Account) → Kept a → total (run calls a).account + all_closed calls a ≡ total a + all_opened calls a
unfolding run all_opened all_closed
balance_from [] a k = refl
balance_from (call ∷ calls) a k =
    omega (arith, one_call call a k, balance_from calls (carried_out call a).account (kept_call call a k))

nothing_open : total empty ≡ 0
unfolding total held points_under points_in sum_to
nothing_open = refl

-- After every history.
pub balance : (calls : List Call) → total (history calls).account + all_closed calls empty ≡ all_opened calls empty
balance calls = omega (arith, balance_from calls empty empty_kept, nothing_open)

-- The common points in use are never more than there are.
pub common_within : (calls : List Call) → common (history calls).account ≤ common_points
common_within calls = let kept = history_kept calls in kept.possible.suffices

-- An office has open what it has above its own points, and at most these; so the whole account is 4 × 4,096 + 49,152 points.
all_suffices : (a : Account) → total a ≤ common a + offices * own_points
unfolding total common above sum_to
all_suffices a = omega arith

pub within_account : (calls : List Call) → total (history calls).account ≤ account_points
within_account calls = omega (arith, all_suffices (history calls).account, common_within calls)
