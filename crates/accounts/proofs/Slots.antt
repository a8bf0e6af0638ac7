-- What the slots of an account hold once one of them is put anew, and the points that the offices then have open: those of its office change by what the slot
-- now holds more or less, those of the others do not.
-- Assumes nothing.
use mathlib.Core.Path.{◌≡◌, ap, ◌∙◌}
use Prim.Native.Nat.{ℕ, ◌+◌, ◌<◌}
use native.Mathlib.Omega.{arith}
use lib.ListN.{length, length-set}
use lib.Seq.{get_or-set_same, get_or-set_other}
use Rattle.naturals.proofs.Sums.{sum_to_cong}
use Rattle.accounts.specs.declared.Account.{Account}
use Rattle.accounts.specs.Accounts.{offices, tags, points_in, slot, under, points_under, held, put}
use Rattle.naturals.proofs.Changes.{sum_change}

module _ (a : Account) (o tag byte : ℕ) where
  pub put_long : length a.slots ≡ 32 → length (put a o tag byte).slots ≡ 32
  put_long long = length-set a.slots (slot o tag) byte ∙ long

  pub put_other : (p u : ℕ) → (slot p u ≡ slot o tag → ⊥) → under (put a o tag byte) p u ≡ under a p u
  put_other p u ne = get_or-set_other a.slots (slot o tag) (slot p u) byte 0 ne

  module _ (tag_in : tag < tags) where
    pub held_other : (p : ℕ) → (p ≡ o → ⊥) → held (put a o tag byte) p ≡ held a p
    unfolding held points_under
    held_other p ne =
        sum_to_cong (points_under (put a o tag byte) p) (points_under a p) tags
        (λ u u_in. ap points_in (put_other p u (λ e. ne (omega arith))))

    module _ (long : length a.slots ≡ 32) (o_in : o < offices) where
      pub put_same : under (put a o tag byte) o tag ≡ byte
      put_same = get_or-set_same a.slots (slot o tag) byte 0 (omega (arith, long))

      pub held_put : held (put a o tag byte) o + points_under a o tag ≡ held a o + points_in byte
      unfolding held points_under
      held_put =
          let same = λ (u : ℕ) (u_in : u < tags) (ne : u ≡ tag → ⊥). ap points_in (put_other o u (λ e. ne (omega arith))) in
          let others = sum_change (points_under (put a o tag byte) o) (points_under a o) tags tag tag_in same in
          omega (arith, others, ap points_in put_same)
