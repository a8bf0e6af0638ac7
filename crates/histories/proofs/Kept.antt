-- Every account of a history is possible: an opening is refused where the common points would not suffice, and a closing leaves part of what was open.
-- Assumes nothing.
use Rattle.std.specs.Prelude.{Ok}
use mathlib.Core.Path.{◌≡◌, refl}
use mathlib.Core.Logic.{inl, inr}
use mathlib.Core.List.{List, [], ◌∷◌}
use Prim.Native.Nat.{ℕ, ◌-◌, ◌<◌}
use lib.ListN.{length, length-replicate}
use Rattle.naturals.specs.Sum.{sum_to}
use Rattle.naturals.specs.Test.{all}
use Rattle.naturals.proofs.Cases.{eq_or_not}
use Rattle.refusals.proofs.Passing.{passed_or_refused}
use Rattle.accounts.specs.declared.Account.{Account}
use Rattle.accounts.specs.Accounts.{offices, tags, byte_of, slot, is_slot, points_in, under, points_under, held, above, common, slot_passes, office_passes, empty, put}
use Rattle.accounts.specs.Calls.{check_common, check_account, opened, closed}
use Rattle.histories.specs.Histories.{Call, opening, closing, carried_out, run, history}
use Rattle.accounts.proofs.Bytes.{Holds, shape_back}
use Rattle.accounts.proofs.Slots.{put_long, put_same, put_other}
use Rattle.histories.proofs.Verdicts.{InOffice, office_in, Opened, open_passed, close_passed, call_refused}
use Rattle.histories.proofs.Possible.{Possible, passes_possible, PartOf, part_possible}

-- What holds of every account of a history.
pub record Kept (a : Account) : Type 0 where
  pub long : length a.slots ≡ 32
  pub possible : Possible a

empty_passes : check_account empty ≡ Ok tt
unfolding check_account check_common all office_passes slot_passes is_slot common above held points_under points_in sum_to
empty_passes = refl

pub empty_kept : Kept empty
empty_kept = record { long = length-replicate {A = ℕ} 32 0; possible = passes_possible empty empty_passes }

-- What a slot may hold, put into one.
put_slots : (a : Account) (o tag byte : ℕ) → Kept a → o < offices → tag < tags → Holds byte →
    (p u : ℕ) → p < offices → u < tags → Holds (under (put a o tag byte) p u)
put_slots a o tag byte k o_in tag_in holds p u p_in u_in =
    eq_or_not (slot p u) (slot o tag)
    (λ same. rw (same, put_same a o tag byte tag_in k.long o_in) holds)
    (λ other. rw (put_other a o tag byte p u other) (k.possible.slots p u p_in u_in))

pub opened_kept : (a : Account) (office tag axes level : ℕ) → Kept a → Opened a office tag axes level → Kept (opened a office tag axes level)
opened_kept a office tag axes level k o =
    let place = o.ready.place in
    let byte = byte_of axes level in
    record {
      long = put_long a (office - 1) tag byte k.long;
      possible = record {
        slots = put_slots a (office - 1) tag byte k (office_in office tag place) place.tag_in
            (inr (rw (shape_back axes level o.ready.shape) o.ready.shape));
        suffices = o.suffices;
      };
    }

closed_part : (a : Account) (office tag : ℕ) → Kept a → InOffice office tag → PartOf (closed a office tag) a
closed_part a office tag k place p u p_in u_in =
    eq_or_not (slot p u) (slot (office - 1) tag)
    (λ same. inl (rw same (put_same a (office - 1) tag 0 place.tag_in k.long (office_in office tag place))))
    (λ other. inr (put_other a (office - 1) tag 0 p u other))

closed_kept : (a : Account) (office tag : ℕ) → Kept a → InOffice office tag → Kept (closed a office tag)
closed_kept a office tag k place =
    record {
      long = put_long a (office - 1) tag 0 k.long;
      possible = part_possible (closed a office tag) a (closed_part a office tag k place) k.possible;
    }

pub kept_call : (call : Call) (a : Account) → Kept a → Kept (carried_out call a).account
kept_call (opening office tag axes level) a k =
    passed_or_refused (carried_out (opening office tag axes level) a).verdict
    (λ passed. let o = open_passed a office tag axes level passed in rw o.leaves (opened_kept a office tag axes level k o))
    (λ r e. rw (call_refused (opening office tag axes level) a r e) k)
kept_call (closing office tag) a k =
    passed_or_refused (carried_out (closing office tag) a).verdict
    (λ passed. let c = close_passed a office tag passed in rw c.leaves (closed_kept a office tag k c.place))
    (λ r e. rw (call_refused (closing office tag) a r e) k)

kept_run : (calls : List Call) (a : Account) → Kept a → Kept (run calls a).account
unfolding run
kept_run [] a k = k
kept_run (call ∷ calls) a k = kept_run calls (carried_out call a).account (kept_call call a k)

pub history_kept : (calls : List Call) → Kept (history calls).account
history_kept calls = kept_run calls empty empty_kept
