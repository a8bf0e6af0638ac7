-- A table opened under a tag and closed again leaves the account as it was: the tag was free, so nothing stands there again.
-- Assumes nothing.
use Rattle.std.specs.Prelude.{Ok}
use mathlib.Core.Path.{◌≡◌, ap, sym, ◌∙◌}
use Prim.Native.Nat.{ℕ, ◌-◌}
use lib.ListN.{length, set}
use lib.Seq.{set-set, set-get_or}
use borrow.Author.Tests.{ne_eqb}
use Rattle.accounts.specs.declared.Account.{Account}
use Rattle.accounts.specs.Accounts.{account_of, byte_of, slot}
use Rattle.accounts.specs.Calls.{check_open, opened, closed, done, open_table, close_table}
use Rattle.accounts.proofs.Bytes.{taken}
use Rattle.accounts.proofs.Slots.{put_same}
use Rattle.histories.proofs.Verdicts.{office_in, slot_passes, Ready, open_passed}
use Rattle.histories.proofs.Possible.{possible_passes, passes_possible}
use Rattle.histories.proofs.Kept.{opened_kept}

emptied : (a : Account) (office tag axes level : ℕ) → Ready a office tag axes level → closed (opened a office tag axes level) office tag ≡ a
emptied a office tag axes level r =
    let k = slot (office - 1) tag in
    ap account_of (set-set a.slots k (byte_of axes level) 0 ∙ ap (set a.slots k) (sym r.free) ∙ set-get_or a.slots k 0)

pub closed_again : (a : Account) (office tag axes level : ℕ) → length a.slots ≡ 32 → (open_table a office tag axes level).verdict ≡ Ok tt →
    close_table (open_table a office tag axes level).account office tag ≡ done a
unfolding close_table check_open
closed_again a office tag axes level long passed =
    let o = open_passed a office tag axes level passed in
    let place = o.ready.place in
    let byte = byte_of axes level in
    let o_in = office_in office tag place in
    let kept = opened_kept a office tag axes level (record { long = long; possible = passes_possible a o.ready.possible }) o in
    rw (
      o.leaves,
      possible_passes (opened a office tag axes level) kept.possible,
      slot_passes office tag place,
      put_same a (office - 1) tag byte place.tag_in long o_in,
      ne_eqb byte 0 (taken axes level o.ready.shape),
    )
    (ap done (emptied a office tag axes level o.ready))
