-- `accounts::close_in` meets its contract: each return is decided by the checks on the way to it.
-- Assumes nothing.
use mathlib.Core.Path.{◌≡◌, refl, sym, ap, ap₂, ◌∙◌}
use Rattle.std.proofs.Common.{rules, ℕ, Err}
use lib.ListN.{set}
use Rattle.accounts.specs.Accounts.{account_of, put}
use Rattle.accounts.specs.Calls.{check_open, done, close_table}
use Rattle.accounts.proofs.close_in.Goals as goal

pub returns-in_err-check : goal.returns-in_err-check
unfolding close_table
returns-in_err-check c =
    let same : c.from_residual.result ≡ Err c.in_err-check.field-0.0 = search rules in
    rw (same, sym c.in_err-check.ensures.verdict) refl

pub returns-in_err-slot : goal.returns-in_err-slot
unfolding close_table
returns-in_err-slot c =
    let same : c.from_residual-in_err-slot.result ≡ Err c.in_err-slot.field-0.0 = search rules in
    rw (same, sym c.in_ok-check.ensures.verdict, sym c.in_err-slot.ensures.verdict) refl

pub returns-in_err-check_open : goal.returns-in_err-check_open
unfolding close_table
returns-in_err-check_open c =
    let same : c.from_residual-in_err-check_open.result ≡ Err c.in_err-check_open.field-0.0 = search rules in
    let slot = c.in_ok-slot.ensures.slot in
    let taken = sym (c.in_err-check_open.ensures ∙ ap₂ (check_open (account_of c.args.slots.now)) slot.0 slot.1) in
    rw (same, sym c.in_ok-check.ensures.verdict, sym c.in_ok-slot.ensures.verdict, taken) refl

pub returns : goal.returns
unfolding close_table
returns c =
    let a = account_of c.args.slots.now in
    let slot = c.in_ok-slot.ensures.slot in
    let taken = sym (c.in_ok-check_open.ensures ∙ ap₂ (check_open a) slot.0 slot.1) in
    let place = ap (λ (k : ℕ). done (account_of (set a.slots k 0))) c.place.ensures.0 in
    rw (sym c.in_ok-check.ensures.verdict, sym c.in_ok-slot.ensures.verdict, taken)
    (place ∙ ap₂ (λ (o t : ℕ). done (put a o t 0)) slot.0 slot.1)
