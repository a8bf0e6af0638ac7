-- `accounts::usage_in` meets its contract: what the check counts is what the definition sums.
-- Assumes nothing.
use mathlib.Core.List.{List}
use mathlib.Core.Path.{◌≡◌, refl, sym, ap, ◌∙◌}
use Rattle.std.proofs.Common.{rules, arith, ℕ, Err}
use Rattle.numbering.specs.Point.{at}
use Rattle.accounts.specs.Accounts.{account_of, common}
use Rattle.accounts.specs.Calls.{usage_of}
use Rattle.accounts.specs.Steps.{common_over}
use Rattle.accounts.proofs.Weights.{common_is}
use Rattle.accounts.proofs.Opening.{total_is}
use Rattle.accounts.proofs.usage_in.Goals.{After-common_of-common}
use Rattle.accounts.proofs.usage_in.Goals as goal

-- the common points in use
common_told : (c : After-common_of-common) → c.common_of-common.result ≡ common (account_of c.args.slots.now)
common_told c =
    c.common_of-common.ensures ∙ ap common_over c.in_ok-held.ensures.held.0 ∙ common_is (account_of c.args.slots.now)

pub returns-in_err-held : goal.returns-in_err-held
unfolding usage_of
returns-in_err-held c =
    let same : c.from_residual.result ≡ Err c.in_err-held.field-0.0 = search rules in
    rw (same, sym c.in_err-held.ensures.verdict) refl

pub overflow_sub-result : goal.overflow_sub-result
overflow_sub-result c = omega (arith, common_told c, c.in_ok-held.ensures.held.1)

pub returns : goal.returns
unfolding usage_of
returns c =
    let held_at = λ (o : ℕ). ap (λ (h : List ℕ). at h o) c.in_ok-held.ensures.held.0 in
    rw (
      sym c.in_ok-held.ensures.verdict,
      c.from.ensures ∙ held_at 0,
      c.from-2.ensures ∙ held_at 1,
      c.from-3.ensures ∙ held_at 2,
      c.from-4.ensures ∙ held_at 3,
      common_told c,
      total_is (account_of c.args.slots.now),
    )
    refl
