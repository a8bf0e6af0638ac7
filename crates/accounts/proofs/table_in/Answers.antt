-- `accounts::table_in` meets its contract: the checks decide, and then the byte under the tag.
-- Assumes nothing.
use mathlib.Core.Path.{◌≡◌, refl, sym, ap, ap₂, ◌∙◌}
use borrow.Author.Tests.{ne_eqb}
use Rattle.std.proofs.Common.{rules, ◌-◌, Ok, Err, Some}
use Rattle.numbering.specs.Point.{at}
use Rattle.shapes.specs.declared.Shape.{Shape}
use Rattle.shapes.specs.Shapes.{sparse}
use Rattle.accounts.specs.Accounts.{account_of, shape_in, under}
use Rattle.accounts.specs.Calls.{shape_under}
use Rattle.accounts.proofs.table_in.Goals.{After-place}
use Rattle.accounts.proofs.table_in.Goals as goal

-- the byte under the tag
byte_is : (c : After-place) → under (account_of c.args.slots.now) (c.args.office - 1) c.args.tag ≡ at c.args.slots.now c.place.result
byte_is c =
    let slot = c.in_ok-find.ensures.slot in
    sym (ap (at c.args.slots.now) c.place.ensures.0 ∙ ap₂ (under (account_of c.args.slots.now)) slot.0 slot.1)

pub returns-in_err-check : goal.returns-in_err-check
unfolding shape_under
returns-in_err-check c =
    let same : c.from_residual.result ≡ Err c.in_err-check.field-0.0 = search rules in
    rw (same, sym c.in_err-check.ensures.verdict) refl

pub returns-in_err-find : goal.returns-in_err-find
unfolding shape_under
returns-in_err-find c =
    let same : c.from_residual-in_err-find.result ≡ Err c.in_err-find.field-0.0 = search rules in
    rw (same, sym c.in_ok-check.ensures.verdict, sym c.in_err-find.ensures.verdict) refl

pub returns-then-byte-eq0 : goal.returns-then-byte-eq0
unfolding shape_under
returns-then-byte-eq0 c =
    let free = byte_is (goal.at.returns-then-byte-eq0 c).After-place ∙ c.if-byte-eq0.true in
    rw (sym c.in_ok-check.ensures.verdict, sym c.in_ok-find.ensures.verdict, free) refl

pub returns : goal.returns
unfolding shape_under
returns c =
    let a = account_of c.args.slots.now in
    let is = byte_is (goal.at.returns c).After-place in
    let taken = ne_eqb (under a (c.args.office - 1) c.args.tag) 0 (λ e. c.if-byte-eq0.false (sym is ∙ e)) in
    let shape : c.sparse.result ≡ shape_in (at c.args.slots.now c.place.result) = c.sparse.ensures ∙ ap₂ sparse c.from.ensures c.from-2.ensures in
    rw (sym c.in_ok-check.ensures.verdict, sym c.in_ok-find.ensures.verdict, taken)
    (ap (λ (s : Shape). Ok (Some s)) (shape ∙ ap shape_in (sym is)))
