-- `accounts::open_in` meets its contract: each return is decided by the checks on the way to it.
-- Assumes nothing.
use mathlib.Core.Path.{◌≡◌, refl, sym, ap, ap₂, ◌∙◌}
use mathlib.Core.List.{List}
use Rattle.std.proofs.Common.{rules, arith, ℕ, ◌-◌, Ok, Err}
use lib.ListN.{set}
use Rattle.std.specs.Result.{result_and}
use Rattle.refusals.specs.Checks.{◌and_then◌}
use Rattle.numbering.specs.Point.{at}
use Rattle.shapes.specs.Shapes.{sparse, points_of, check_shape}
use Rattle.accounts.specs.Accounts.{account_of, byte_of, put}
use Rattle.accounts.specs.Calls.{check_common, check_free, check_opening, done, open_table}
use Rattle.accounts.specs.Steps.{check_more}
use Rattle.accounts.proofs.Opening.{held_small, last_checks}
use Rattle.accounts.proofs.open_in.Goals.{After-and}
use Rattle.accounts.proofs.open_in.Goals as goal

-- the last two checks are those of the account with the table opened
last_told : (c : After-and) →
    let a = account_of c.args.slots.now in
    let o = c.args.office - 1 in
    c.and.result ≡ check_free a o c.args.tag and_then check_common (put a o c.args.tag (byte_of c.args.axes c.args.level))
last_told c =
    let a = account_of c.args.slots.now in
    let axes = c.args.axes in
    let level = c.args.level in
    let s = c.in_ok-slot.slot in
    let slot = c.in_ok-slot.ensures.slot in
    let passes : check_shape (sparse axes level) ≡ Ok tt = sym (c.in_ok-check.ensures.verdict ∙ ap check_shape c.sparse.ensures) in
    let points_are = c.points-points.ensures ∙ ap points_of (c.in_ok-check.ensures.shape ∙ c.sparse.ensures) in
    let more = c.check_more.ensures ∙ ap₂ (λ (h : List ℕ) (p : ℕ). check_more h s.office p) c.in_ok-held.ensures.held.0 points_are in
    c.and.ensures
    ∙ ap₂ result_and c.check_free.ensures more
    ∙ last_checks a s.office s.tag axes level (search rules) s.within s.tagged passes
    ∙ ap₂ (λ (o t : ℕ). check_free a o t and_then check_common (put a o t (byte_of axes level))) slot.0 slot.1

pub returns-in_err-held : goal.returns-in_err-held
unfolding open_table check_opening
returns-in_err-held c =
    let same : c.from_residual.result ≡ Err c.in_err-held.field-0.0 = search rules in
    rw (same, sym c.in_err-held.ensures.verdict) refl

pub returns-in_err-check : goal.returns-in_err-check
unfolding open_table check_opening
returns-in_err-check c =
    let same : c.from_residual-in_err-check.result ≡ Err c.in_err-check.field-0.0 = search rules in
    let shape = sym (c.in_err-check.ensures.verdict ∙ ap check_shape c.sparse.ensures) in
    rw (same, sym c.in_ok-held.ensures.verdict, shape) refl

pub returns-in_err-slot : goal.returns-in_err-slot
unfolding open_table check_opening
returns-in_err-slot c =
    let same : c.from_residual-in_err-slot.result ≡ Err c.in_err-slot.field-0.0 = search rules in
    let shape = sym (c.in_ok-check.ensures.verdict ∙ ap check_shape c.sparse.ensures) in
    rw (same, sym c.in_ok-held.ensures.verdict, shape, sym c.in_err-slot.ensures.verdict) refl

pub check_more-requires : goal.check_more-requires
check_more-requires c =
    let few = held_small (account_of c.args.slots.now) c.in_ok-held.ensures.held.1 c.in_ok-slot.slot.office c.in_ok-slot.slot.within in
    let held = ap (λ (h : List ℕ). at h c.in_ok-slot.slot.office) c.in_ok-held.ensures.held.0 in
    (omega (arith, held, few), omega (arith, c.points-points.ensures, c.in_ok-check.field-0.small))

pub returns-in_err-and : goal.returns-in_err-and
unfolding open_table check_opening
returns-in_err-and c =
    let same : c.from_residual-in_err-and.result ≡ Err c.in_err-and.field-0.0 = search rules in
    let shape = sym (c.in_ok-check.ensures.verdict ∙ ap check_shape c.sparse.ensures) in
    let last = sym (last_told (goal.at.returns-in_err-and c).After-and) ∙ c.in_err-and.was in
    rw (same, sym c.in_ok-held.ensures.verdict, shape, sym c.in_ok-slot.ensures.verdict, last) refl

pub returns : goal.returns
unfolding open_table check_opening
returns c =
    let a = account_of c.args.slots.now in
    let byte = byte_of c.args.axes c.args.level in
    let shape = sym (c.in_ok-check.ensures.verdict ∙ ap check_shape c.sparse.ensures) in
    let slot = c.in_ok-slot.ensures.slot in
    let last = sym (last_told (goal.at.returns c).After-and) ∙ c.in_ok-and.was in
    let place = ap (λ (k : ℕ). done (account_of (set a.slots k byte))) c.place.ensures.0 in
    rw (sym c.in_ok-held.ensures.verdict, shape, sym c.in_ok-slot.ensures.verdict, last)
    (place ∙ ap₂ (λ (o t : ℕ). done (put a o t byte)) slot.0 slot.1)
