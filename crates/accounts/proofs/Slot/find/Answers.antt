-- `accounts::Slot::find` meets its contract: its tests are those of the definition.
-- Assumes nothing.
use Rattle.std.proofs.Common.{◌≡◌, refl, ◌&&◌, rules, tests, sym}
use mathlib.Core.Logic.{⊎_elim}
use lib.Dec.{leb}
use borrow.Author.Tests.{lt-ltb, le-ltb}
use Rattle.accounts.specs.Accounts.{offices, tags}
use Rattle.accounts.specs.Calls.{check_slot}
use Rattle.accounts.proofs.Slot.find.Goals.{After-contains}
use Rattle.accounts.proofs.Slot.find.Goals as goal

-- the office is tested
tested : (c : After-contains) → c.contains.result ≡ (leb 1 c.args.office && leb c.args.office offices)
tested c = search (rules, tests)

pub returns-then-not-contains-clause-verdict : goal.returns-then-not-contains-clause-verdict
unfolding check_slot
returns-then-not-contains-clause-verdict c =
    rw (sym (tested (goal.at.returns-then-not-contains-clause-verdict c).After-contains))
    (⊎_elim (λ no_office. rw no_office refl) (λ both. rw (both.0, le-ltb c.args.tag tags both.1) refl) c.then-not-contains.either)

pub returns-clause-verdict : goal.returns-clause-verdict
unfolding check_slot
returns-clause-verdict c =
    rw (sym (tested (goal.at.returns-clause-verdict c).After-contains), c.if-not-contains.false, lt-ltb c.args.tag tags c.if-tag-ge8.false) refl
