-- `CheckedRates::check` meets its contract: the check of all rates at once only says yes, and number by number decides the rest.
-- Assumes nothing.
use Rattle.std.specs.Prelude.{Err}
use mathlib.Core.Path.{◌≡◌, sym}
use borrow.Author.Rules.{rules}
use Rattle.house_rates.specs.Rates.{read_rates}
use Rattle.house_rates.specs.Held.{rates_of}
use Rattle.house_rates.proofs.Held.{closed_refused, closed_passed}
use Rattle.house_rates.proofs.CheckedRates.check.Goals as goal

pub returns-in_err-check_each : goal.returns-in_err-check_each
returns-in_err-check_each c =
    let same : c.from_residual.result ≡ Err c.in_err-check_each.field-0.0 = search rules in
    rw same (sym (closed_refused (read_rates c.args.count c.args.bytes.now) (sym c.in_err-check_each.ensures)))

pub returns : goal.returns
unfolding rates_of
returns c = sym (closed_passed (read_rates c.args.count c.args.bytes.now) (search rules))
