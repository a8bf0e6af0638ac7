-- `whole::rates_to_coefficients` meets its contract: what load refuses is refused, and from a loaded table the turns up lead to the coefficients.
-- Assumes nothing.
use Rattle.std.specs.Prelude.{Err}
use mathlib.Core.Path.{◌≡◌}
use borrow.Author.Rules.{rules}
use Rattle.whole.proofs.AnswersUp.{load_refuses, load_opens, load_leads}
use Rattle.whole.proofs.rates_to_coefficients.Goals as goal

pub returns-in_err-load : goal.returns-in_err-load
returns-in_err-load c =
    let a = c.args in
    let refused = load_refuses a.shape a.table.now c.load.new.table c.in_err-load.field-0.0 c.in_err-load.ensures in
    let same : c.from_residual.result ≡ Err c.in_err-load.field-0.0 = search rules in
    rw same refused

pub climb-requires : goal.climb-requires
climb-requires c =
    let a = c.args in
    load_opens a.shape a.table.now c.load.new.table c.in_ok-load.field-0 c.in_ok-load.ensures

pub returns : goal.returns
returns c =
    let a = c.args in
    load_leads a.shape a.table.now c.load.new.table c.in_ok-load.field-0 c.in_ok-load.ensures c.climb.new.table c.climb.ensures
