-- `house_file::check_rest` meets its contract: the shape and the places decide first, then the rates.
-- Assumes nothing.
use Rattle.std.specs.Prelude.{Ok, Err}
use mathlib.Core.Path.{◌≡◌, sym}
use borrow.Author.Rules.{rules}
use Rattle.house_rates.specs.Rates.{read_rates}
use Rattle.shapes.specs.Shapes.{points_of}
use Rattle.house_file.specs.Steps.{check_places}
use Rattle.house_file.proofs.Answering.{placed, unplaced, table_checked}
use Rattle.house_file.proofs.check_rest.Goals.{In_ok-checked}
use Rattle.house_file.proofs.check_rest.Goals as goal

-- the shape and the places passed
passed : (c : In_ok-checked) → let a = c.args in check_places a.shape a.places ≡ Ok tt
passed c = sym c.in_ok-checked.ensures.verdict

pub returns-in_err-checked : goal.returns-in_err-checked
returns-in_err-checked c =
    let a = c.args in
    let same : c.from_residual.result ≡ Err c.in_err-checked.field-0.0 = search rules in
    rw same (sym (unplaced a.places a.shape a.rest.now (sym c.in_err-checked.ensures.verdict)))

pub returns : goal.returns
returns c =
    let a = c.args in
    let rest = a.rest.now in
    let points : c.points.result ≡ points_of a.shape = rw c.in_ok-checked.ensures.shape at c.points.ensures in
    rw (placed a.places a.shape rest (passed (goal.at.returns c).In_ok-checked))
    (table_checked a.shape (read_rates (points_of a.shape) rest) c.check.result (rw points at c.check.ensures))
