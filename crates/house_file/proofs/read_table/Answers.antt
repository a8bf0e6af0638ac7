-- `house_file::read_table` meets its contract: where the check passes, the first places hold the rates.
-- Assumes nothing.
use Rattle.std.specs.Prelude.{Ok}
use mathlib.Core.Path.{◌≡◌, sym, ap, ◌∙◌}
use native.Mathlib.Omega.{arith}
use lib.ListN.{length}
use mathlib.Core.List.{[]}
use Rattle.shapes.specs.Shapes.{points_of}
use Rattle.house_numbers.specs.Reading.{got}
use Rattle.house_rates.specs.Held.{rates_of}
use Rattle.house_rates.specs.Steps.{rates_over}
use Rattle.house_file.specs.Files.{read_table, after_reading, filled_with}
use Rattle.house_file.proofs.Accepting.{table_fitted, rates_rated}
use Rattle.house_file.proofs.read_table.Goals.{In_ok-rates}
use Rattle.house_file.proofs.read_table.Goals as goal

-- the table that the check read
read_here : (c : In_ok-rates) → let a = c.args in
    read_table (length a.table.now) a.shape a.rest.now ≡ got (record { shape = a.shape; rates = rates_of c.in_ok-rates.rates }) []
read_here c = sym c.in_ok-rates.ensures

pub fill-requires : goal.fill-requires
fill-requires c =
    let a = c.args in
    let f = table_fitted (length a.table.now) a.shape a.rest.now _ [] (read_here (goal.at.fill-requires c).In_ok-rates) in
    omega (arith, f.room, (rates_rated (points_of a.shape) a.rest.now (rates_of c.in_ok-rates.rates) [] f.filled).many)

pub returns : goal.returns
unfolding rates_over
returns c =
    let a = c.args in
    ap (after_reading (Ok a.shape)) c.fill.ensures ∙ sym (ap (filled_with a.table.now) (read_here (goal.at.returns c).In_ok-rates))
