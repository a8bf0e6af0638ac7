-- `tables::all_rates` meets its contract: what is gathered is below 2^32 only where all values have 32 bits with sign.
-- Assumes nothing.
use Rattle.std.proofs.Common.{get_or, pos, ap, ◌∙◌, ltb-true}
use Rattle.integers.specs.Half.{is_rate}
use Rattle.integers.proofs.Ranges.{within_rates}
use Rattle.hierarchy.proofs.Values.{value_suc}
use Rattle.tables.specs.Tables.{rate_at}
use Rattle.tables.proofs.all_rates.Goals as goal

pub returns : goal.returns
unfolding rate_at
returns c e p h =
    let xs = c.args.table.now in
    ap is_rate (value_suc xs p) ∙ within_rates (get_or xs p (pos 0)) (c.gathered.ensures.within (ltb-true c.gathered.result 4294967296 e) p h)
