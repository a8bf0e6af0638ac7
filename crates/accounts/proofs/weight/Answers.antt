-- `accounts::weight` meets its contract: each entry of the table is tested.
-- Assumes nothing.
use mathlib.Core.Path.{◌∙◌}
use Rattle.std.proofs.Common.{rules}
use Rattle.accounts.proofs.Weights.{table_right}
use Rattle.accounts.proofs.weight.Goals as goal

pub returns : goal.returns
returns c = c.from.ensures ∙ table_right c.args.byte (search rules)
