-- `accounts::weighed` meets its contract. The loop's invariant: what the slots so far weigh.
-- Assumes nothing.
use mathlib.Core.Path.{◌≡◌}
use Rattle.naturals.specs.Sum.{sum_to}
use Rattle.accounts.specs.Accounts.{account_of}
use Rattle.accounts.specs.Steps.{weight_under}
use Rattle.accounts.proofs.weighed.Given as goal

abbrev pub invariant-loop-tag : goal.invariant-loop-tag
invariant-loop-tag l = l.points ≡ sum_to (weight_under (account_of l.slots) l.office) l.tag
