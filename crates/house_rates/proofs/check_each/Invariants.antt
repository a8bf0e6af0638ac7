-- `house_rates::check_each` meets its contract. The loop's invariant is `Checked`.
-- Assumes nothing.
use Prim.Native.Nat.{◌-◌}
use Rattle.house_rates.proofs.Checking.{Checked}
use Rattle.house_rates.proofs.check_each.Given as goal

abbrev pub invariant-loop : goal.invariant-loop
invariant-loop l = Checked l.bytes l.count (l.count - l.counter) l.rest
