-- `Factor::divide` meets its contract. The loop's invariant: the values passed are divided by 2^d, the others as they were.
-- Assumes nothing.
use Rattle.std.proofs.Common.{◌≡◌, ◌++◌, map, take, drop}
use Rattle.tables.specs.Tables.{quotient}
use Rattle.tables.proofs.Factor.divide.Given as goal

abbrev pub invariant-loop-v : goal.invariant-loop-v
invariant-loop-v l = l.table ≡ map (quotient l.self.axes) (take l.v-index l.initial.table) ++ drop l.v-index l.initial.table
