-- `Factor::scale` meets its contract. The loop's invariant: the values passed are times 2^d, the others as they were.
-- Assumes nothing.
use Rattle.std.proofs.Common.{◌≡◌, ◌++◌, map, take, drop}
use Rattle.tables.specs.Tables.{times}
use Rattle.tables.proofs.Factor.scale.Given as goal

abbrev pub invariant-loop-v : goal.invariant-loop-v
invariant-loop-v l = l.table ≡ map (times l.self.axes) (take l.v-index l.initial.table) ++ drop l.v-index l.initial.table
