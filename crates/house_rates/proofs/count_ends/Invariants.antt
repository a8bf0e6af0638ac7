-- `house_rates::count_ends` meets its contract. What is counted and what is left to count are the ends of all the bytes.
-- Assumes nothing.
use mathlib.Core.Path.{◌≡◌}
use Prim.Native.Nat.{◌+◌}
use Rattle.std.specs.Slice.Iter.{chunks_rest, chunks_size}
use Rattle.house_rates.specs.Steps.{ends}
use Rattle.house_rates.proofs.count_ends.Given as goal

abbrev pub invariant-loop-few : goal.invariant-loop-few
invariant-loop-few l = record { size : chunks_size l.few-iterator ≡ 224; sum : l.count + ends (chunks_rest l.few-iterator) ≡ ends l.bytes }
