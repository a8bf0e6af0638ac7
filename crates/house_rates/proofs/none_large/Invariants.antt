-- `house_rates::none_large` meets its contract. The loop's invariant is `Clear`.
-- Assumes nothing.
use mathlib.Core.Path.{◌≡◌}
use Prim.Native.Nat.{◌-◌, ◌≤◌}
use lib.ListN.{length, drop}
use Rattle.std.specs.Slice.Iter.{windows_rest, windows_size}
use Rattle.house_rates.proofs.FiveBytes.{Clear}
use Rattle.house_rates.proofs.none_large.Given as goal

abbrev pub invariant-loop-row : goal.invariant-loop-row
invariant-loop-row l =
    let rest = windows_rest l.row-iterator.parts in
    record {
      size : windows_size l.row-iterator.parts ≡ 5;
      few : length rest ≤ length l.bytes;
      left : rest ≡ drop (length l.bytes - length rest) l.bytes;
      clear : Clear l.bytes (length l.bytes - length rest) l.large;
    }
