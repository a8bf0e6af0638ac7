use Prim.Native.Nat.{◌+◌, ◌-◌}
use mathlib.Core.Path.{◌≡◌}
use lib.ListN.{length}
use native.Mathlib.Omega.{arith}
use borrow.Author.Rules.{rules}
use Rattle.std.specs.Slice.Iter.{windows_rest}
use Rattle.std.proofs.lemmas.Iterator.{window_more}
use Rattle.house_rates.proofs.FiveBytes.{clear_steps, at_row}
use Rattle.house_rates.proofs.none_large.Goals as goal

pub loop-row-preserved : goal.loop-row-preserved
loop-row-preserved c =
    let inv = c.loop-row.invariant in
    let bytes = c.args.bytes.now in
    let at = length bytes - length (windows_rest c.loop-row.row-iterator.parts) in
    let w =
    window_more bytes c.loop-row.row-iterator.parts c.next.new.self.parts c.next.result c.in-Some.row c.in-Some.is c.next.ensures.steps (omega arith) inv.few inv.left in
    let next : length bytes - length (windows_rest c.next.new.self.parts) ≡ at + 1 = omega (arith, w.0, inv.few) in
    record {
      size = search rules;
      few = omega (arith, w.0, inv.few);
      left = w.1;
      clear =
          rw next
          (clear_steps inv.clear c.is_large-large.result
          (at_row bytes c.in-Some.row.now at (λ k h. w.3 k 0 (omega (arith, inv.size))) c.is_large-large.ensures));
    }
