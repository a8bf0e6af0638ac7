use mathlib.Core.Path.{◌≡◌}
use mathlib.Core.List.{◌++◌}
use borrow.Author.Rules.{rules}
use Rattle.std.specs.Slice.Iter.{chunks_rest}
use Rattle.house_rates.proofs.Counting.{counted_few}
use Rattle.house_rates.proofs.count_ends.Goals as goal

pub overflow_add-count : goal.overflow_add-count
overflow_add-count c =
    let rest = chunks_rest c.loop-few.few-iterator in
    let after = chunks_rest c.next.new.self in
    let is : rest ≡ c.in-Some.few.now ++ after = search rules in
    search (rules, counted_few c.args.bytes.now rest c.in-Some.few.now after c.loop-few.count c.loop-few.invariant.sum is)
