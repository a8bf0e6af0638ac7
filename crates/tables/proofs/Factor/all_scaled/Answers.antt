-- `Factor::all_scaled` meets its contract. Where all values are seen to be 2^d times a rate together, they are; else each is looked at, and its test decides.
-- Assumes nothing.
use Rattle.std.proofs.Common.{length, pos, sym, ◌∙◌, rules, tests}
use Rattle.std.proofs.lemmas.Iterator.{YieldsList-from_slice}
use Rattle.std.proofs.lemmas.Iterator.Search.{all_from_yields_List}
use Rattle.naturals.proofs.Tests.{all_from}
use Rattle.hierarchy.specs.Turns.{value_at}
use Rattle.integers.proofs.Tables.{all_list}
use Rattle.tables.specs.Tables.{is_scaled, scaled_at}
use Rattle.tables.proofs.Factor.all_scaled.Goals as goal

pub returns-then-seen_scaled : goal.returns-then-seen_scaled
returns-then-seen_scaled c =
    let xs = c.args.table.now in
    c.if-seen_scaled.true ∙ sym (all_from (scaled_at c.args.self.axes xs) (length xs) (c.seen_scaled.ensures c.if-seen_scaled.true))

pub returns-else-seen_scaled : goal.returns-else-seen_scaled
unfolding scaled_at value_at
returns-else-seen_scaled c =
    let xs = c.args.table.now in
    let test = is_scaled c.args.self.axes in
    all_from_yields_List test _ _ c.all.result c.all.ensures.ran (YieldsList-from_slice xs cc) (λ x b q k. search (rules, tests))
    ∙ all_list test (pos 0) xs
