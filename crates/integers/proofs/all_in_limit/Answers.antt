-- `integers::all_in_limit` meets its contract. What is gathered is below 2^48 only where all values are within the limit; else each is looked at, and its test decides.
-- Assumes nothing.
use Rattle.std.proofs.Common.{◌∙◌, sym, pos, length, get_or, rules, tests, lt-ltb}
use Rattle.std.proofs.lemmas.Iterator.{YieldsList-from_slice}
use Rattle.std.proofs.lemmas.Iterator.Search.{all_from_yields_List}
use Rattle.naturals.proofs.Tests.{all_from}
use Rattle.integers.specs.Half.{in_limit, content_at}
use Rattle.integers.proofs.Ranges.{within_limit}
use Rattle.integers.proofs.Tables.{all_list}
use Rattle.integers.proofs.all_in_limit.Goals as goal

pub returns-then-gathered : goal.returns-then-gathered
unfolding content_at
returns-then-gathered c =
    let xs = c.args.table.now in
    lt-ltb c.gathered.result 281474976710656 c.if-gathered.true
    ∙ sym (all_from (content_at xs) (length xs) (λ p h. within_limit (get_or xs p (pos 0)) (c.gathered.ensures.within c.if-gathered.true p h)))

pub returns-else-gathered : goal.returns-else-gathered
unfolding content_at
returns-else-gathered c =
    let xs = c.args.table.now in
    all_from_yields_List in_limit _ _ c.all.result c.all.ensures.ran (YieldsList-from_slice xs cc) (λ x b q k. search (rules, tests))
    ∙ all_list in_limit (pos 0) xs
