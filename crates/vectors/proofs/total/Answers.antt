-- `vectors::total` meets its contract: the chain sums the eight levels, each of 32 bits.
-- Assumes nothing.
use Rattle.std.proofs.Common.{◌≡◌, ◌∙◌, ◌^◌, ◌<◌, sum, rules}
use Rattle.vectors.proofs.Summing.{sum_of_eight, eight_small}
use Rattle.vectors.proofs.total.Goals as goal

pub sum-requires-clause-fits : goal.sum-requires-clause-fits
sum-requires-clause-fits c =
    let fits : sum c.args.levels < 2 ^ 64 = eight_small c.args.levels (search rules) (λ t. search rules) in
    search rules

pub returns : goal.returns
returns c =
    let is : c.sum.result ≡ sum c.args.levels = search rules in
    is ∙ sum_of_eight c.args.levels (search rules)
