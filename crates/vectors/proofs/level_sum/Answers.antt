-- `vectors::level_sum` meets its contract: the chain sums the levels.
-- Assumes nothing.
use Rattle.std.proofs.Common.{◌≡◌, ◌∙◌, ◌^◌, ◌<◌, sum, rules}
use Rattle.vectors.proofs.Summing.{sum_is}
use Rattle.vectors.proofs.level_sum.Goals as goal

pub sum-requires-clause-fits : goal.sum-requires-clause-fits
sum-requires-clause-fits c =
    let fits : sum c.args.levels.now < 2 ^ 32 = rw (sum_is c.args.levels.now) c.requires in
    search rules

pub returns : goal.returns
returns c =
    let is : c.sum.result ≡ sum c.args.levels.now = search rules in
    is ∙ sum_is c.args.levels.now
