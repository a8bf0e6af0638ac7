use Rattle.std.proofs.Common.{get_or, pos, arith, rules}
use Rattle.std.proofs.lemmas.List.{get_or_default}
use Rattle.std.proofs.lemmas.List.Edits.{map_over_more}
use Rattle.tables.specs.Tables.{quotient}
use Rattle.tables.proofs.Quotients.{shifted_bits}
use Rattle.tables.proofs.Factor.divide.Goals as goal

pub loop-v-preserved : goal.loop-v-preserved
loop-v-preserved c =
    let loop = c.loop-v in
    let value = get_or loop.table loop.v-index (pos 0) in
    rw (shifted_bits c.args.self.axes value (search rules))
    (map_over_more (quotient c.args.self.axes) c.args.table.now loop.table loop.v-index value c.loop-v-test.true loop.invariant
    (get_or_default loop.table loop.v-index (pos 0) value (omega arith)))
