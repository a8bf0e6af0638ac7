use Rattle.std.proofs.Common.{get_or, pos, sym, ap, ◌∙◌, arith, w64, rules}
use Rattle.std.proofs.lemmas.List.{get_or_default}
use Rattle.std.proofs.lemmas.List.Edits.{map_over_more}
use mir.ValLaws.{to_z-of_z}
use Rattle.integers.specs.Half.{is_rate}
use Rattle.hierarchy.proofs.Values.{value_suc}
use Rattle.tables.specs.Tables.{times, rate_at}
use Rattle.tables.proofs.Mapping.{next_value}
use Rattle.tables.proofs.Factor.scale.Goals as goal

-- the value read is still the rate that it was
pub times-requires : goal.times-requires
unfolding rate_at
times-requires c =
    let xs = c.args.table.now in
    let loop = c.loop-v in
    let read = to_z-of_z w64 (get_or loop.table loop.v-index (pos 0)) (search rules) in
    ap is_rate (read ∙ next_value (times c.args.self.axes) xs loop.table loop.v-index c.loop-v-test.true loop.invariant ∙ sym (value_suc xs loop.v-index))
    ∙ c.requires loop.v-index (omega arith)

pub loop-v-preserved : goal.loop-v-preserved
loop-v-preserved c =
    let loop = c.loop-v in
    let value = get_or loop.table loop.v-index (pos 0) in
    let written = to_z-of_z w64 c.times.result (record { sfits = c.times.type_inv }) ∙ c.times.ensures ∙ ap (times c.args.self.axes) (to_z-of_z w64 value (search rules)) in
    rw written
    (map_over_more (times c.args.self.axes) c.args.table.now loop.table loop.v-index value c.loop-v-test.true loop.invariant
    (get_or_default loop.table loop.v-index (pos 0) value (omega arith)))
