use Rattle.std.proofs.Common.{◌≡◌, ◌<◌, sym, ◌∙◌, length, take, rules, arith}
use Rattle.std.proofs.lemmas.List.{length_push, get_or-take}
use Rattle.std.proofs.lemmas.Slice.Zip.{zip_turn}
use lib.Pow.{pow_pos}
use Rattle.numbering.specs.Point.{at}
use Rattle.component_boxes.proofs.WholeGrid.{half_span_zero}
use Rattle.component_sweeps.proofs.Cornering.{level_low, shifted, spanned_next, spanned_fits}
use Rattle.component_sweeps.proofs.grid.Layout.half_span.Goals.{In-Some}
use Rattle.component_sweeps.proofs.grid.Layout.half_span.Goals as goal

-- this turn's level and stride are those of the next axis
record Turn (c : In-Some) : Type 0 where
  axis : length c.loop-level.yielded < c.args.self.now.axes
  level : c.in-Some.level.now ≡ at c.args.levels.now (length c.loop-level.yielded)
  stride : c.in-Some.stride.now ≡ at c.args.self.now.strides (length c.loop-level.yielded)

turn : (c : In-Some) → Turn c
turn c =
    let g = c.args.self.now in
    let ls = c.args.levels.now in
    let t = zip_turn (take g.axes ls) g.strides c.loop-level.yielded c.into_iter-level-iterator.result c.loop-level.level-iterator c.next.new.self c.next.result (search rules) (search rules) c.loop-level.yielded_by _ c.in-Some.is c.next.ensures.steps in
    let axis : length c.loop-level.yielded < g.axes = search rules in
    record { axis = axis; level = t.2 0 ∙ get_or-take g.axes ls (length c.loop-level.yielded) 0 axis; stride = t.3 0 }

pub loop-level-init : goal.loop-level-init
loop-level-init c = sym (half_span_zero _ _)

pub overflow_shl-span : goal.overflow_shl-span
overflow_shl-span c =
    let t = turn (goal.at.overflow_shl-span c).In-Some in
    omega (arith, t.level, level_low c.args.self.now _ c.requires _ t.axis)

pub overflow_sub-span : goal.overflow_sub-span
overflow_sub-span c =
    let t = turn (goal.at.overflow_sub-span c).In-Some in
    let half = shifted c.args.self.now _ c.requires _ t.axis t.level in
    omega (arith, half, pow_pos (at c.args.levels.now (length c.loop-level.yielded)))

pub overflow_mul-span : goal.overflow_mul-span
overflow_mul-span c =
    let t = turn (goal.at.overflow_mul-span c).In-Some in
    let half = shifted c.args.self.now _ c.requires _ t.axis t.level in
    rw t.stride (omega (arith, spanned_fits c.args.self.now _ c.requires _ _ c.loop-level.invariant t.axis _ half))

pub overflow_add-span : goal.overflow_add-span
overflow_add-span c =
    let t = turn (goal.at.overflow_add-span c).In-Some in
    let half = shifted c.args.self.now _ c.requires _ t.axis t.level in
    rw t.stride (omega (arith, spanned_fits c.args.self.now _ c.requires _ _ c.loop-level.invariant t.axis _ half))

pub loop-level-preserved : goal.loop-level-preserved
loop-level-preserved c =
    let t = turn (goal.at.loop-level-preserved c).In-Some in
    let half = shifted c.args.self.now _ c.requires _ t.axis t.level in
    rw (length_push c.loop-level.yielded (c.in-Some.level, c.in-Some.stride), t.stride) (spanned_next c.args.self.now _ c.requires _ _ c.loop-level.invariant t.axis _ half)
