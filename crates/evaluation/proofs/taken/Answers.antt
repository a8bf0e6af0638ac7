use mathlib.Core.List.{[]}
use mathlib.Core.Path.{◌≡◌}
use Prim.Native.Nat.{◌<◌}
use native.Mathlib.Numerals.{add-one}
use native.Mathlib.Omega.{arith}
use lib.ListN.{length, get_or}
use Rattle.std.proofs.Common.{rules}
use Rattle.std.proofs.lemmas.List.{length_push}
use Rattle.std.proofs.lemmas.Slice.Zip.{zip_turn, zip_end}
use Rattle.numbering.specs.Point.{at}
use Rattle.evaluation.proofs.Taking.{taken_starts, level_small, taken_room, taken_steps, taken_ends}
use Rattle.evaluation.proofs.taken.Goals.{In-Some}
use Rattle.evaluation.proofs.taken.Goals as goal

pub loop-axis-init : goal.loop-axis-init
loop-axis-init c = rw c.none-passed.ensures (taken_starts _ _ _)

-- the hats and the level at hand are those of the axis at hand
turn : (c : In-Some) →
    let t = length c.loop-axis.yielded in
    (t < length c.args.hats.now) × (c.in-Some.axis.now ≡ get_or c.args.hats.now t []) × (c.in-Some.level.now ≡ at c.args.levels.now t)
turn c =
    let a = c.args in
    let loop = c.loop-axis in
    let here = zip_turn a.hats.now a.levels.now loop.yielded c.into_iter-axis-iterator.result loop.axis-iterator c.next.new.self c.next.result (search rules) (search rules) loop.yielded_by (c.in-Some.axis, c.in-Some.level) c.in-Some.is c.next.ensures.steps in
    (here.0, here.2 [], here.3 0)

pub bounds-axis-level : goal.bounds-axis-level
bounds-axis-level c =
    let here = turn (goal.at.bounds-axis-level c).In-Some in
    rw here.2 (omega (arith, level_small c.requires c.loop-axis.invariant here.0))

pub with-passed-requires : goal.with-passed-requires
with-passed-requires c =
    let here = turn (goal.at.with-passed-requires c).In-Some in
    rw (here.1, here.2) (taken_room c.requires c.loop-axis.invariant here.0)

pub loop-axis-preserved : goal.loop-axis-preserved
loop-axis-preserved c =
    let here = turn (goal.at.loop-axis-preserved c).In-Some in
    let l = c.loop-axis in
    rw (length_push l.yielded (c.in-Some.axis, c.in-Some.level), c.with-passed.ensures, here.1, here.2, add-one (length l.yielded))
    (taken_steps c.requires l.invariant here.0)

pub returns : goal.returns
returns c =
    let a = c.args in
    let loop = c.loop-axis in
    let all =
    zip_end a.hats.now a.levels.now loop.yielded c.into_iter-axis-iterator.result loop.axis-iterator c.next.new.self c.next.result (search rules) (search rules) loop.yielded_by c.in-None.is c.next.ensures.steps in
    rw c.term.ensures (taken_ends loop.invariant (omega (arith, all, c.requires.few, c.told-levels)))
