use mathlib.Core.Path.{◌≡◌, sym, ◌∙◌}
use mathlib.Core.Logic.{⊎_elim}
use Prim.Native.Nat.{◌+◌, ◌-◌, ◌*◌, ◌%◌, ◌^◌}
use native.Mathlib.Omega.{arith}
use Rattle.numbering.specs.Point.{at}
use Rattle.numbering.specs.Number.{rank}
use Rattle.cursors.proofs.Below.{cursors_below}
use Rattle.sweeps.proofs.Ranks.{Follows}
use Rattle.neighbours.proofs.Staying.{facet_end}
use Rattle.sweeps.proofs.Standing.{rank_in, previous_follows, previous_standing, last_standing, last_of_face, vector_in}
use Rattle.sweeps.proofs.Meeting.{met}
use Rattle.sweeps.proofs.Lowering.{Lowering, lowering_starts, lowering_room, lowering_few, lowering_next, lowering_turned, lowering_odds, lowering_walked, lowering_first, lowering_worked}
use Rattle.sweeps.proofs.lower_face.Goals.{After-end-start, After-work-odd, After-previous}
use Rattle.sweeps.proofs.lower_face.Goals as goal

-- ---- before the loop

-- Where the face ends.
ends : (c : After-end-start) → c.end-start.result ≡ facet_end c.args.facet
ends c = rw c.of-starts.ensures at c.end-start.ensures

pub after_last-requires : goal.after_last-requires
after_last-requires c = rw c.of-starts.ensures (last_standing c.args.facet c.args.last c.requires.1).low

pub loop-start-init : goal.loop-start-init
loop-start-init c =
    let facet = c.args.facet in
    let vector = c.args.last in
    let top = last_of_face facet vector c.requires.1 in
    let seen = goal.at.loop-start-init c in (
      last_standing facet vector c.requires.1,
      rw top (rw c.of-starts.ensures at c.after_last.ensures),
      rw (top, c.requires.1.sum) (lowering_starts facet _ c.requires.0.0 c.end-start.result (ends seen.After-end-start)),
    )

-- ---- the level list

pub on-v-requires : goal.on-v-requires
on-v-requires c =
    let s = c.loop-start.invariant in
    (s.0.same, s.0.low, lowering_first c.args.facet _ c.requires.0.0 s.0 s.2)

pub pass_back-requires : goal.pass_back-requires
pass_back-requires c =
    let s = c.loop-start.invariant in
    let m = met c.on-v.result c.on-v.ensures in
    rw (m.on, m.same) s.1

pub rims-requires : goal.rims-requires
rims-requires c =
    let s = c.loop-start.invariant in
    let m = met c.on-v.result c.on-v.ensures in
    (c.of-starts.ensures ∙ sym m.on, c.pass_back.ensures)

pub work-odd-requires : goal.work-odd-requires
work-odd-requires c =
    let pre = c.requires in
    let s = c.loop-start.invariant in
    let m = met c.on-v.result c.on-v.ensures in
    (cursors_below c.pass_back.ensures, (rw m.on s.2.parted.long, lowering_room c.args.facet _ pre.0.0 s.2 pre.0.1), c.rims.ensures)

-- After the work on it.
done : (c : After-work-odd) →
    let facet = c.args.facet in
    Lowering facet c.args.table.now c.loop-start.vector.sum (rank (at c.loop-start.vector.levels) facet.axes)
    (c.loop-start.start - 1 * 2 ^ c.loop-start.vector.sum % 2 ^ 64) (c.loop-start.odd + c.work-odd.result) c.work-odd.new.table
done c =
    let s = c.loop-start.invariant in
    let did = c.work-odd.ensures in
    lowering_worked c.args.facet _ c.requires.0.0 s.0 s.2 _ (met c.on-v.result c.on-v.ensures) _ _ did.worked did.odds

pub overflow_add-odd : goal.overflow_add-odd
overflow_add-odd c =
    omega (arith, lowering_few c.args.facet _ c.requires.0.0 (done (goal.at.overflow_add-odd c).After-work-odd))

-- ---- after the last

pub returns-then-start-facet-clause-walked : goal.returns-then-start-facet-clause-walked
returns-then-start-facet-clause-walked c =
    let all = done (goal.at.returns-then-start-facet-clause-walked c).After-work-odd in
    lowering_walked c.args.facet _ c.requires.0.0 all c.if-start-facet.true (rank_in (vector_in c.loop-start.invariant.0))

pub returns-then-start-facet-clause-turned : goal.returns-then-start-facet-clause-turned
returns-then-start-facet-clause-turned c =
    lowering_turned c.args.facet _ c.requires.0.0 (done (goal.at.returns-then-start-facet-clause-turned c).After-work-odd) c.if-start-facet.true

pub returns-then-start-facet-clause-odds : goal.returns-then-start-facet-clause-odds
returns-then-start-facet-clause-odds c =
    lowering_odds c.args.facet _ c.requires.0.0 (done (goal.at.returns-then-start-facet-clause-odds c).After-work-odd) c.if-start-facet.true

-- ---- the one before

pub previous-requires : goal.previous-requires
previous-requires c =
    let facet = c.args.facet in
    let s = c.loop-start.invariant in
    let first = lowering_first facet _ c.requires.0.0 s.0 s.2 in
    (omega (arith, s.0.low, facet.line.top), rw s.0.same (omega (arith, first, c.if-start-facet.false)))

follows : (c : After-previous) →
    let facet = c.args.facet in
    let before = c.previous.new.self in
    let here = c.loop-start.vector in
    Follows facet.axes before.sum (rank (at before.levels) facet.axes) here.sum (rank (at here.levels) facet.axes)
follows c = previous_follows c.loop-start.invariant.0 c.previous.new.self c.previous.ensures

-- It is the last of the sum below.
pub loop-start-preserved-then-vector-v : goal.loop-start-preserved-then-vector-v
loop-start-preserved-then-vector-v c =
    let seen = goal.at.loop-start-preserved-then-vector-v c in
    let before = follows seen.After-previous in
    let m = met c.on-v.result c.on-v.ensures in (
      previous_standing c.loop-start.invariant.0 c.previous.new.self c.previous.ensures,
      ⊎_elim
          (λ same. absurd (omega (arith, same.0, rw m.same at c.if-vector-v.true)))
          (λ below. rw below.2 (rw c.of-starts.ensures at c.after_last-then-vector-v.ensures))
          before,
      lowering_next c.args.facet _ c.requires.0.0 (done seen.After-work-odd) before,
    )

-- It is of the same sum.
pub loop-start-preserved : goal.loop-start-preserved
loop-start-preserved c =
    let seen = goal.at.loop-start-preserved c in
    let before = follows seen.After-previous in
    let m = met c.on-v.result c.on-v.ensures in (
      previous_standing c.loop-start.invariant.0 c.previous.new.self c.previous.ensures,
      ⊎_elim
          (λ same. rw (sym same.1, sym same.0) (rw (m.on, m.same) at c.pass_back.ensures))
          (λ below. absurd (omega (arith, below.0, rw m.same at c.if-vector-v.false)))
          before,
      lowering_next c.args.facet _ c.requires.0.0 (done seen.After-work-odd) before,
    )
