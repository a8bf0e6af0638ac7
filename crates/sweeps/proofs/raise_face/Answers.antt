use mathlib.Core.Path.{◌≡◌, sym, ◌∙◌}
use mathlib.Core.Logic.{⊎_elim}
use Prim.Native.Nat.{suc, ◌+◌, ◌-◌, ◌*◌, ◌%◌, ◌^◌, ◌<◌}
use native.Mathlib.Omega.{arith}
use lib.Pow.{pow_pos}
use Rattle.numbering.specs.Point.{at}
use Rattle.numbering.specs.Number.{rank}
use Rattle.cursors.proofs.Below.{cursors_below}
use Rattle.sweeps.proofs.Ranks.{Follows}
use Rattle.neighbours.proofs.Staying.{facet_end}
use Rattle.sweeps.proofs.Standing.{Standing, rank_in, first_standing, first_rank, next_follows, next_standing, vector_in}
use Rattle.sweeps.proofs.Meeting.{met}
use Rattle.sweeps.proofs.Raising.{Raising, raising_starts, raising_room, raising_few, raising_former, raising_odds, raising_next, raising_walked, raising_first, raising_end, raising_inside, raising_worked}
use Rattle.sweeps.proofs.raise_face.Goals.{After-end-end, After-work-odd, After-next}
use Rattle.sweeps.proofs.raise_face.Goals as goal

-- Where the face ends.
ends : (c : After-end-end) → c.end-end.result ≡ facet_end c.args.facet
ends c = rw c.of-starts.ensures at c.end-end.ensures

pub loop-start-init : goal.loop-start-init
loop-start-init c =
    let facet = c.args.facet in
    let first = c.first-vector.ensures in
    let none = first_rank facet c.first-vector.result first in (
      first_standing facet c.first-vector.result first,
      rw none (rw c.of-starts.ensures at c.before_first.ensures),
      rw (none, first.1) (raising_starts facet _ c.requires.0),
    )

-- ---- the level list

pub on-v-requires : goal.on-v-requires
on-v-requires c =
    let s = c.loop-start.invariant in
    (s.0.same, s.0.low, raising_first c.args.facet _ c.requires.0 s.0 s.2)

pub rims-requires : goal.rims-requires
rims-requires c =
    let s = c.loop-start.invariant in
    let m = met c.on-v.result c.on-v.ensures in
    (c.of-starts.ensures ∙ sym m.on, rw (m.on, m.same) s.1)

pub work-odd-requires : goal.work-odd-requires
work-odd-requires c =
    let pre = c.requires in
    let s = c.loop-start.invariant in
    let m = met c.on-v.result c.on-v.ensures in
    (cursors_below (rw (m.on, m.same) s.1), (rw m.on s.2.parted.long, raising_room c.args.facet _ pre.0 s.2 pre.1), c.rims.ensures)

-- After the work on it.
done : (c : After-work-odd) →
    let facet = c.args.facet in
    Raising facet c.args.table.now c.loop-start.vector.sum (suc (rank (at c.loop-start.vector.levels) facet.axes))
    (c.loop-start.start + 1 * 2 ^ c.loop-start.vector.sum % 2 ^ 64) (c.loop-start.odd + c.work-odd.result) c.work-odd.new.table
done c =
    let s = c.loop-start.invariant in
    let did = c.work-odd.ensures in
    raising_worked c.args.facet _ c.requires.0 s.0 s.2 _ (met c.on-v.result c.on-v.ensures) _ _ did.worked did.odds

pub overflow_add-odd : goal.overflow_add-odd
overflow_add-odd c =
    let facet = c.args.facet in
    let s = c.loop-start.invariant in
    omega (
      arith,
      raising_few facet _ c.requires.0 (done (goal.at.overflow_add-odd c).After-work-odd),
      raising_inside facet _ c.requires.0 s.0 s.2,
      facet.sits.inside,
      facet.line.small,
    )

-- ---- after the last

pub returns-then-start-end-clause-walked : goal.returns-then-start-end-clause-walked
returns-then-start-end-clause-walked c =
    let seen = goal.at.returns-then-start-end-clause-walked c in
    let here = c.loop-start.invariant.0 in
    raising_walked c.args.facet _ c.requires.0 (done seen.After-work-odd) here.low (rank_in (vector_in here)) (c.if-start-end.true ∙ ends seen.After-end-end)

pub returns-then-start-end-clause-turned : goal.returns-then-start-end-clause-turned
returns-then-start-end-clause-turned c =
    let seen = goal.at.returns-then-start-end-clause-turned c in
    raising_former c.args.facet _ c.requires.0 (done seen.After-work-odd) (c.if-start-end.true ∙ ends seen.After-end-end)

pub returns-then-start-end-clause-odds : goal.returns-then-start-end-clause-odds
returns-then-start-end-clause-odds c =
    let seen = goal.at.returns-then-start-end-clause-odds c in
    raising_odds c.args.facet _ c.requires.0 (done seen.After-work-odd) (c.if-start-end.true ∙ ends seen.After-end-end)

-- ---- the next

pub pass-requires : goal.pass-requires
pass-requires c =
    let s = c.loop-start.invariant in
    let m = met c.on-v.result c.on-v.ensures in
    rw (m.on, m.same) s.1

pub next-requires : goal.next-requires
next-requires c = omega (arith, c.loop-start.invariant.0.low, c.args.facet.line.top)

-- It is one of the face, since the face goes on.
stands : (c : After-next) → Standing c.args.facet c.next.new.self
stands c =
    let facet = c.args.facet in
    let long = c.requires.0 in
    let s = c.loop-start.invariant in
    next_standing s.0 c.next.new.self c.next.ensures
    (omega (arith, raising_end facet _ long s.0 s.2, raising_inside facet _ long s.0 s.2, ends (goal.at.After-next c).After-end-end, c.if-start-end.false))

-- How it follows the other.
follows : (c : After-next) →
    let facet = c.args.facet in
    let next = c.next.new.self in
    let here = c.loop-start.vector in
    Follows facet.axes here.sum (rank (at here.levels) facet.axes) next.sum (rank (at next.levels) facet.axes)
follows c = next_follows c.loop-start.invariant.0 c.next.new.self c.next.ensures

pub before_first-requires-then-v-vector : goal.before_first-requires-then-v-vector
before_first-requires-then-v-vector c =
    rw c.of-starts.ensures (stands (goal.at.before_first-requires-then-v-vector c).After-next).low

-- Less of the face is left.
nearer : (c : After-next) →
    let rest = c.end-end.result in
    rest - (c.loop-start.start + 1 * 2 ^ c.loop-start.vector.sum % 2 ^ 64) < rest - c.loop-start.start
nearer c =
    let facet = c.args.facet in
    let long = c.requires.0 in
    let s = c.loop-start.invariant in
    omega (
      arith,
      raising_first facet _ long s.0 s.2,
      raising_end facet _ long s.0 s.2,
      raising_inside facet _ long s.0 s.2,
      ends (goal.at.After-next c).After-end-end,
      pow_pos c.loop-start.vector.sum,
    )

pub loop-start-smaller : goal.loop-start-smaller
loop-start-smaller c = nearer (goal.at.loop-start-smaller c).After-next

pub loop-start-smaller-then-v-vector : goal.loop-start-smaller-then-v-vector
loop-start-smaller-then-v-vector c = nearer (goal.at.loop-start-smaller-then-v-vector c).After-next

-- It is the first of the sum above.
pub loop-start-preserved-then-v-vector : goal.loop-start-preserved-then-v-vector
loop-start-preserved-then-v-vector c =
    let seen = goal.at.loop-start-preserved-then-v-vector c in
    let here = stands seen.After-next in
    let next = follows seen.After-next in
    let m = met c.on-v.result c.on-v.ensures in (
      here,
      ⊎_elim
          (λ same. absurd (omega (arith, same.0, rw m.same at c.if-v-vector.true)))
          (λ above. rw above.1 (rw c.of-starts.ensures at c.before_first-then-v-vector.ensures))
          next,
      raising_next c.args.facet _ c.requires.0 (done seen.After-work-odd) here.low next,
    )

-- It is of the same sum.
pub loop-start-preserved : goal.loop-start-preserved
loop-start-preserved c =
    let seen = goal.at.loop-start-preserved c in
    let here = stands seen.After-next in
    let next = follows seen.After-next in
    let m = met c.on-v.result c.on-v.ensures in (
      here,
      ⊎_elim
          (λ same. rw (same.1, same.0) (rw (m.on, m.same) at c.pass.ensures))
          (λ above. absurd (omega (arith, above.0, rw m.same at c.if-v-vector.false)))
          next,
      raising_next c.args.facet _ c.requires.0 (done seen.After-work-odd) here.low next,
    )
