use Rattle.std.proofs.Common.{◌≡◌, ℕ, suc, ◌+◌, ◌-◌, ◌≤◌, ◌<◌, get_or, pos, refl, sym, ap, ◌∙◌, arith, pow_pos, w64}
use mir.ValLaws.{to_z-of_z}
use Rattle.integers.specs.Half.{in_limit}
use Rattle.numbering.specs.Point.{at}
use Rattle.faces.specs.Faces.{faces}
use Rattle.faces.specs.Row.{all_faces, row}
use Rattle.shapes.specs.Shapes.{points_of}
use Rattle.evaluation.specs.Steps.{whole, hats_on, MarkedTable}
use Rattle.evaluation.proofs.Lists.{Walks, walks_inner, walks_none, whole_border, vector_steps}
use Rattle.evaluation.proofs.Tabulating.{HatsAt, marked_hats}
use Rattle.evaluation.proofs.Walking.{high_room, low_room, summed_ends}
use Rattle.evaluation.proofs.Reaching.{tallied_ends}
use Rattle.evaluation.proofs.Stepping.{Next, levels_small, list_size, list_within, bounded, place_read, place_small, weight_in_lem, value_in, value_fits, stepped, counted}
use Rattle.evaluation.proofs.Facing.{face_of, face_in_row, face_inner, face_marks, next_layer, first_face, past_faces, lists_passed, to_first, face_starts, marks_here, face_next, count_next, face_ends, all_faces_end}
use Rattle.evaluation.proofs.summed_over_faces.Goals.{then-inner-eq0, else-inner-eq0, After-first-vector, In-loop-vector}
use Rattle.evaluation.proofs.summed_over_faces.Goals as goal

pub loop-borders-init : goal.loop-borders-init
loop-borders-init c =
    rw (c.new-sum.ensures.high, c.new-sum.ensures.low, first_face c.args.shape.axes)
    (to_first c.args.asked c.args.shape c.args.table.now c.args.coordinates.now)

-- ---- the face at hand

walks : (c : After-first-vector) → Walks (c.args.shape.axes - c.loop-borders.borders) c.args.shape.level c.if-inner-eq0.axes.0 c.if-inner-eq0.axes.1
walks c =
    let inner : ℕ = c.args.shape.axes - c.loop-borders.borders in
    let n = c.args.shape.level in
    elim c.if-inner-eq0.branch [
      | then-inner-eq0 w ↦ rw (w.axes-is, w.if-inner-eq0.true) (walks_none n)
      | else-inner-eq0 w ↦ rw w.axes-is (walks_inner inner n)
    ]

pub loop-vector-init : goal.loop-vector-init
loop-vector-init c =
    let d = c.args.shape.axes in
    let b = c.loop-borders.borders in
    let r = c.loop-rank.rank in
    let le : b ≤ d = omega (arith, c.loop-borders-test.true) in
    let lt : r < faces d b = omega (arith, c.loop-rank-test.true, c.faces-rank-end.ensures) in
    face_starts (face_in_row d b r le lt) (c.marks_of-marks.ensures ∙ face_marks d b r le lt) (face_inner d b r le lt) (walks c) c.first-vector.ensures c.loop-rank.invariant

-- ---- the list at hand

next : (c : In-loop-vector) →
    let a = c.args in
    let m = at c.marks_of-marks.result in
    let loop = c.loop-vector in
    let v = at loop.vector.levels in
    let count = lists_passed a.shape (face_of a.shape.axes c.loop-borders.borders c.loop-rank.rank) c.if-inner-eq0.axes.0 v in
    Next a.asked a.shape a.table.now a.coordinates.now m (whole a.shape.axes m v) loop.sum.high loop.sum.low loop.absolute_sum loop.first count loop.vector.sum
next c =
    face_next c.requires.0 c.requires.1 c.loop-vector.invariant c.loop-vector-test.true

marks : (c : In-loop-vector) → (t : ℕ) → t < c.args.shape.axes → at c.marks_of-marks.result t ≤ 2
marks c = marks_here c.requires.0 c.requires.1 c.loop-vector.invariant

hats_here : (c : In-loop-vector) →
    let d = c.args.shape.axes in
    let m = at c.marks_of-marks.result in
    let l = whole d m (at c.loop-vector.vector.levels) in
    HatsAt (at c.args.coordinates.now) m l d (hats_on c.marked_table-hats.result m l)
hats_here c =
    let d = c.args.shape.axes in
    let m = at c.marks_of-marks.result in
    let v = at c.loop-vector.vector.levels in
    let table : MarkedTable (at c.args.coordinates.now) d c.marked_table-hats.result = rw c.requires.0.listed.long at c.marked_table-hats.ensures in
    marked_hats table m (whole d m v) (levels_small (next c)) (marks c) (whole_border d m v)

pub taken_on_face-term-requires : goal.taken_on_face-term-requires
taken_on_face-term-requires c =
    let here = (goal.at.taken_on_face-term-requires c).In-loop-vector in
    (marks here, bounded (next here) (hats_here here))

pub overflow_add-c : goal.overflow_add-c
overflow_add-c c =
    let here = (goal.at.overflow_add-c c).In-loop-vector in
    record { fits = omega (arith, place_small (next here) (hats_here here) c.taken_on_face-term.ensures) }

pub offset_bounds-table-first : goal.offset_bounds-table-first
offset_bounds-table-first c =
    let here = (goal.at.offset_bounds-table-first c).In-loop-vector in
    record { fits = omega (arith, place_small (next here) (hats_here here) c.taken_on_face-term.ensures) }

pub bounds-table-first : goal.bounds-table-first
bounds-table-first c =
    let here = (goal.at.bounds-table-first c).In-loop-vector in
    place_read (next here) (hats_here here) c.taken_on_face-term.ensures

pub add-requires : goal.add-requires
add-requires c =
    let here = (goal.at.add-requires c).In-loop-vector in
    let n = next here in
    let hats = hats_here here in
    let found = c.taken_on_face-term.ensures in (
      high_room n.summed,
      low_room n.summed,
      ap in_limit (to_z-of_z w64 _ (value_fits n hats found)) ∙ value_in n hats found,
      weight_in_lem n hats found,
    )

pub overflow_add-first : goal.overflow_add-first
overflow_add-first c =
    let n = next (goal.at.overflow_add-first c).In-loop-vector in
    record { fits = omega (arith, list_size n, list_within n, c.requires.0.long, c.requires.0.small) }

pub loop-vector-smaller : goal.loop-vector-smaller
loop-vector-smaller c =
    let n = next (goal.at.loop-vector-smaller c).In-loop-vector in
    let step = vector_steps c.loop-vector.invariant.here c.loop-vector-test.true c.next.new.self c.next.ensures in
    omega (arith, list_size n, step.within, pow_pos c.loop-vector.vector.sum)

pub loop-vector-preserved : goal.loop-vector-preserved
loop-vector-preserved c =
    let here = (goal.at.loop-vector-preserved c).In-loop-vector in
    let n = next here in
    let hats = hats_here here in
    let found = c.taken_on_face-term.ensures in
    let xs = c.args.table.now in
    let inv = c.loop-vector.invariant in
    let test = c.loop-vector-test.true in
    let first = c.loop-vector.first in
    let value = to_z-of_z w64 (get_or xs (first + c.taken_on_face-term.result.position) (pos 0)) (value_fits n hats found) in
    let count = count_next c.requires.0 c.requires.1 inv test c.next.new.self c.next.ensures in
    rw (list_size n)
    (record {
      in_row = inv.in_row;
      marks = inv.marks;
      inner = inv.inner;
      walks = inv.walks;
      here = vector_steps inv.here test c.next.new.self c.next.ensures;
      summed = stepped n hats found (rw value at c.add.ensures.high) (rw value at c.add.ensures.low) count;
      tallied = counted n hats found (ap (λ (k : ℕ). c.loop-vector.absolute_sum + k) (rw value at c.absolute-absolute_sum.ensures)) count;
    })

pub loop-rank-preserved : goal.loop-rank-preserved
loop-rank-preserved c =
    let next : face_of c.args.shape.axes c.loop-borders.borders (c.loop-rank.rank + 1) ≡ suc (face_of c.args.shape.axes c.loop-borders.borders c.loop-rank.rank) = omega arith in
    rw next (face_ends c.requires.0 c.requires.1 c.loop-vector.invariant (omega (arith, c.loop-vector-test.false)))

pub loop-borders-preserved : goal.loop-borders-preserved
loop-borders-preserved c =
    let d = c.args.shape.axes in
    let b = c.loop-borders.borders in
    let r = c.loop-rank.rank in
    let last : r ≡ faces d b = omega (arith, c.loop-rank-test.false, c.loop-rank.auto.rank-end, c.faces-rank-end.ensures) in
    rw (sym (next_layer d b r last)) c.loop-rank.invariant

pub returns-clause-value : goal.returns-clause-value
returns-clause-value c =
    let s = c.args.shape in
    let to = c.loop-borders.invariant in
    let past : face_of s.axes c.loop-borders.borders 0 ≡ all_faces s.axes =
    past_faces s.axes c.loop-borders.borders (omega (arith, c.loop-borders-test.false, c.loop-borders.auto.borders-end)) in
    let end : c.loop-borders.first ≡ points_of s = to.reached ∙ ap (row s.axes s.level) past ∙ all_faces_end s c.requires.1 in
    let estimate = to_z-of_z w64 c.joined.result (record { sfits = c.joined.type_inv }) ∙ c.joined.ensures ∙ summed_ends to.summed end in
    rw (estimate, tallied_ends to.tallied end) refl
