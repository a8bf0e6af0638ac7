use Rattle.std.proofs.Common.{◌≡◌, ℕ, ◌+◌, ◌-◌, ◌^◌, ◌≤◌, ◌<◌, List, length, get_or, take, drop, ℤ, pos, refl, sym, ap, ap₂, ◌∙◌, arith, pow_pos, drop-drop, w64, length-take-le}
use Rattle.std.proofs.lemmas.List.{get_or-drop}
use Rattle.std.proofs.lemmas.Bool.{eqb-true, eqb-false}
use mir.ValLaws.{to_z-of_z}
use Rattle.naturals.specs.Sum.{sum_to}
use Rattle.integers.specs.Half.{in_limit}
use Rattle.numbering.specs.Point.{at}
use Rattle.numbered.specs.Numbered.{unmarked}
use Rattle.shapes.specs.Shapes.{points_of}
use Rattle.shapes.proofs.Layers.{points_plain}
use Rattle.vectors.specs.Steps.{vectors_before}
use Rattle.evaluation.specs.Steps.{hats_of, Tabulated, Found}
use Rattle.evaluation.proofs.Lists.{vector_starts, none_before, vector_low, vector_steps, next_count}
use Rattle.evaluation.proofs.Tabulating.{HatsAt, tabulated_front, tabulated_hats}
use Rattle.evaluation.proofs.Walking.{summed_starts, high_room, low_room, summed_ends}
use Rattle.evaluation.proofs.Reaching.{tallied_starts, tallied_ends}
use Rattle.evaluation.proofs.Stepping.{Next, levels_small, list_size, list_within, bounded, place_read, place_small, weight_in_lem, value_in, value_fits, stepped, counted}
use Rattle.evaluation.proofs.Inside.{next_inside}
use Rattle.evaluation.proofs.summed.Goals.{After-tabulated-tabulated, In-loop-hats, After-taken-term}
use Rattle.evaluation.proofs.summed.Goals as goal

pub loop-hats-init : goal.loop-hats-init
loop-hats-init c =
    let a = c.args in
    let none : length a.table.now - length a.table.now ≡ 0 = omega arith in
    let starts = c.first-vector.ensures in
    let count = none_before a.shape.axes a.shape.level 0 c.first-vector.result starts in
    rw (none, count, c.new-sum.ensures.high, c.new-sum.ensures.low) (
      vector_starts a.shape.axes a.shape.level 0 c.first-vector.result starts,
      omega arith,
      refl,
      summed_starts a.shape a.table.now (at a.coordinates.now),
      tallied_starts a.asked a.shape a.table.now (at a.coordinates.now),
    )

-- ---- the table of hats

hats_long : (c : After-tabulated-tabulated) → length (take c.args.shape.axes c.tabulated-tabulated.result) ≡ c.args.shape.axes
hats_long c = length-take-le c.args.shape.axes c.tabulated-tabulated.result (omega (arith, c.tabulated-tabulated.ensures.1, c.requires.listed.few))

hats_at : (c : After-tabulated-tabulated) → Tabulated (at c.args.coordinates.now) c.args.shape.axes (take c.args.shape.axes c.tabulated-tabulated.result)
hats_at c = tabulated_front (rw c.requires.listed.long at c.tabulated-tabulated.ensures.0)

-- so the hats of a level vector
hats_here : (c : After-tabulated-tabulated) → (l : ℕ → ℕ) → sum_to l c.args.shape.axes ≤ 8 →
    HatsAt (at c.args.coordinates.now) unmarked l c.args.shape.axes (hats_of (take c.args.shape.axes c.tabulated-tabulated.result) l)
hats_here c l low = tabulated_hats (hats_at c) l low

-- ---- where the walk is

-- The first point of the vector at hand.
first : In-loop-hats → ℕ
first c = length c.args.table.now - length c.loop-hats.rest.now

more : (c : In-loop-hats) → first c < length c.args.table.now
unfolding first
more c =
    omega (arith, c.loop-hats.invariant.1, eqb-false (length c.loop-hats.rest.now) 0 (sym c.is_empty.ensures ∙ c.loop-hats-test.true))

next : (c : In-loop-hats) →
    let a = c.args in
    let loop = c.loop-hats in
    let l = at loop.vector.levels in
    let count = vectors_before a.shape.axes l in
    Next a.asked a.shape a.table.now a.coordinates.now unmarked l loop.sum.high loop.sum.low loop.absolute_sum (first c) count loop.vector.sum
unfolding first
next c =
    let inv = c.loop-hats.invariant in
    next_inside c.requires c.if-shape.false inv.0 (more c) inv.3 inv.4

found : (c : After-taken-term) → length (take c.args.shape.axes c.tabulated-tabulated.result) ≡ c.args.shape.axes →
    let l = at c.loop-hats.vector.levels in
    Found (hats_of (take c.args.shape.axes c.tabulated-tabulated.result) l) l c.args.shape.axes c.taken-term.result
found c long = rw long at c.taken-term.ensures

pub taken-term-requires : goal.taken-term-requires
unfolding first
taken-term-requires c =
    let seen = goal.at.taken-term-requires c in
    let n = next seen.In-loop-hats in
    rw (hats_long seen.After-tabulated-tabulated)
    (bounded n (hats_here seen.After-tabulated-tabulated (at c.loop-hats.vector.levels) (levels_small n)))

-- The value read, as the table has it.
read : (c : After-taken-term) →
    get_or c.loop-hats.rest.now c.taken-term.result.position (pos 0)
    ≡ get_or c.args.table.now (length c.args.table.now - length c.loop-hats.rest.now + c.taken-term.result.position) (pos 0)
read c =
    let xs = c.args.table.now in
    let q = c.taken-term.result.position in
    ap (λ (l : List ℤ). get_or l q (pos 0)) c.loop-hats.invariant.2
    ∙ get_or-drop (length xs - length c.loop-hats.rest.now) xs q (pos 0)

pub offset_bounds-rest-term : goal.offset_bounds-rest-term
unfolding first
offset_bounds-rest-term c =
    let seen = goal.at.offset_bounds-rest-term c in
    let n = next seen.In-loop-hats in
    let hats = hats_here seen.After-tabulated-tabulated (at c.loop-hats.vector.levels) (levels_small n) in
    record { fits = omega (arith, place_small n hats (found seen.After-taken-term (hats_long seen.After-tabulated-tabulated))) }

pub bounds-rest-term : goal.bounds-rest-term
unfolding first
bounds-rest-term c =
    let seen = goal.at.bounds-rest-term c in
    let n = next seen.In-loop-hats in
    let hats = hats_here seen.After-tabulated-tabulated (at c.loop-hats.vector.levels) (levels_small n) in
    omega (arith, place_read n hats (found seen.After-taken-term (hats_long seen.After-tabulated-tabulated)), c.loop-hats.invariant.1)

pub add-requires : goal.add-requires
unfolding first
add-requires c =
    let seen = goal.at.add-requires c in
    let n = next seen.In-loop-hats in
    let hats = hats_here seen.After-tabulated-tabulated (at c.loop-hats.vector.levels) (levels_small n) in
    let term = found seen.After-taken-term (hats_long seen.After-tabulated-tabulated) in
    rw (read seen.After-taken-term) (
      high_room n.summed,
      low_room n.summed,
      ap in_limit (to_z-of_z w64 _ (value_fits n hats term)) ∙ value_in n hats term,
      weight_in_lem n hats term,
    )

pub overflow_shl-vector : goal.overflow_shl-vector
overflow_shl-vector c =
    let n = next (goal.at.overflow_shl-vector c).In-loop-hats in
    omega (arith, n.small)

pub split_at-requires : goal.split_at-requires
unfolding first
split_at-requires c =
    let n = next (goal.at.split_at-requires c).In-loop-hats in
    omega (arith, list_size n, list_within n, c.loop-hats.invariant.1)

pub next-requires : goal.next-requires
next-requires c = (next (goal.at.next-requires c).In-loop-hats).small

pub loop-hats-smaller : goal.loop-hats-smaller
loop-hats-smaller c =
    let n = next (goal.at.loop-hats-smaller c).In-loop-hats in
    omega (arith, c.split_at.ensures.back_len, list_size n, pow_pos c.loop-hats.vector.sum)

pub loop-hats-preserved : goal.loop-hats-preserved
unfolding first
loop-hats-preserved c =
    let seen = goal.at.loop-hats-preserved c in
    let inv = c.loop-hats.invariant in
    let here = seen.In-loop-hats in
    let n = next here in
    let hats = hats_here seen.After-tabulated-tabulated (at c.loop-hats.vector.levels) (levels_small n) in
    let term = found seen.After-taken-term (hats_long seen.After-tabulated-tabulated) in
    let s = c.args.shape in
    let xs = c.args.table.now in
    let before : ℕ = length xs - length c.loop-hats.rest.now in
    let step : ℕ = 2 ^ c.loop-hats.vector.sum in
    let size = list_size n in
    let next_first : length xs - length c.split_at.result.1.now ≡ before + step =
    omega (arith, c.split_at.ensures.back_len, size, list_within n, inv.1) in
    let low = vector_low inv.0 (omega (arith, more here, c.requires.long, points_plain s c.if-shape.false)) in
    let count = next_count inv.0 low c.next.new.self c.next.ensures in
    let value = to_z-of_z w64 (get_or xs (before + c.taken-term.result.position) (pos 0)) (value_fits n hats term) in
    let is = read seen.After-taken-term in
    rw next_first (
      vector_steps inv.0 low c.next.new.self c.next.ensures,
      omega (arith, c.split_at.ensures.back_len, inv.1),
      c.split_at.ensures.back ∙ ap₂ (λ (k : ℕ) (l : List ℤ). drop k l) size inv.2 ∙ drop-drop step before xs,
      stepped n hats term (rw (is, value) at c.add.ensures.high) (rw (is, value) at c.add.ensures.low) count,
      counted n hats term (ap (λ (k : ℕ). c.loop-hats.absolute_sum + k) (rw (is, value) at c.absolute-absolute_sum.ensures)) count,
    )

pub returns-clause-value : goal.returns-clause-value
returns-clause-value c =
    let inv = c.loop-hats.invariant in
    let none : length c.loop-hats.rest.now ≡ 0 = eqb-true (length c.loop-hats.rest.now) 0 (sym c.is_empty.ensures ∙ c.loop-hats-test.false) in
    let end : length c.args.table.now - length c.loop-hats.rest.now ≡ points_of c.args.shape = omega (arith, c.requires.long, none) in
    let estimate = to_z-of_z w64 c.joined.result (record { sfits = c.joined.type_inv }) ∙ c.joined.ensures ∙ summed_ends inv.3 end in
    rw (estimate, tallied_ends inv.4 end) refl
