-- From the cursors at a level list to the first number of the list without the axis: the lists before it that have its level on the axis are as many as come before the
-- one without the axis, and they are the ones that its own cursor has passed and the cursor after that has not. Cursor 0 would be at the list itself.
-- Assumes nothing.
use mathlib.Core.List.{List}
use mathlib.Core.Path.{◌≡◌, ap, sym, ◌∙◌}
use Prim.Native.Nat.{ℕ, suc, ◌+◌, ◌-◌, ◌*◌, ◌^◌, ◌≤◌, ◌<◌}
use native.Mathlib.Nat.{mul-zero, mul-add, mul-le-mul_left, two-pow-succ}
use native.Mathlib.Omega.{arith}
use Rattle.naturals.specs.Sum.{sum_to}
use Rattle.naturals.proofs.Cases.{le_or_lt}
use Rattle.naturals.proofs.Sums.{term_le}
use Rattle.numbering.specs.Count.{vectors, start}
use Rattle.numbering.specs.Point.{at}
use Rattle.numbering.specs.Number.{rank, first_of}
use Rattle.numbering.proofs.Numbering.{start_suc}
use Rattle.numbering.proofs.Subspaces.{first_is}
use Rattle.shapes.proofs.Totals.{start_small}
use Rattle.neighbours.specs.declared.facets.Facet.{Facet}
use Rattle.neighbours.specs.declared.subspaces.Subspace.{Subspace}
use Rattle.neighbours.specs.Facets.{without}
use Rattle.neighbours.proofs.Seeing.{vector_of}
use Rattle.neighbours.proofs.Without.{without_sum, first_without_small}
use Rattle.cursors.specs.declared.starts.Starts.{Starts}
use Rattle.cursors.specs.Steps.{passed, Cursors}
use Rattle.cursors.proofs.Lowering.{passed_lower, lowered_rank_lt}
use Rattle.cursors.proofs.Dropping.{passed_at_zero, passed_past, rank_without}

-- ---- the level list

module _ (v : Subspace) where
  abbrev levels : ℕ → ℕ
  levels = at v.vector.levels

  -- How many level lists of the sum come before it.
  abbrev before : ℕ
  before = rank levels v.facet.axes

  -- The points of the lists that cursor j has passed.
  abbrev pub count : ℕ → ℕ
  count j = 2 ^ (v.vector.sum - j) * passed v.facet.axes v.facet.place v.vector.sum j before

  pub own_low : v.own ≤ v.vector.sum
  own_low = omega (arith, v.there, (vector_of v).total, term_le levels v.facet.axes v.facet.place v.facet.inner)

  sum_low : v.vector.sum ≤ 8
  sum_low = omega (arith, v.inside, v.facet.line.top)

  own_there : v.own ≤ levels v.facet.place
  own_there = omega (arith, v.there)

  -- They are few.
  pub count_small : count v.own < 4294967296
  count_small =
      let d = v.facet.axes in
      let left = v.vector.sum - v.own in
      let few : passed d v.facet.place v.vector.sum v.own before ≤ vectors d left
      = omega (
        arith,
        passed_lower d v.facet.place v.vector.sum v.own v.facet.inner own_low levels (vector_of v).total own_there,
        lowered_rank_lt d v.facet.place v.vector.sum v.own v.facet.inner own_low levels (vector_of v).total own_there,
      )
      in
      omega (
        arith,
        mul-le-mul_left (2 ^ left) few,
        start_suc d left,
        start_small d (omega (arith, v.facet.inner)) v.facet.few (suc left) (omega (arith, sum_low)),
      )

  -- ---- without the axis

  half_passed : 2 ^ (v.vector.sum - v.own) * passed v.facet.axes v.facet.place v.vector.sum (suc v.own) before ≡ 2 * count (suc v.own)
  half_passed =
      let more : ℕ = passed v.facet.axes v.facet.place v.vector.sum (suc v.own) before in
      le_or_lt (suc v.own) v.vector.sum
      (λ le.
      let next : v.vector.sum - v.own ≡ suc (v.vector.sum - suc v.own) = omega arith in
      rw next (omega (arith, ap (λ (x : ℕ). x * more) (two-pow-succ (v.vector.sum - suc v.own)))))
      (λ over.
      let none : more ≡ 0 = passed_past v.facet.axes v.facet.place v.vector.sum (suc v.own) before over in
      omega (
        arith,
        ap (λ (x : ℕ). 2 ^ (v.vector.sum - v.own) * x) none,
        ap (λ (x : ℕ). 2 ^ (v.vector.sum - suc v.own) * x) none,
        mul-zero (2 ^ (v.vector.sum - v.own)),
        mul-zero (2 ^ (v.vector.sum - suc v.own)),
      ))

  abbrev left : ℕ → ℕ
  left = without v.facet.place levels

  pub same_level : count v.own ≡ 2 ^ (v.vector.sum - v.own) * rank left (v.facet.axes - 1) + 2 * count (suc v.own)
  same_level =
      let ranked = rw (sym v.there) at (rank_without v.facet.axes v.facet.place v.vector.sum levels v.facet.inner (vector_of v).total) in
      let more : ℕ = passed v.facet.axes v.facet.place v.vector.sum (suc v.own) before in
      omega (
        arith,
        ap (λ (p : ℕ). 2 ^ (v.vector.sum - v.own) * p) ranked,
        mul-add (2 ^ (v.vector.sum - v.own)) (rank left (v.facet.axes - 1)) more,
        half_passed,
      )

  sum_left : sum_to left (v.facet.axes - 1) ≡ v.vector.sum - v.own
  sum_left = omega (arith, without_sum v.facet.place levels v.facet.axes v.facet.inner, (vector_of v).total, v.there)

  pub first_left : start (v.facet.axes - 1) (v.vector.sum - v.own) + (count v.own - 2 * count (suc v.own)) ≡ first_of (v.facet.axes - 1) left
  first_left =
      let d = v.facet.axes - 1 in
      omega (
        arith,
        first_is d left,
        ap (λ (s : ℕ). start d s + 2 ^ s * rank left d) sum_left,
        same_level,
      )

  pub left_small : first_of (v.facet.axes - 1) left < 4294967296
  left_small =
      first_without_small v.facet.place levels v.facet.axes v.facet.inner v.facet.few (omega (arith, (vector_of v).total, sum_low))

-- ---- as the cursors have it

module _ (starts : Starts) (v : Subspace) (same : starts.facet ≡ v.facet) {cursors : List ℕ}
    (held : Cursors v.facet v.vector.sum (rank (at v.vector.levels) v.facet.axes) cursors) where
  place_of : (s : ℕ) → s ≤ v.vector.sum → at starts.places s ≡ v.facet.base + start v.facet.axes s
  place_of s le =
      let low : s ≤ suc starts.facet.line.shape.level = omega (arith, held.low, ap (λ (f : Facet). f.line.shape.level) same) in
      rw same at (starts.first s low)

  first_point : v.start ≡ v.facet.base + start v.facet.axes v.vector.sum + 2 ^ v.vector.sum * before v
  first_point =
      omega (
        arith,
        v.first,
        first_is v.facet.axes (levels v),
        ap (λ (s : ℕ). start v.facet.axes s + 2 ^ s * before v) (vector_of v).total,
      )

  pub place_before : at starts.places v.vector.sum ≤ v.start
  place_before = omega (arith, first_point, place_of v.vector.sum (omega arith))

  pub at_list : (j : ℕ) → j ≡ 0 → v.start - at starts.places v.vector.sum ≡ count v j
  at_list j e =
      let whole : v.vector.sum - 0 ≡ v.vector.sum = omega arith in
      rw (e, whole)
      (omega (
        arith,
        first_point,
        place_of v.vector.sum (omega arith),
        ap (λ (p : ℕ). 2 ^ v.vector.sum * p) (passed_at_zero v.facet.axes v.facet.place v.vector.sum (before v)),
      ))

pub past_list : (v : Subspace) (j : ℕ) → v.vector.sum < j → 0 ≡ count v j
past_list v j over =
    sym
    (ap (λ (p : ℕ). 2 ^ (v.vector.sum - j) * p) (passed_past v.facet.axes v.facet.place v.vector.sum j (before v) over)
    ∙ mul-zero (2 ^ (v.vector.sum - j)))
