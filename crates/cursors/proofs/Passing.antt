-- Passing one level vector: the cursors up to its level on the axis step over the level vector below it, whose points they stand at, and the others stay. The
-- steps lie within the numbers of one level sum, so they fit.
-- Assumes nothing.
use mathlib.Core.List.{List}
use mathlib.Core.Path.{◌≡◌, ap, sym, ◌∙◌}
use Prim.Native.Nat.{ℕ, suc, ◌+◌, ◌-◌, ◌*◌, ◌%◌, ◌^◌, ◌≤◌, ◌<◌}
use native.Mathlib.Nat.{mul-suc, mul-le-mul_left}
use native.Mathlib.Omega.{arith}
use lib.ListN.{length, set, length-set}
use lib.Seq.{get_or-set_same, get_or-set_other}
use Rattle.naturals.specs.Sum.{sum_to}
use Rattle.naturals.proofs.Cases.{eq_or_not, le_or_lt}
use Rattle.naturals.proofs.Sums.{term_le}
use Rattle.naturals.proofs.Shifts.{one_shifted}
use Rattle.numbering.specs.Count.{vectors, start}
use Rattle.numbering.specs.Point.{at}
use Rattle.numbering.specs.Number.{rank}
use Rattle.numbering.proofs.Numbering.{start_suc}
use Rattle.shapes.proofs.Totals.{start_small}
use Rattle.neighbours.specs.declared.facets.Facet.{Facet}
use Rattle.neighbours.specs.declared.subspaces.Subspace.{Subspace}
use Rattle.neighbours.proofs.Seeing.{Seen}
use Rattle.cursors.specs.Steps.{passed, Cursors}
use Rattle.cursors.proofs.Lowering.{does_reach, does_not_reach, passed_step, passed_lower, lowered_rank_lt}
use Rattle.cursors.proofs.Filling.{cursor_at}

-- The cursors below j are those where b level vectors are passed, the others still those where a are.
pub record Moved (facet : Facet) (s a b j : ℕ) (cursors : List ℕ) : Type 0 where
  pub low : s ≤ facet.line.shape.level
  pub long : length cursors ≡ 9
  pub done : (i : ℕ) → 1 ≤ i → i < j → i ≤ s → at cursors i ≡ cursor_at facet s b i
  pub left : (i : ℕ) → 1 ≤ i → j ≤ i → i ≤ s → at cursors i ≡ cursor_at facet s a i

pub moved_starts : {facet : Facet} {s a b : ℕ} {cursors : List ℕ} → Cursors facet s a cursors → Moved facet s a b 1 cursors
moved_starts held =
    record {
      low = held.low;
      long = held.long;
      done = λ i from to le. absurd (omega arith);
      left = λ i from ge le. held.first i from le;
    }

pub moved_steps : {facet : Facet} {s a b : ℕ} {cursors : List ℕ} (j v : ℕ) → Moved facet s a b j cursors → j < 9 → v ≡ cursor_at facet s b j →
    Moved facet s a b (j + 1) (set cursors j v)
moved_steps {facet} {s} {a} {b} {cursors} j v moved inside e =
    record {
      low = moved.low;
      long = length-set cursors j v ∙ moved.long;
      done = done;
      left = λ i from ge le. get_or-set_other cursors j i v 0 (λ same. omega arith) ∙ moved.left i from (omega arith) le;
    }
  where
    done : (i : ℕ) → 1 ≤ i → i < j + 1 → i ≤ s → at (set cursors j v) i ≡ cursor_at facet s b i
    done i from to le =
        eq_or_not i j
        (λ same. rw same (get_or-set_same cursors j v 0 (omega (arith, moved.long)) ∙ e))
        (λ ne. get_or-set_other cursors j i v 0 ne ∙ moved.done i from (omega arith) le)

pub moved_ends : {facet : Facet} {s a b own : ℕ} {cursors : List ℕ} → ((j : ℕ) → own < j → cursor_at facet s a j ≡ cursor_at facet s b j) →
    Moved facet s a b (suc own) cursors → Cursors facet s b cursors
moved_ends {own} stay moved =
    record {
      low = moved.low;
      long = moved.long;
      first =
          λ j from to.
          le_or_lt j own
          (λ le. moved.done j from (omega arith) to)
          (λ past. moved.left j from past to ∙ stay j past);
    }

-- A level vector that is met, of sum s.
module _ {v : Subspace} {s : ℕ} (seen : Seen v) (sum : sum_to (at v.vector.levels) v.facet.axes ≡ s) where
  -- How many level vectors of the sum come before it.
  abbrev before : ℕ
  before = rank (at v.vector.levels) v.facet.axes

  pub own_le : v.own ≤ s
  own_le = omega (arith, seen.own, term_le (at v.vector.levels) v.facet.axes v.facet.place seen.axis)

  pub sum_le : s ≤ 8
  sum_le = omega (arith, seen.sum, seen.top)

  -- The cursors past its level on the axis stay.
  stays : (j : ℕ) → v.own < j → cursor_at v.facet s (suc before) j ≡ cursor_at v.facet s before j
  stays j past =
      let none = does_not_reach (at v.vector.levels) v.facet.axes v.facet.place s j seen.axis sum (omega (arith, seen.own)) in
      ap (λ (r : ℕ). v.facet.base + start v.facet.axes (s - j) + 2 ^ (s - j) * r)
      (omega (arith, passed_step v.facet.axes v.facet.place s j before, none))

  pub moved_up : {cursors : List ℕ} → Moved v.facet s before (suc before) (suc v.own) cursors → Cursors v.facet s (suc before) cursors
  moved_up moved = moved_ends (λ j past. sym (stays j past)) moved

  pub moved_down : {cursors : List ℕ} → Moved v.facet s (suc before) before (suc v.own) cursors → Cursors v.facet s before cursors
  moved_down moved = moved_ends stays moved

  -- The others step by as many points as the level vector below has.
  module _ (j : ℕ) (to : j ≤ v.own) where
    steps : cursor_at v.facet s (suc before) j ≡ cursor_at v.facet s before j + 2 ^ (s - j)
    steps =
        let one = does_reach (at v.vector.levels) v.facet.axes v.facet.place s j seen.axis sum (omega (arith, seen.own)) in
        let more : passed v.facet.axes v.facet.place s j (suc before) ≡ suc (passed v.facet.axes v.facet.place s j before)
        = omega (arith, passed_step v.facet.axes v.facet.place s j before, one)
        in
        omega (
          arith,
          ap (λ (r : ℕ). 2 ^ (s - j) * r) more,
          mul-suc (2 ^ (s - j)) (passed v.facet.axes v.facet.place s j before),
        )

    shifted : 1 * 2 ^ (s - j) % 2 ^ 64 ≡ 2 ^ (s - j)
    shifted = one_shifted 64 (s - j) (omega (arith, sum_le))

    pub stepped_up : (c : ℕ) → c ≡ cursor_at v.facet s before j → c + 1 * 2 ^ (s - j) % 2 ^ 64 ≡ cursor_at v.facet s (suc before) j
    stepped_up c e = omega (arith, steps, shifted)

    pub stepped_down : (c : ℕ) → c ≡ cursor_at v.facet s (suc before) j → c - 1 * 2 ^ (s - j) % 2 ^ 64 ≡ cursor_at v.facet s before j
    stepped_down c e = omega (arith, steps, shifted)

    pub step_fits : (c : ℕ) → c ≡ cursor_at v.facet s (suc before) j → 1 * 2 ^ (s - j) % 2 ^ 64 ≤ c
    step_fits c e = omega (arith, steps, shifted)

    -- A step ends within the numbers of the smaller sum.
    pub cursor_small : cursor_at v.facet s (suc before) j < 2 ^ 33
    cursor_small =
        let high : j ≤ at v.vector.levels v.facet.place = omega (arith, seen.own) in
        let le : j ≤ s = omega (arith, own_le) in
        let lower = passed_lower v.facet.axes v.facet.place s j seen.axis le (at v.vector.levels) sum high in
        let below : suc (passed v.facet.axes v.facet.place s j before) ≤ vectors v.facet.axes (s - j)
        = omega (arith, lower, lowered_rank_lt v.facet.axes v.facet.place s j seen.axis le (at v.vector.levels) sum high)
        in
        omega (
          arith,
          steps,
          mul-suc (2 ^ (s - j)) (passed v.facet.axes v.facet.place s j before),
          mul-le-mul_left (2 ^ (s - j)) below,
          start_suc v.facet.axes (s - j),
          start_small v.facet.axes (omega (arith, seen.axis)) seen.few (suc (s - j)) (omega (arith, sum_le)),
          v.facet.sits.inside,
          v.facet.line.small,
        )
