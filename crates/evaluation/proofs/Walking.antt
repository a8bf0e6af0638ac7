-- The walk over the level lists of all faces: after each it has both parts of the sum over all points passed, since of the points of a list only the one taken has a
-- joint weight above 0. There are at most 1,287 lists, of either sort of shape, so neither sum leaves 64 bits; and the sums of the two parts make the estimate.
-- Assumes nothing.
use mathlib.Core.Bool.{Bool, true}
use mathlib.Core.List.{List}
use mathlib.Core.Path.{◌≡◌, refl, ap, ap₂, sym, ◌∙◌}
use Prim.Native.Nat.{ℕ, zero, suc, ◌+◌, ◌-◌, ◌*◌, ◌^◌, ◌≤◌, ◌<◌}
use native.Mathlib.Nat.{mul_comm, mul-zero, mul-le-mul_right, suc-mul}
use native.Mathlib.Omega.{arith}
use lib.Dec.{leb}
use Rattle.std.specs.Prelude.{if◌then◌else◌}
use Rattle.std.proofs.lemmas.Int.{ints}
use lib.IntN.{ℤ, pos, nat_abs, ◌+ℤ◌, ◌*ℤ◌, *ℤ-zero}
use borrow.Author.Tests.{leb-true, le-leb}
use Rattle.naturals.specs.Sum.{sum_to}
use Rattle.naturals.specs.Test.{all}
use Rattle.naturals.proofs.Sums.{sum_to_zero, sum_to_suc, sum_to_mono, sum_block}
use Rattle.naturals.proofs.Tests.{all_at}
use Rattle.integers.specs.Floor.{floor, remainder}
use Rattle.integers.specs.Half.{in_limit}
use Rattle.integers.specs.Total.{total}
use Rattle.integers.proofs.Floors.{floor_remainder}
use Rattle.integers.proofs.Products.{times_times, plus_times}
use Rattle.integers.proofs.Sizes.{sum_size}
use Rattle.integers.proofs.Totals.{total_zero, total_suc, total_block}
use Rattle.numbering.specs.Binomial.{choose}
use Rattle.numbering.specs.Count.{vectors, shell, start, points}
use Rattle.numbering.specs.Inverse.{block}
use Rattle.hierarchy.specs.Turns.{value_at}
use Rattle.faces.specs.Faces.{faces}
use Rattle.faces.specs.Marked.{layer, border_points}
use Rattle.faces.specs.Row.{all_faces, borders_of, inner_of}
use Rattle.shapes.specs.declared.Shape.{Shape}
use Rattle.shapes.specs.Shapes.{most_points, most_terms, points_of}
use Rattle.grids.specs.Grids.{mark_on, level_on, index_on}
use Rattle.interpolation.specs.Weighted.{weighted, weighted_sum}
use Rattle.surfaces.specs.Weights.{unit}
use Rattle.surfaces.specs.Surface.{weight_in, joint_in, joint_sum_in, rounded, estimate_in, weight_on, joint_at, estimate_at}
use Rattle.surfaces.proofs.AxisHat.{axis_weight_le}
use Rattle.surfaces.proofs.Joint.{joint_le}
use Rattle.surfaces.proofs.Unit.{unit_bits, unit_pos}
use Rattle.evaluation.proofs.Blocks.{ListAt, taken_at, taken_below, block_zero}
use Rattle.wide_sums.proofs.Parts.{high_size, low_size}

-- ---- how many level lists there are

-- With a zero border: two tests for each shape, which antt computes.
enough : ℕ → ℕ → Bool
enough k n = if leb (points (suc k) n) most_points then leb (sum_to (vectors (suc k)) (suc n)) most_terms else true

every_enough : ℕ → Bool
every_enough k = all (enough k) 9

all_enough : all every_enough 8 ≡ true
unfolding all every_enough enough points start shell vectors sum_to choose
all_enough = refl

pub most_vectors : (d n : ℕ) → 1 ≤ d → d ≤ 8 → n ≤ 8 → points d n ≤ most_points → sum_to (vectors d) (suc n) ≤ most_terms
unfolding every_enough enough
most_vectors d n low high few small =
    let axes : suc (d - 1) ≡ d = omega arith in
    let tested = all_at (enough (d - 1)) 9 (all_at every_enough 8 all_enough (d - 1) (omega arith)) n (omega arith) in
    leb-true (sum_to (vectors d) (suc n)) most_terms (rw (axes, le-leb (points d n) most_points small) at tested)

-- On face number f of d axes and top level n; and on all faces before it. Of a sort with values on the border there are up to 4 axes.
pub lists_on : ℕ → ℕ → ℕ → ℕ
lists_on d n f = sum_to (vectors (inner_of d f)) (suc n)

pub lists_before : ℕ → ℕ → ℕ → ℕ
lists_before d n f = sum_to (lists_on d n) f

pub lists_start : (d n : ℕ) → lists_before d n 0 ≡ 0
unfolding lists_before
lists_start d n = sum_to_zero (lists_on d n)

pub lists_suc : (d n f : ℕ) → lists_before d n (suc f) ≡ lists_before d n f + sum_to (vectors (inner_of d f)) (suc n)
unfolding lists_before lists_on
lists_suc d n f = sum_to_suc (lists_on d n) f

-- The same two tests.
enough_on_faces : ℕ → ℕ → Bool
enough_on_faces d n = if leb (border_points d n) most_points then leb (lists_before d n (all_faces d)) most_terms else true

every_enough_on_faces : ℕ → Bool
every_enough_on_faces d = all (enough_on_faces d) 9

all_enough_on_faces : all every_enough_on_faces 5 ≡ true
unfolding all every_enough_on_faces enough_on_faces lists_before lists_on all_faces inner_of borders_of faces block border_points layer points start shell vectors sum_to choose
all_enough_on_faces = refl

pub most_lists : (d n f : ℕ) → d ≤ 4 → n ≤ 8 → f ≤ all_faces d → border_points d n ≤ most_points → lists_before d n f ≤ most_terms
unfolding lists_before every_enough_on_faces enough_on_faces
most_lists d n f few low le small =
    let tested = all_at (enough_on_faces d) 9 (all_at every_enough_on_faces 5 all_enough_on_faces d (omega arith)) n (omega arith) in
    omega (
      arith,
      sum_to_mono (lists_on d n) f (all_faces d) le,
      leb-true (lists_before d n (all_faces d)) most_terms (rw (le-leb (border_points d n) most_points small) at tested),
    )

-- ---- both parts of the sum

regrouped : (a p b q : ℤ) → (a +ℤ p) +ℤ (b +ℤ q) ≡ (a +ℤ b) +ℤ (p +ℤ q)
regrouped a p b q = omega (arith, ints)

module _ (s : Shape) (xs : List ℤ) (x : ℕ → ℕ) where
  -- What point number p adds to the two sums.
  unfoldable pub high_term : ℕ → ℤ
  high_term p = floor unit (value_at xs (suc p)) *ℤ pos (joint_at s x p)

  unfoldable pub low_term : ℕ → ℕ
  low_term p = remainder unit (value_at xs (suc p)) * joint_at s x p

  module _ (inside : (t : ℕ) → t < s.axes → x t ≤ unit) where
    pub weight_small : (p : ℕ) → joint_at s x p ≤ unit
    unfolding joint_in weight_in
    weight_small p =
        joint_le unit (weight_on s x p) s.axes
        (λ t h. axis_weight_le unit (x t) (level_on s p t) (index_on s p t) (mark_on s p t) (λ marked. inside t h))

    high_term_lem : (p : ℕ) → in_limit (value_at xs (suc p)) ≡ true → nat_abs (high_term p) ≤ 2 ^ 47
    unfolding high_term
    high_term_lem p e = high_size (value_at xs (suc p)) (joint_at s x p) e (weight_small p)

    low_term_lem : (p : ℕ) → low_term p ≤ 2 ^ (unit_bits + unit_bits)
    unfolding low_term
    low_term_lem p = low_size (value_at xs (suc p)) (joint_at s x p) (weight_small p)

  whole_term : (p : ℕ) → weighted (value_at xs) (joint_at s x) p ≡ high_term p *ℤ pos unit +ℤ pos (low_term p)
  unfolding weighted high_term low_term
  whole_term p =
      let c : ℤ = value_at xs (suc p) in
      let w : ℕ = joint_at s x p in
      ap (λ (z : ℤ). z *ℤ pos w) (sym (floor_remainder unit c unit_pos))
      ∙ plus_times (floor unit c *ℤ pos unit) (pos (remainder unit c)) w
      ∙ ap (λ (z : ℤ). z +ℤ pos (remainder unit c * w))
      (sym (times_times (floor unit c) unit w)
      ∙ ap (λ (k : ℕ). floor unit c *ℤ pos k) (mul_comm unit w)
      ∙ times_times (floor unit c) w unit)

  whole_sum : (m : ℕ) →
      total (weighted (value_at xs) (joint_at s x)) m ≡ total high_term m *ℤ pos unit +ℤ pos (sum_to low_term m)
  whole_sum zero = rw (total_zero (weighted (value_at xs) (joint_at s x)), total_zero high_term, sum_to_zero low_term) (ap pos (omega arith))
  whole_sum (suc m) =
      total_suc (weighted (value_at xs) (joint_at s x)) m
      ∙ ap₂ ◌+ℤ◌ (whole_sum m) (whole_term m)
      ∙ regrouped (total high_term m *ℤ pos unit) (pos (sum_to low_term m)) (high_term m *ℤ pos unit) (pos (low_term m))
      ∙ ap₂ (λ (z : ℤ) (k : ℕ). z +ℤ pos k)
      (sym (plus_times (total high_term m) (high_term m) unit) ∙ ap (λ (z : ℤ). z *ℤ pos unit) (sym (total_suc high_term m)))
      (sym (sum_to_suc low_term m))

  parts_joined : rounded unit (total high_term (points_of s) *ℤ pos unit +ℤ pos (sum_to low_term (points_of s))) ≡ estimate_at s (value_at xs) x
  unfolding estimate_in joint_sum_in weighted_sum
  parts_joined = sym (ap (rounded unit) (whole_sum (points_of s)))

-- ---- the walk

-- Past so many lists, both parts of the sum are over all points before number `first`.
pub record Summed (s : Shape) (xs : List ℤ) (x : ℕ → ℕ) (high : ℤ) (low first count : ℕ) : Type 0 where
  pub highs : high ≡ total (high_term s xs x) first
  pub lows : low ≡ sum_to (low_term s xs x) first
  pub few : count ≤ most_terms
  pub high_small : nat_abs high ≤ count * 2 ^ 47
  pub low_small : low ≤ count * 2 ^ (unit_bits + unit_bits)

pub summed_starts : (s : Shape) (xs : List ℤ) (x : ℕ → ℕ) → Summed s xs x (pos 0) 0 0 0
summed_starts s xs x =
    record {
      highs = sym (total_zero (high_term s xs x));
      lows = sym (sum_to_zero (low_term s xs x));
      few = omega arith;
      high_small = omega arith;
      low_small = omega arith;
    }

module _ {s : Shape} {xs : List ℤ} {x : ℕ → ℕ} {high : ℤ} {low first count : ℕ} (w : Summed s xs x high low first count) where
  -- Both sums leave room for one term more.
  pub high_room : nat_abs high ≤ 2 ^ 62
  high_room = omega (arith, w.high_small, mul-le-mul_right (2 ^ 47) w.few)

  pub low_room : low ≤ 2 ^ 62
  low_room = omega (arith, w.low_small, mul-le-mul_right (2 ^ (unit_bits + unit_bits)) w.few)

  module _ {m l : ℕ → ℕ} (a : ListAt s m l first) (inside : (t : ℕ) → t < s.axes → x t ≤ unit) where
    -- The point taken is one of the table's.
    pub taken_here : first + taken_at x m l s.axes < points_of s
    taken_here = a.inside (taken_at x m l s.axes) (taken_below x m l s.axes)

    high_step : total (high_term s xs x) (first + 2 ^ sum_to l s.axes) ≡ high +ℤ high_term s xs x (first + taken_at x m l s.axes)
    unfolding high_term
    high_step =
        total_block (high_term s xs x) first (2 ^ sum_to l s.axes) (taken_at x m l s.axes) (taken_below x m l s.axes)
        (λ j lt ne.
        ap (λ (k : ℕ). floor unit (value_at xs (suc (first + j))) *ℤ pos k) (block_zero a x inside j lt ne)
        ∙ *ℤ-zero (floor unit (value_at xs (suc (first + j)))))
        ∙ ap (λ (z : ℤ). z +ℤ high_term s xs x (first + taken_at x m l s.axes)) (sym w.highs)

    low_step : sum_to (low_term s xs x) (first + 2 ^ sum_to l s.axes) ≡ low + low_term s xs x (first + taken_at x m l s.axes)
    unfolding low_term
    low_step =
        sum_block (low_term s xs x) first (2 ^ sum_to l s.axes) (taken_at x m l s.axes) (taken_below x m l s.axes)
        (λ j lt ne.
        ap (λ (k : ℕ). remainder unit (value_at xs (suc (first + j))) * k) (block_zero a x inside j lt ne)
        ∙ mul-zero (remainder unit (value_at xs (suc (first + j)))))
        ∙ ap (λ (k : ℕ). k + low_term s xs x (first + taken_at x m l s.axes)) (sym w.lows)

    -- One list more.
    pub summed_steps : suc count ≤ most_terms → in_limit (value_at xs (suc (first + taken_at x m l s.axes))) ≡ true →
        Summed s xs x (high +ℤ high_term s xs x (first + taken_at x m l s.axes)) (low + low_term s xs x (first + taken_at x m l s.axes))
        (first + 2 ^ sum_to l s.axes) (suc count)
    summed_steps room limited =
        let p : ℕ = first + taken_at x m l s.axes in
        record {
          highs = sym high_step;
          lows = sym low_step;
          few = room;
          high_small =
              omega (arith, suc-mul count (2 ^ 47), w.high_small, sum_size high (high_term s xs x p), high_term_lem s xs x inside p limited);
          low_small = omega (arith, suc-mul count (2 ^ (unit_bits + unit_bits)), w.low_small, low_term_lem s xs x inside p);
        }

  -- A larger count bounds them as well.
  pub summed_more : {count' : ℕ} → count ≤ count' → count' ≤ most_terms → Summed s xs x high low first count'
  summed_more le few =
      record {
        highs = w.highs;
        lows = w.lows;
        few = few;
        high_small = omega (arith, w.high_small, mul-le-mul_right (2 ^ 47) le);
        low_small = omega (arith, w.low_small, mul-le-mul_right (2 ^ (unit_bits + unit_bits)) le);
      }

  -- Past the last point both sums are over all points.
  pub summed_ends : first ≡ points_of s → rounded unit (high *ℤ pos unit +ℤ pos low) ≡ estimate_at s (value_at xs) x
  summed_ends all_points =
      ap₂ (λ (z : ℤ) (k : ℕ). rounded unit (z *ℤ pos unit +ℤ pos k)) w.highs w.lows
      ∙ ap (λ (m : ℕ). rounded unit (total (high_term s xs x) m *ℤ pos unit +ℤ pos (sum_to (low_term s xs x) m))) all_points
      ∙ parts_joined s xs x
