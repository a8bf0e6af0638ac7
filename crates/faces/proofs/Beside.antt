-- What lies beside a point on an inner axis: off the border a point of the same face, with a smaller number; across the border a point of the face where the axis is a
-- border axis. True since only the axis changes: there a parent has a smaller level, and across the border stand level 0 and index 1. Points of the same marks,
-- levels and indices have one number.
-- Assumes nothing.
use mathlib.Core.Path.{◌≡◌, ap, ap₂, sym, ◌∙◌, fun_ext}
use mathlib.Core.Bool.{false}
use Prim.Native.Nat.{ℕ, suc, ◌%◌, ◌^◌, ◌≤◌, ◌<◌}
use native.Mathlib.Omega.{arith}
use Rattle.naturals.specs.Sum.{sum_to}
use Rattle.naturals.proofs.Cases.{eq_or_not, le_or_lt}
use Rattle.numbering.specs.declared.Side.{Side}
use Rattle.numbering.specs.Parent.{numerator, is_border, parent_level, parent_index, update}
use Rattle.numbering.proofs.Ordering.{smaller_sum}
use Rattle.numbering.proofs.Parents.{update_same, update_other, update_sum, parent_sum, parent_is_point}
use Rattle.faces.specs.Packing.{packed}
use Rattle.faces.specs.Marked.{Marked, in_face, border_number}
use Rattle.faces.proofs.Packing.{inner_axes, packed_sum}
use Rattle.faces.proofs.Numbering.{in_face_is, border_number_is, inner_point}

-- ---- numbers

-- On one face the point of a smaller level sum has the smaller number.
module _ {d n : ℕ} {m l i k j : ℕ → ℕ} (x : Marked d n m l i) (y : Marked d n m k j) (h : sum_to l d < sum_to k d) where
  pub smaller_in_face : in_face d m l i < in_face d m k j
  smaller_in_face =
      rw (in_face_is d m l i, in_face_is d m k j)
      (smaller_sum (inner_point x) (inner_point y)
      (omega (
        arith,
        packed_sum m d l x.level,
        packed_sum m d k y.level,
        ap (sum_to (packed m d l)) (inner_axes m d),
        ap (sum_to (packed m d k)) (inner_axes m d),
        h,
      )))

  pub smaller_on_face : border_number d n m l i < border_number d n m k j
  smaller_on_face = omega (arith, border_number_is d n m l i, border_number_is d n m k j, smaller_in_face)

-- Past the axes two functions that are 0 there are the same.
same_all : (d : ℕ) (f g : ℕ → ℕ) → ((t : ℕ) → t < d → f t ≡ g t) → ((t : ℕ) → d ≤ t → f t ≡ 0) → ((t : ℕ) → d ≤ t → g t ≡ 0) → f ≡ g
same_all d f g same none also = fun_ext λ t. le_or_lt d t (λ past. none t past ∙ sym (also t past)) (same t)

pub one_border_number : {d n : ℕ} {m l i o k j : ℕ → ℕ} → Marked d n m l i → Marked d n o k j →
    ((t : ℕ) → t < d → m t ≡ o t) → ((t : ℕ) → t < d → l t ≡ k t) → ((t : ℕ) → t < d → i t ≡ j t) →
    border_number d n m l i ≡ border_number d n o k j
one_border_number {d} {n} {m} {l} {i} {o} {k} {j} x y marks levels indices =
    ap (λ (a : ℕ → ℕ). border_number d n a l i) (same_all d m o marks x.no_mark y.no_mark)
    ∙ ap₂ (border_number d n o) (same_all d l k levels x.no_level y.no_level) (same_all d i j indices x.no_index y.no_index)

-- ---- beside a point

module _ {d n : ℕ} {m l i : ℕ → ℕ} (x : Marked d n m l i) (t : ℕ) (axis : t < d) (e : m t ≡ 0) where
  apart : (u : ℕ) → d ≤ u → u ≡ t → ⊥
  apart u past same = omega arith

  -- A border axis is another axis.
  other_axis : (u : ℕ) → 0 < m u → u ≡ t → ⊥
  other_axis u some same = omega (arith, ap m same)

  -- Off the border.
  module _ (side : Side) (f : is_border (l t) (numerator side (i t)) ≡ false) where
    abbrev v : ℕ
    v = parent_level (l t) (numerator side (i t))

    abbrev w : ℕ
    w = parent_index (numerator side (i t))

    pub parent_marked : Marked d n m (update l t v) (update i t w)
    parent_marked =
        record {
          point = parent_is_point x.point t axis side f;
          mark = x.mark;
          level = λ u h some. update_other l t v u (other_axis u some) ∙ x.level u h some;
          index = λ u h some. update_other i t w u (other_axis u some) ∙ x.index u h some;
          no_mark = x.no_mark;
          no_level = λ u past. update_other l t v u (apart u past) ∙ x.no_level u past;
          no_index = λ u past. update_other i t w u (apart u past) ∙ x.no_index u past;
        }

    pub parent_earlier : border_number d n m (update l t v) (update i t w) < border_number d n m l i
    parent_earlier = smaller_on_face parent_marked x (parent_sum x.point t axis side f)

  -- Across the border.
  module _ (a : ℕ) (mark : a ≤ 2) where
    mark_across : (u : ℕ) → u < d → update m t a u ≤ 2
    mark_across u h =
        eq_or_not u t
        (λ same. rw (same, update_same m t a) mark)
        (λ other. rw (update_other m t a u other) (x.mark u h))

    level_across : (u : ℕ) → u < d → 0 < update m t a u → update l t 0 u ≡ 0
    level_across u h some =
        eq_or_not u t
        (λ same. rw same (update_same l t 0))
        (λ other. update_other l t 0 u other ∙ x.level u h (omega (arith, some, update_other m t a u other)))

    index_across : (u : ℕ) → u < d → 0 < update m t a u → update i t 1 u ≡ 1
    index_across u h some =
        eq_or_not u t
        (λ same. rw same (update_same i t 1))
        (λ other. update_other i t 1 u other ∙ x.index u h (omega (arith, some, update_other m t a u other)))

    odd_across : (u : ℕ) → u < d → update i t 1 u % 2 ≡ 1
    odd_across u h =
        eq_or_not u t
        (λ same. rw (same, update_same i t 1) (omega arith))
        (λ other. rw (update_other i t 1 u other) (x.point.odd u h))

    below_across : (u : ℕ) → u < d → update i t 1 u < 2 ^ suc (update l t 0 u)
    below_across u h =
        eq_or_not u t
        (λ same. rw (same, update_same i t 1, update_same l t 0) (omega arith))
        (λ other. rw (update_other i t 1 u other, update_other l t 0 u other) (x.point.below u h))

    pub across_marked : Marked d n (update m t a) (update l t 0) (update i t 1)
    across_marked =
        record {
          point = record { sum = omega (arith, update_sum l t 0 d axis, x.point.sum); odd = odd_across; below = below_across };
          mark = mark_across;
          level = level_across;
          index = index_across;
          no_mark = λ u past. update_other m t a u (apart u past) ∙ x.no_mark u past;
          no_level = λ u past. update_other l t 0 u (apart u past) ∙ x.no_level u past;
          no_index = λ u past. update_other i t 1 u (apart u past) ∙ x.no_index u past;
        }
