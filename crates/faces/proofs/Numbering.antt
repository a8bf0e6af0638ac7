-- The numbering of a table with values on the border is one: numbers of points are below N, the point of a number has that number, and the number of a point leads
-- back to it. So the numbers run from 0 without gap and name each point once. True part by part: how many border axes, the rank of the face and the number within
-- the face are read off a number in turn, and within a face it is document 01's numbering of the inner axes.
-- Assumes nothing.
use mathlib.Core.Path.{◌≡◌, refl, ap, ap₂, sym, ◌∙◌, fun_ext}
use Prim.Native.Nat.{ℕ, suc, ◌+◌, ◌-◌, ◌*◌, ◌/◌, ◌%◌, ◌^◌, ◌≤◌, ◌<◌}
use native.Mathlib.Nat.{mul-suc, mul_comm, mul-le-mul_left, mod-lt, div-add-mod, div-lt_iff_lt-mul, mul-add-div, mul-add-mod_self_left, div-eq_of_lt, mod-eq_of_lt}
use native.Mathlib.Omega.{arith}
use lib.Dec.{eqb, ltb}
use borrow.Author.Tests.{lt-ltb, le-ltb, eq-eqb, ne_eqb}
use Rattle.naturals.specs.Sum.{sum_to}
use Rattle.std.specs.Prelude.{if◌then◌else◌}
use Rattle.naturals.proofs.Cases.{eq_or_not, le_or_lt}
use Rattle.naturals.proofs.Sums.{sum_to_suc, sum_to_mono, sum_to_cong}
use Rattle.numbering.specs.Count.{points, start}
use Rattle.numbering.specs.Point.{IsPoint}
use Rattle.numbering.specs.Number.{number}
use Rattle.numbering.specs.Inverse.{level_at, index_at}
use Rattle.numbering.proofs.Vectors.{vectors_zero}
use Rattle.numbering.proofs.Rank.{rank_cong}
use Rattle.numbering.proofs.Position.{position_cong}
use Rattle.numbering.proofs.Block.{block_is, block_low, block_high}
use Rattle.numbering.proofs.Numbering as inner
use Rattle.faces.specs.Faces.{faces, borders, face_rank, mark_of}
use Rattle.faces.specs.Packing.{before, axis_of, packed}
use Rattle.faces.specs.Marked.{Marked, layer, border_points, face_start, in_face, border_number, borders_at, within_layer, number_at, mark_at, border_level_at, border_index_at}
use Rattle.faces.proofs.Ranks.{borders_le, face_rank_lt, mark_of_rank, mark_past, mark_le, borders_of_mark, rank_of_mark}
use Rattle.faces.proofs.Packing.{inner_axes, before_lt, Inner, axis_inner, packed_is, packed_before, packed_sum, place_lt}

-- ---- what document 01's numbering gives

-- A sparse table has a point, over no axes too.
pub points_pos : (k n : ℕ) → 0 < points k n
points_pos k n =
    omega (
      arith,
      inner.points_is k n,
      inner.start_mono k 1 (suc n) (omega arith),
      inner.start_suc k 0,
      vectors_zero k,
    )

-- The number depends on the levels and indices of its axes alone.
pub number_cong : (k : ℕ) (l i o j : ℕ → ℕ) → ((t : ℕ) → t < k → l t ≡ o t) → ((t : ℕ) → t < k → i t ≡ j t) → number k l i ≡ number k o j
number_cong k l i o j same also =
    inner.number_is k l i
    ∙ ap₂ ◌+◌
    (ap₂ (λ (s r : ℕ). start k s + 2 ^ s * r) (sum_to_cong l o k same) (rank_cong l o k same))
    (position_cong l i o j k same also)
    ∙ sym (inner.number_is k o j)

-- ---- layers

pub layer_is : (d n b : ℕ) → layer d n b ≡ faces d b * points (d - b) n
unfolding layer
layer_is d n b = refl

pub all_layers : (d n : ℕ) → border_points d n ≡ sum_to (layer d n) (suc d)
unfolding border_points
all_layers d n = refl

pub face_start_is : (d n : ℕ) (m : ℕ → ℕ) → face_start d n m ≡ sum_to (layer d n) (borders m d) + points (d - borders m d) n * face_rank m d
unfolding face_start
face_start_is d n m = refl

pub in_face_is : (d : ℕ) (m l i : ℕ → ℕ) → in_face d m l i ≡ number (d - borders m d) (packed m d l) (packed m d i)
unfolding in_face
in_face_is d m l i = refl

pub border_number_is : (d n : ℕ) (m l i : ℕ → ℕ) → border_number d n m l i ≡ face_start d n m + in_face d m l i
unfolding border_number
border_number_is d n m l i = refl

-- A face ends before the faces with more border axes begin, since its rank is below their number.
module _ (d n : ℕ) (m : ℕ → ℕ) (marks : (t : ℕ) → t < d → m t ≤ 2) where
  pub face_end : face_start d n m + points (d - borders m d) n ≤ sum_to (layer d n) (suc (borders m d))
  face_end =
      let k : ℕ = d - borders m d in
      omega (
        arith,
        face_start_is d n m,
        mul-suc (points k n) (face_rank m d),
        mul-le-mul_left (points k n) (face_rank_lt m d marks),
        mul_comm (points k n) (faces d (borders m d)),
        sum_to_suc (layer d n) (borders m d),
        layer_is d n (borders m d),
      )

-- ---- from point to number and back

module _ {d n : ℕ} {m l i : ℕ → ℕ} (x : Marked d n m l i) where
  inner_at : (j : ℕ) → j < d - borders m d → Inner m d j (axis_of m d j)
  inner_at j h = axis_inner m d j (omega (arith, inner_axes m d))

  -- Its levels and indices on the inner axes are a point of the face.
  pub inner_point : IsPoint (d - borders m d) n (packed m d l) (packed m d i)
  inner_point =
      record {
        sum =
            omega (
              arith,
              ap (sum_to (packed m d l)) (inner_axes m d),
              packed_sum m d l x.level,
              x.point.sum,
            );
        odd = λ j h. rw packed_is (x.point.odd (axis_of m d j) (inner_at j h).axis);
        below = λ j h. rw (packed_is m d i j, packed_is m d l j) (x.point.below (axis_of m d j) (inner_at j h).axis);
      }

  pub in_face_lt : in_face d m l i < points (d - borders m d) n
  in_face_lt = rw in_face_is (inner.number_lt inner_point)

  -- So its number is below those of the faces with more border axes, and below N.
  pub number_in_layer : border_number d n m l i < sum_to (layer d n) (suc (borders m d))
  number_in_layer = omega (arith, border_number_is d n m l i, face_end d n m x.mark, in_face_lt)

  pub border_number_lt : border_number d n m l i < border_points d n
  border_number_lt =
      omega (
        arith,
        number_in_layer,
        all_layers d n,
        sum_to_mono (layer d n) (suc (borders m d)) (suc d) (omega (arith, borders_le m d)),
      )

  -- How many border axes, the face and the number within it, read off its number.
  borders_at_lem : borders_at d n (border_number d n m l i) ≡ borders m d
  unfolding borders_at
  borders_at_lem =
      block_is (layer d n) d (border_number d n m l i) (borders m d) (borders_le m d)
      (omega (arith, border_number_is d n m l i, face_start_is d n m))
      number_in_layer

  within_at : within_layer d n (border_number d n m l i) ≡ points (d - borders m d) n * face_rank m d + in_face d m l i
  unfolding within_layer
  within_at = omega (arith, ap (sum_to (layer d n)) borders_at_lem, border_number_is d n m l i, face_start_is d n m)

  rank_at : within_layer d n (border_number d n m l i) / points (d - borders_at d n (border_number d n m l i)) n ≡ face_rank m d
  rank_at =
      let k : ℕ = d - borders m d in
      ap₂ (λ (w b : ℕ). w / points (d - b) n) within_at borders_at_lem
      ∙ mul-add-div (points_pos k n) (face_rank m d) (in_face d m l i)
      ∙ omega (arith, div-eq_of_lt in_face_lt)

  number_at_lem : number_at d n (border_number d n m l i) ≡ in_face d m l i
  unfolding number_at
  number_at_lem =
      let k : ℕ = d - borders m d in
      ap₂ (λ (w b : ℕ). w % points (d - b) n) within_at borders_at_lem
      ∙ mul-add-mod_self_left (points k n) (face_rank m d) (in_face d m l i)
      ∙ mod-eq_of_lt in_face_lt

  -- Its marks, levels and indices are those read off its number.
  pub marks_again : mark_at d n (border_number d n m l i) ≡ m
  unfolding mark_at
  marks_again =
      ap₂ (mark_of d) borders_at_lem rank_at
      ∙ fun_ext λ t.
      le_or_lt d t
      (λ past. mark_past d (borders m d) (face_rank m d) t past ∙ sym (x.no_mark t past))
      (λ h. mark_of_rank m d x.mark t h)

  -- Within its face the levels and indices read off its number there are those of its inner axes, at their places.
  pub level_in_face : (j : ℕ) → j < d - borders m d → level_at (d - borders m d) n (in_face d m l i) j ≡ packed m d l j
  level_in_face j h = ap (λ (p : ℕ). level_at (d - borders m d) n p j) (in_face_is d m l i) ∙ inner.level_of_number inner_point j h

  pub index_in_face : (j : ℕ) → j < d - borders m d → index_at (d - borders m d) n (in_face d m l i) j ≡ packed m d i j
  index_in_face j h = ap (λ (p : ℕ). index_at (d - borders m d) n p j) (in_face_is d m l i) ∙ inner.index_of_number inner_point j h

  pub level_at_place : (t : ℕ) → t < d → m t ≡ 0 → level_at (d - borders m d) n (in_face d m l i) (before m t) ≡ l t
  level_at_place t h e = level_in_face (before m t) (place_lt m d t h e) ∙ packed_before m d l t h e

  pub index_at_place : (t : ℕ) → t < d → m t ≡ 0 → index_at (d - borders m d) n (in_face d m l i) (before m t) ≡ i t
  index_at_place t h e = index_in_face (before m t) (place_lt m d t h e) ∙ packed_before m d i t h e

  -- What stands at the places of the inner axes, c on a border axis and 0 past the axes, is a function that has these.
  spread : (f at_place : ℕ → ℕ) (c : ℕ) → ((t : ℕ) → t < d → m t ≡ 0 → at_place (before m t) ≡ f t) →
      ((t : ℕ) → t < d → 0 < m t → f t ≡ c) → ((t : ℕ) → d ≤ t → f t ≡ 0) →
      (t : ℕ) → (if ltb t d then (if eqb (m t) 0 then at_place (before m t) else c) else 0) ≡ f t
  spread f at_place c inner_has border_has none t =
      le_or_lt d t
      (λ past. rw (le-ltb t d past) (sym (none t past)))
      (λ h.
      rw (lt-ltb t d h)
      (eq_or_not (m t) 0
      (λ e. rw (eq-eqb (m t) 0 e) (inner_has t h e))
      (λ ne. rw (ne_eqb (m t) 0 ne) (sym (border_has t h (omega arith))))))

  pub levels_again : border_level_at d n (border_number d n m l i) ≡ l
  unfolding border_level_at
  levels_again =
      fun_ext λ t.
      rw (marks_again, borders_at_lem, number_at_lem)
      (spread l (level_at (d - borders m d) n (in_face d m l i)) 0 level_at_place x.level x.no_level t)

  pub indices_again : border_index_at d n (border_number d n m l i) ≡ i
  unfolding border_index_at
  indices_again =
      fun_ext λ t.
      rw (marks_again, borders_at_lem, number_at_lem)
      (spread i (index_at (d - borders m d) n (in_face d m l i)) 1 index_at_place x.index x.no_index t)

-- ---- from number to point and back

module _ (d n p : ℕ) (lt : p < border_points d n) where
  abbrev b : ℕ
  b = borders_at d n p

  abbrev size : ℕ
  size = points (d - borders_at d n p) n

  -- The number lies in the layer of its border axes, and what is left of it names a face and a number there.
  layer_low : sum_to (layer d n) b ≤ p
  unfolding borders_at
  layer_low = block_low (layer d n) d p

  layer_high : p < sum_to (layer d n) (suc b)
  unfolding borders_at
  layer_high = block_high (layer d n) d p (omega (arith, all_layers d n))

  within_is : sum_to (layer d n) b + within_layer d n p ≡ p
  unfolding within_layer
  within_is = omega (arith, layer_low)

  face_lt : within_layer d n p / size < faces d b
  face_lt =
      (div-lt_iff_lt-mul (points_pos (d - b) n)).1
      (omega (arith, layer_high, within_is, sum_to_suc (layer d n) b, layer_is d n b))

  mark_is : (t : ℕ) → mark_at d n p t ≡ mark_of d b (within_layer d n p / size) t
  unfolding mark_at
  mark_is t = refl

  pub borders_are : borders (mark_at d n p) d ≡ b
  unfolding mark_at
  borders_are = borders_of_mark d b (within_layer d n p / size) face_lt

  rank_is : face_rank (mark_at d n p) d ≡ within_layer d n p / size
  unfolding mark_at
  rank_is = rank_of_mark d b (within_layer d n p / size) face_lt

  pub number_in_face : number_at d n p < size
  unfolding number_at
  number_in_face = mod-lt (within_layer d n p) (points_pos (d - b) n)

  at_point : IsPoint (d - b) n (level_at (d - b) n (number_at d n p)) (index_at (d - b) n (number_at d n p))
  at_point = inner.point_of_number_lem (d - b) n (number_at d n p) number_in_face

  inner_count : before (mark_at d n p) d ≡ d - b
  inner_count = inner_axes (mark_at d n p) d ∙ ap (λ (c : ℕ). d - c) borders_are

  -- Its levels and indices, case by case.
  level_inner : (t : ℕ) → t < d → mark_at d n p t ≡ 0 → border_level_at d n p t ≡ level_at (d - b) n (number_at d n p) (before (mark_at d n p) t)
  unfolding border_level_at
  level_inner t h e = rw (lt-ltb t d h, eq-eqb (mark_at d n p t) 0 e)

  level_border : (t : ℕ) → t < d → 0 < mark_at d n p t → border_level_at d n p t ≡ 0
  unfolding border_level_at
  level_border t h some = rw (lt-ltb t d h, ne_eqb (mark_at d n p t) 0 (λ e. omega arith))

  index_inner : (t : ℕ) → t < d → mark_at d n p t ≡ 0 → border_index_at d n p t ≡ index_at (d - b) n (number_at d n p) (before (mark_at d n p) t)
  unfolding border_index_at
  index_inner t h e = rw (lt-ltb t d h, eq-eqb (mark_at d n p t) 0 e)

  index_border : (t : ℕ) → t < d → 0 < mark_at d n p t → border_index_at d n p t ≡ 1
  unfolding border_index_at
  index_border t h some = rw (lt-ltb t d h, ne_eqb (mark_at d n p t) 0 (λ e. omega arith))

  -- What the inner axes have, one after the other, is the point of the number within the face.
  packed_level : (j : ℕ) → j < d - b → packed (mark_at d n p) d (border_level_at d n p) j ≡ level_at (d - b) n (number_at d n p) j
  packed_level j h =
      let x = axis_inner (mark_at d n p) d j (omega (arith, inner_count)) in
      packed_is (mark_at d n p) d (border_level_at d n p) j
      ∙ level_inner (axis_of (mark_at d n p) d j) x.axis x.mark
      ∙ ap (level_at (d - b) n (number_at d n p)) x.place

  packed_index : (j : ℕ) → j < d - b → packed (mark_at d n p) d (border_index_at d n p) j ≡ index_at (d - b) n (number_at d n p) j
  packed_index j h =
      let x = axis_inner (mark_at d n p) d j (omega (arith, inner_count)) in
      packed_is (mark_at d n p) d (border_index_at d n p) j
      ∙ index_inner (axis_of (mark_at d n p) d j) x.axis x.mark
      ∙ ap (index_at (d - b) n (number_at d n p)) x.place

  place_below : (t : ℕ) → t < d → mark_at d n p t ≡ 0 → before (mark_at d n p) t < d - b
  place_below t h e = omega (arith, before_lt (mark_at d n p) d t h e, inner_count)

  -- It is a point.
  levels_sum : sum_to (border_level_at d n p) d ≤ n
  levels_sum =
      omega (
        arith,
        packed_sum (mark_at d n p) d (border_level_at d n p) level_border,
        ap (sum_to (packed (mark_at d n p) d (border_level_at d n p))) inner_count,
        sum_to_cong _ _ (d - b) packed_level,
        at_point.sum,
      )

  index_odd : (t : ℕ) → t < d → border_index_at d n p t % 2 ≡ 1
  index_odd t h =
      eq_or_not (mark_at d n p t) 0
      (λ e. rw (index_inner t h e) (at_point.odd (before (mark_at d n p) t) (place_below t h e)))
      (λ ne. ap (λ (y : ℕ). y % 2) (index_border t h (omega arith)))

  index_below : (t : ℕ) → t < d → border_index_at d n p t < 2 ^ suc (border_level_at d n p t)
  index_below t h =
      eq_or_not (mark_at d n p t) 0
      (λ e. rw (index_inner t h e, level_inner t h e) (at_point.below (before (mark_at d n p) t) (place_below t h e)))
      (λ ne. rw (index_border t h (omega arith), level_border t h (omega arith)) (omega arith))

  -- Every number below N is that of a point, which is the point of the number.
  pub marked : Marked d n (mark_at d n p) (border_level_at d n p) (border_index_at d n p)
  marked =
      record {
        point = record { sum = levels_sum; odd = index_odd; below = index_below };
        mark = λ t h. rw mark_is (mark_le d b (within_layer d n p / size) t);
        level = level_border;
        index = index_border;
        no_mark = λ t past. mark_is t ∙ mark_past d b (within_layer d n p / size) t past;
        no_level = λ t past. unfold border_level_at in rw (le-ltb t d past) refl;
        no_index = λ t past. unfold border_index_at in rw (le-ltb t d past) refl;
      }

  pub in_face_again : in_face d (mark_at d n p) (border_level_at d n p) (border_index_at d n p) ≡ number_at d n p
  in_face_again =
      in_face_is d (mark_at d n p) (border_level_at d n p) (border_index_at d n p)
      ∙ ap (λ (c : ℕ). number (d - c) (packed (mark_at d n p) d (border_level_at d n p)) (packed (mark_at d n p) d (border_index_at d n p))) borders_are
      ∙ number_cong (d - b) _ _ _ _ packed_level packed_index
      ∙ inner.number_of_point_lem (d - b) n (number_at d n p) number_in_face

  number_at_is : number_at d n p ≡ within_layer d n p % size
  unfolding number_at
  number_at_is = refl

  pub number_of_marked : border_number d n (mark_at d n p) (border_level_at d n p) (border_index_at d n p) ≡ p
  number_of_marked =
      omega (
        arith,
        border_number_is d n (mark_at d n p) (border_level_at d n p) (border_index_at d n p),
        face_start_is d n (mark_at d n p),
        ap (sum_to (layer d n)) borders_are,
        ap₂ (λ (c r : ℕ). points (d - c) n * r) borders_are rank_is,
        in_face_again,
        number_at_is,
        div-add-mod (within_layer d n p) size,
        within_is,
      )
