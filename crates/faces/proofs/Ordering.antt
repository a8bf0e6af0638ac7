-- Numbers are ordered exactly as document 02 orders points: by number of border axes, then by marks from the last axis down, then as document 01 orders points, over
-- the inner axes or over all. True since each part of the number is below the step of the part before it, and border axes have level 0 and index 1.
-- Assumes nothing.
use mathlib.Core.Path.{◌≡◌, refl, ap, ap₂, sym, ◌∙◌, fun_ext}
use Prim.Native.Nat.{ℕ, zero, suc, ◌+◌, ◌-◌, ◌*◌, ◌≤◌, ◌<◌}
use native.Mathlib.Nat.{mul-suc, mul-le-mul_left}
use native.Mathlib.Omega.{arith}
use Rattle.naturals.specs.Sum.{sum_to}
use Rattle.naturals.proofs.Cases.{eq_or_not, le_or_lt}
use Rattle.naturals.proofs.Sums.{sum_to_suc, sum_to_mono}
use Rattle.std.specs.declared.cmp.Ordering.{Ordering}
use Rattle.std.specs.declared.cmp.Ordering.TheVariants.{Equal}
use Rattle.numbering.specs.Count.{points}
use Rattle.numbering.specs.Number.{position}
use Rattle.numbering.specs.Order.{by, by_levels, order_of_levels, order_of_points}
use Rattle.numbering.proofs.Ordering.{by_equal, by_same, levels_zero, levels_suc, numbers_ordered}
use Rattle.faces.specs.Faces.{bit, borders, having, face_rank, mark_of}
use Rattle.faces.specs.Packing.{before, packed}
use Rattle.faces.specs.Marked.{Marked, layer, face_start, in_face, border_number}
use Rattle.faces.specs.Order.{order_of_marked}
use Rattle.faces.proofs.Ranks.{borders_suc, face_rank_zero, face_rank_suc, having_own, face_rank_lt, mark_of_rank}
use Rattle.faces.proofs.Packing.{before_zero, before_inner, before_border, inner_axes, packed_before, packed_sum, packed_position}
use Rattle.faces.proofs.Numbering.{face_start_is, in_face_is, border_number_is, inner_point, in_face_lt, number_in_layer}

-- Adding the same to both numbers changes no comparison.
by_shift : (a b c x y : ℕ) (next : Ordering) → x ≡ c + a → y ≡ c + b → by x y next ≡ by a b next
by_shift a b c x y next ex ey =
    by_same a b x y next next (λ h. omega arith) (λ h. omega arith) (λ e. by_equal x y next (omega arith))

-- ---- faces

-- A smaller mark on the last axis, with as many border axes, gives a smaller rank.
face_rank_less : (m o : ℕ → ℕ) (k : ℕ) → ((t : ℕ) → t < suc k → m t ≤ 2) → borders m (suc k) ≡ borders o (suc k) → m k < o k →
    face_rank m (suc k) < face_rank o (suc k)
face_rank_less m o k marks e h =
    let b : ℕ = borders m (suc k) in
    omega (
      arith,
      face_rank_suc m k,
      face_rank_suc o k,
      face_rank_lt m k (λ t below. marks t (omega arith)),
      having_own m k,
      sum_to_suc (having k b) (m k),
      sum_to_mono (having k b) (suc (m k)) (o k) h,
      ap (λ (c : ℕ). sum_to (having k c) (o k)) e,
    )

-- With as many border axes, ranks are ordered as the marks are from the last axis down.
face_rank_order : (m o : ℕ → ℕ) (k : ℕ) (next : Ordering) → ((t : ℕ) → t < k → m t ≤ 2) → ((t : ℕ) → t < k → o t ≤ 2) → borders m k ≡ borders o k →
    by (face_rank m k) (face_rank o k) next ≡ by_levels m o k next
face_rank_order m o zero next mm mo e =
    by_equal (face_rank m 0) (face_rank o 0) next (face_rank_zero m ∙ sym (face_rank_zero o)) ∙ sym (levels_zero m o next)
face_rank_order m o (suc k) next mm mo e =
    by_same (m k) (o k) (face_rank m (suc k)) (face_rank o (suc k)) (by_levels m o k next) next
    (face_rank_less m o k mm e)
    (face_rank_less o m k mo (sym e))
    (λ f.
    by_shift (face_rank m k) (face_rank o k) (sum_to (having k (borders o (suc k))) (o k)) (face_rank m (suc k)) (face_rank o (suc k)) next
    (omega (arith, face_rank_suc m k, ap₂ (λ (b a : ℕ). sum_to (having k b) a) e f))
    (omega (arith, face_rank_suc o k))
    ∙ face_rank_order m o k next (λ t h. mm t (omega arith)) (λ t h. mo t (omega arith))
    (omega (arith, borders_suc m k, borders_suc o k, ap bit f)))
    ∙ sym (levels_suc m o k next)

-- ---- within a face

-- Levels over the inner axes are compared as over all axes: those of a border axis are equal.
module _ (m : ℕ → ℕ) (d : ℕ) (l o : ℕ → ℕ) (next : Ordering)
    (ll : (t : ℕ) → t < d → 0 < m t → l t ≡ 0) (lo : (t : ℕ) → t < d → 0 < m t → o t ≡ 0) where
  packed_levels : (t : ℕ) → t ≤ d → by_levels (packed m d l) (packed m d o) (before m t) next ≡ by_levels l o t next
  packed_levels zero le =
      ap (λ (k : ℕ). by_levels (packed m d l) (packed m d o) k next) (before_zero m)
      ∙ levels_zero (packed m d l) (packed m d o) next
      ∙ sym (levels_zero l o next)
  packed_levels (suc t) le =
      let below : by_levels (packed m d l) (packed m d o) (before m t) next ≡ by_levels l o t next = packed_levels t (omega arith) in
      eq_or_not (m t) 0
      (λ e.
      ap (λ (k : ℕ). by_levels (packed m d l) (packed m d o) k next) (before_inner m t e)
      ∙ levels_suc (packed m d l) (packed m d o) (before m t) next
      ∙ rw (packed_before m d l t le e, packed_before m d o t le e, below) (sym (levels_suc l o t next)))
      (λ e.
      ap (λ (k : ℕ). by_levels (packed m d l) (packed m d o) k next) (before_border m t (omega arith))
      ∙ below
      ∙ sym (levels_suc l o t next ∙ by_equal (l t) (o t) _ (ll t le (omega arith) ∙ sym (lo t le (omega arith)))))

order_is : (d : ℕ) (l i k j : ℕ → ℕ) →
    order_of_points d l i k j ≡ by (sum_to l d) (sum_to k d) (by_levels l k d (by (position l i d) (position k j d) Equal))
unfolding order_of_points order_of_levels
order_is d l i k j = refl

module _ {d n : ℕ} {m l i k j : ℕ → ℕ} (x : Marked d n m l i) (y : Marked d n m k j) where
  -- Document 01's order of points is the same over the inner axes as over all axes.
  pub packed_order : order_of_points (before m d) (packed m d l) (packed m d i) (packed m d k) (packed m d j) ≡ order_of_points d l i k j
  packed_order =
      order_is (before m d) (packed m d l) (packed m d i) (packed m d k) (packed m d j)
      ∙ rw (
        packed_sum m d l x.level,
        packed_sum m d k y.level,
        packed_position x,
        packed_position y,
        packed_levels m d l k (by (position l i d) (position k j d) Equal) x.level y.level d (omega arith),
      )
      (sym (order_is d l i k j))

  -- So numbers within a face are ordered as document 01 orders points.
  in_face_order : by (in_face d m l i) (in_face d m k j) Equal ≡ order_of_points d l i k j
  in_face_order =
      ap₂ (λ (a b : ℕ). by a b Equal) (in_face_is d m l i) (in_face_is d m k j)
      ∙ numbers_ordered (inner_point x) (inner_point y)
      ∙ ap (λ (c : ℕ). order_of_points c (packed m d l) (packed m d i) (packed m d k) (packed m d j)) (sym (inner_axes m d))
      ∙ packed_order

  same_face : by (border_number d n m l i) (border_number d n m k j) Equal ≡ order_of_points d l i k j
  same_face =
      by_shift (in_face d m l i) (in_face d m k j) (face_start d n m) _ _ Equal (border_number_is d n m l i) (border_number_is d n m k j)
      ∙ in_face_order

-- ---- all points

module _ {d n : ℕ} {m l i o k j : ℕ → ℕ} (x : Marked d n m l i) (y : Marked d n o k j) where
  fewer_borders : borders m d < borders o d → border_number d n m l i < border_number d n o k j
  fewer_borders h =
      omega (
        arith,
        number_in_layer x,
        sum_to_mono (layer d n) (suc (borders m d)) (borders o d) h,
        border_number_is d n o k j,
        face_start_is d n o,
      )

  earlier_face : borders m d ≡ borders o d → face_rank m d < face_rank o d → border_number d n m l i < border_number d n o k j
  earlier_face e h =
      let p : ℕ = points (d - borders m d) n in
      omega (
        arith,
        border_number_is d n m l i,
        border_number_is d n o k j,
        face_start_is d n m,
        face_start_is d n o,
        in_face_lt x,
        mul-suc p (face_rank m d),
        mul-le-mul_left p h,
        ap (sum_to (layer d n)) e,
        ap (λ (b : ℕ). points (d - b) n * face_rank o d) e,
      )

  -- Faces with one rank are one.
  same_marks : borders m d ≡ borders o d → face_rank m d ≡ face_rank o d → m ≡ o
  same_marks e f =
      fun_ext λ t.
      le_or_lt d t
      (λ past. x.no_mark t past ∙ sym (y.no_mark t past))
      (λ h.
      sym (mark_of_rank m d x.mark t h)
      ∙ ap₂ (λ (b r : ℕ). mark_of d b r t) e f
      ∙ mark_of_rank o d y.mark t h)

module _ {d n : ℕ} {m l i o k j : ℕ → ℕ} (x : Marked d n m l i) (y : Marked d n o k j) where
  one_face : m ≡ o → by (border_number d n m l i) (border_number d n o k j) Equal ≡ order_of_points d l i k j
  one_face e =
      ap (λ (u : ℕ → ℕ). by (border_number d n m l i) (border_number d n u k j) Equal) (sym e) ∙ same_face x (rw (sym e) at y)

  -- Comparing numbers is comparing points as document 02 does.
  pub numbers_ordered_by_faces : by (border_number d n m l i) (border_number d n o k j) Equal ≡ order_of_marked d m l i o k j
  unfolding order_of_marked
  numbers_ordered_by_faces =
      by_same (borders m d) (borders o d) (border_number d n m l i) (border_number d n o k j)
      (by_levels m o d (order_of_points d l i k j)) Equal
      (fewer_borders x y)
      (fewer_borders y x)
      (λ e.
      by_same (face_rank m d) (face_rank o d) (border_number d n m l i) (border_number d n o k j) (order_of_points d l i k j) Equal
      (earlier_face x y e)
      (earlier_face y x (sym e))
      (λ f. one_face (same_marks x y e f))
      ∙ face_rank_order m o d (order_of_points d l i k j) x.mark y.mark e)
