-- Where a point lies in its face when it moves on an inner axis: what a turn needs of a face. A move within the face is a move on the axis's place among the inner
-- axes. Across the border lies a face with one inner axis less, the others in their order; the point there stands in the level vector without the axis, at the
-- position without the axis's digit. True since places before the axis stay and those after it move down by one.
-- Assumes nothing.
use mathlib.Core.Path.{◌≡◌, ap, sym, ◌∙◌}
use Prim.Native.Nat.{ℕ, zero, suc, ◌+◌, ◌-◌, ◌*◌, ◌/◌, ◌^◌, ◌≤◌, ◌<◌}
use native.Mathlib.Nat.{zero-mul, add-zero}
use native.Mathlib.Omega.{arith}
use borrow.Author.Tests.{lt-ltb, le-ltb}
use Rattle.naturals.specs.Sum.{sum_to}
use Rattle.naturals.proofs.Cases.{eq_or_not, le_or_lt}
use Rattle.numbering.specs.Number.{position, first_of, number}
use Rattle.numbering.specs.Inverse.{level_at, index_at}
use Rattle.numbering.specs.Parent.{update}
use Rattle.numbering.proofs.Parents.{update_same, update_other}
use Rattle.numbering.proofs.ParentPlaces.{moved_position}
use Rattle.numbering.proofs.Subspaces.{number_from_first}
use Rattle.faces.specs.Faces.{bit, borders}
use Rattle.faces.specs.Packing.{before, axis_of, packed, skip}
use Rattle.faces.specs.Marked.{Marked, in_face}
use Rattle.faces.proofs.Packing.{before_suc, before_mono, before_inner, before_border, before_cong, inner_axes, axis_of_before, axis_inner, packed_is, packed_position}
use Rattle.faces.proofs.Numbering.{number_cong, in_face_is, level_in_face, index_in_face}
use Rattle.faces.proofs.Beside.{across_marked}

-- ---- a move within the face

pub packed_update : (m : ℕ → ℕ) (d : ℕ) (f : ℕ → ℕ) (t v : ℕ) → t < d → m t ≡ 0 → (j : ℕ) → j < before m d →
    packed m d (update f t v) j ≡ update (packed m d f) (before m t) v j
packed_update m d f t v h e j below =
    let u = axis_inner m d j below in
    packed_is m d (update f t v) j
    ∙ eq_or_not j (before m t)
    (λ same.
    ap (update f t v) (ap (axis_of m d) same ∙ axis_of_before m d t h e)
    ∙ update_same f t v
    ∙ sym (ap (update (packed m d f) (before m t) v) same ∙ update_same (packed m d f) (before m t) v))
    (λ other.
    update_other f t v (axis_of m d j) (λ same. other (sym u.place ∙ ap (before m) same))
    ∙ sym (update_other (packed m d f) (before m t) v j other ∙ packed_is m d f j))

pub moved_in_face : (d : ℕ) (m l i : ℕ → ℕ) (t v w : ℕ) → t < d → m t ≡ 0 →
    in_face d m (update l t v) (update i t w)
    ≡ number (d - borders m d) (update (packed m d l) (before m t) v) (update (packed m d i) (before m t) w)
moved_in_face d m l i t v w h e =
    in_face_is d m (update l t v) (update i t w)
    ∙ number_cong (d - borders m d) _ _ _ _
    (λ j below. packed_update m d l t v h e j (omega (arith, inner_axes m d)))
    (λ j below. packed_update m d i t w h e j (omega (arith, inner_axes m d)))

-- Two functions that agree below k agree there after a change at one place.
update_cong : (f g : ℕ → ℕ) (k j v : ℕ) → ((u : ℕ) → u < k → f u ≡ g u) → (u : ℕ) → u < k → update f j v u ≡ update g j v u
update_cong f g k j v same u h =
    eq_or_not u j
    (λ here. rw here (update_same f j v ∙ sym (update_same g j v)))
    (λ other. update_other f j v u other ∙ same u h ∙ sym (update_other g j v u other))

-- The same with levels and indices read off the point's number within the face.
pub moved_number : {d n : ℕ} {m l i : ℕ → ℕ} → Marked d n m l i → (t v w : ℕ) → t < d → m t ≡ 0 →
    in_face d m (update l t v) (update i t w)
    ≡ number (d - borders m d)
    (update (level_at (d - borders m d) n (in_face d m l i)) (before m t) v)
    (update (index_at (d - borders m d) n (in_face d m l i)) (before m t) w)
moved_number {d} {n} {m} {l} {i} x t v w h e =
    moved_in_face d m l i t v w h e
    ∙ number_cong (d - borders m d) _ _ _ _
    (λ u below. sym (update_cong _ _ (d - borders m d) (before m t) v (level_in_face x) u below))
    (λ u below. sym (update_cong _ _ (d - borders m d) (before m t) w (index_in_face x) u below))

-- ---- across the border

skip_low : (k j : ℕ) → j < k → skip k j ≡ j
unfolding skip
skip_low k j h = rw (lt-ltb j k h)

skip_high : (k j : ℕ) → k ≤ j → skip k j ≡ suc j
unfolding skip
skip_high k j h = rw (le-ltb j k h)

module _ (m : ℕ → ℕ) (d t a : ℕ) (axis : t < d) (e : m t ≡ 0) (some : 0 < a) where
  abbrev m' : ℕ → ℕ
  m' = update m t a

  -- How many inner axes come before another axis now: as many up to t, one less past it.
  before_low : (u : ℕ) → u ≤ t → before m' u ≡ before m u
  before_low u h = before_cong m' m u (λ s lt. update_other m t a s (λ same. omega arith))

  before_high : (u : ℕ) → t < u → suc (before m' u) ≡ before m u
  before_high zero h = absurd (omega arith)
  before_high (suc u) h =
      eq_or_not u t
      (λ same.
      omega (
        arith,
        before_border m' u (omega (arith, ap m' same, update_same m t a)),
        before_inner m u (ap m same ∙ e),
        before_low u (omega arith),
      ))
      (λ other.
      omega (
        arith,
        before_suc m' u,
        before_suc m u,
        before_high u (omega arith),
        ap bit (update_other m t a u other),
      ))

  pub one_less : suc (before m' d) ≡ before m d
  one_less = before_high d axis

  inner_again : (u : ℕ) → (u ≡ t → ⊥) → m u ≡ 0 → m' u ≡ 0
  inner_again u ne f = update_other m t a u ne ∙ f

  -- The inner axes are the others, in their order.
  pub axis_skip : (j : ℕ) → j < before m' d → axis_of m' d j ≡ axis_of m d (skip (before m t) j)
  axis_skip j h =
      le_or_lt (before m t) j
      (λ past.
      let u = axis_inner m d (suc j) (omega (arith, one_less)) in
      let s : ℕ = axis_of m d (suc j) in
      let later : t < s = le_or_lt s t (λ le. absurd (omega (arith, before_mono m s t le, u.place))) (λ lt. lt) in
      ap (axis_of m' d) (omega (arith, before_high s later, u.place))
      ∙ axis_of_before m' d s u.axis (inner_again s (λ same. omega arith) u.mark)
      ∙ ap (axis_of m d) (sym (skip_high (before m t) j past)))
      (λ low.
      let u = axis_inner m d j (omega (arith, one_less)) in
      let s : ℕ = axis_of m d j in
      let sooner : s < t = le_or_lt t s (λ le. absurd (omega (arith, before_mono m t s le, u.place))) (λ lt. lt) in
      ap (axis_of m' d) (omega (arith, before_low s (omega arith), u.place))
      ∙ axis_of_before m' d s u.axis (inner_again s (λ same. omega arith) u.mark)
      ∙ ap (axis_of m d) (sym (skip_low (before m t) j low)))

  -- So is what they have.
  pub packed_skip : (f : ℕ → ℕ) (v j : ℕ) → j < before m' d → packed m' d (update f t v) j ≡ packed m d f (skip (before m t) j)
  packed_skip f v j h =
      let u = axis_inner m' d j h in
      packed_is m' d (update f t v) j
      ∙ update_other f t v (axis_of m' d j) (λ same. omega (arith, u.mark, ap m' same, update_same m t a))
      ∙ ap f (axis_skip j h)
      ∙ sym (packed_is m d f (skip (before m t) j))

  -- The point across stands at the position without the axis's digit.
  pub across_in_face : {n : ℕ} {l i : ℕ → ℕ} → a ≤ 2 → Marked d n m l i →
      in_face d m' (update l t 0) (update i t 1)
      ≡ first_of (d - borders m' d) (packed m' d (update l t 0)) + (position l i t + position l i d / 2 ^ sum_to l (suc t) * 2 ^ sum_to l t)
  across_in_face {n} {l} {i} mark x =
      in_face_is d m' (update l t 0) (update i t 1)
      ∙ number_from_first (d - borders m' d) (packed m' d (update l t 0)) (packed m' d (update i t 1))
      ∙ ap (λ (q : ℕ). first_of (d - borders m' d) (packed m' d (update l t 0)) + q)
      (ap (position (packed m' d (update l t 0)) (packed m' d (update i t 1))) (sym (inner_axes m' d))
      ∙ packed_position (across_marked x t axis e a mark)
      ∙ moved_position l i t 0 1 x.point axis
      ∙ omega (
        arith,
        zero-mul (2 ^ sum_to l t),
        ap (λ (s : ℕ). position l i d / 2 ^ sum_to l (suc t) * 2 ^ s) (add-zero (sum_to l t)),
      ))
