-- From face to rank and back. The faces with b border axes that have the mark 0, 1 or 2 on the last axis are three blocks, one after the other, and together all. The
-- rank of a face lies in the block of its own last mark, and what is left of it is its rank on the other axes. So a rank is below the number of faces with as many
-- border axes, and the marks are read off it again.
-- Assumes nothing.
use mathlib.Core.Path.{◌≡◌, refl, ap, ap₂, sym, ◌∙◌}
use Prim.Native.Nat.{ℕ, zero, suc, ◌+◌, ◌-◌, ◌*◌, ◌^◌, ◌≤◌, ◌<◌}
use native.Mathlib.Nat.{two-pow-succ, mul-add}
use native.Mathlib.Omega.{arith}
use borrow.Author.Tests.{eq-eqb, ne_eqb}
use Rattle.naturals.specs.Sum.{sum_to}
use Rattle.naturals.proofs.Cases.{eq_or_not}
use Rattle.naturals.proofs.Sums.{sum_to_zero, sum_to_suc, sum_to_mono, sum_to_cong}
use Rattle.numbering.specs.Binomial.{choose}
use Rattle.numbering.proofs.Vectors.{choose_zero, choose_suc}
use Rattle.numbering.proofs.Block.{block_is, block_le, block_low, block_high}
use Rattle.faces.specs.Faces.{faces, bit, bordered, borders, having, face_rank, last_mark, mark_of}

-- ---- how many faces

faces_is : (d b : ℕ) → faces d b ≡ 2 ^ b * choose d b
unfolding faces
faces_is d b = refl

pub faces_none : (d : ℕ) → faces d 0 ≡ 1
faces_none d = faces_is d 0 ∙ omega (arith, choose_zero d)

no_faces : (b : ℕ) → faces 0 (suc b) ≡ 0
unfolding faces choose
no_faces b = omega arith

-- With one axis more: the last axis is inner, or the lower or the upper border.
faces_suc : (k b : ℕ) → faces (suc k) (suc b) ≡ faces k (suc b) + (faces k b + faces k b)
faces_suc k b =
    omega (
      arith,
      faces_is (suc k) (suc b),
      faces_is k (suc b),
      faces_is k b,
      ap (λ (x : ℕ). 2 ^ suc b * x) (choose_suc k b),
      mul-add (2 ^ suc b) (choose k b) (choose k (suc b)),
      ap (λ (x : ℕ). x * choose k b) (two-pow-succ b),
    )

-- No face has more border axes than axes.
pub faces_over : (d b : ℕ) → d < b → faces d b ≡ 0
faces_over d zero h = omega arith
faces_over zero (suc b) h = no_faces b
faces_over (suc k) (suc b) h =
    omega (arith, faces_suc k b, faces_over k (suc b) (omega arith), faces_over k b (omega arith))

pub having_inner : (k b : ℕ) → having k b 0 ≡ faces k b
unfolding having
having_inner k b = refl

pub having_none : (k a : ℕ) → having k 0 (suc a) ≡ 0
unfolding having
having_none k a = refl

pub having_border : (k b a : ℕ) → having k (suc b) (suc a) ≡ faces k b
unfolding having
having_border k b a = refl

having_three : (k b : ℕ) → sum_to (having k b) 3 ≡ having k b 0 + having k b 1 + having k b 2
having_three k b =
    omega (arith, sum_to_suc (having k b) 2, sum_to_suc (having k b) 1, sum_to_suc (having k b) 0, sum_to_zero (having k b))

-- The three blocks together are all.
pub having_all : (k b : ℕ) → sum_to (having k b) 3 ≡ faces (suc k) b
having_all k zero =
    omega (arith, having_three k 0, having_inner k 0, having_none k 0, having_none k 1, faces_none k, faces_none (suc k))
having_all k (suc b) =
    omega (arith, having_three k (suc b), having_inner k (suc b), having_border k b 0, having_border k b 1, faces_suc k b)

-- ---- border axes

bit_zero : bit 0 ≡ 0
unfolding bit
bit_zero = refl

bit_suc : (a : ℕ) → bit (suc a) ≡ 1
unfolding bit
bit_suc a = refl

pub bit_le : (a : ℕ) → bit a ≤ 1
bit_le zero = omega (arith, bit_zero)
bit_le (suc a) = omega (arith, bit_suc a)

pub bit_inner : (a : ℕ) → a ≡ 0 → bit a ≡ 0
bit_inner a e = ap bit e ∙ bit_zero

pub bit_border : (a : ℕ) → 0 < a → bit a ≡ 1
bit_border zero h = omega arith
bit_border (suc a) h = bit_suc a

pub borders_zero : (m : ℕ → ℕ) → borders m 0 ≡ 0
unfolding borders
borders_zero m = sum_to_zero (bordered m)

pub borders_suc : (m : ℕ → ℕ) (k : ℕ) → borders m (suc k) ≡ borders m k + bit (m k)
unfolding borders bordered
borders_suc m k = sum_to_suc (bordered m) k

pub borders_le : (m : ℕ → ℕ) (k : ℕ) → borders m k ≤ k
borders_le m zero = omega (arith, borders_zero m)
borders_le m (suc k) = omega (arith, borders_suc m k, borders_le m k, bit_le (m k))

pub borders_cong : (m o : ℕ → ℕ) (k : ℕ) → ((t : ℕ) → t < k → m t ≡ o t) → borders m k ≡ borders o k
unfolding borders bordered
borders_cong m o k same = sum_to_cong _ _ k (λ t h. ap bit (same t h))

-- With c border axes on the other axes, those with the mark a on the last are as many as the faces of the others.
having_is : (k c a : ℕ) → having k (c + bit a) a ≡ faces k c
having_is k c zero = having_inner k (c + bit 0) ∙ ap (faces k) (omega (arith, bit_zero))
having_is k c (suc a) = ap (λ (b : ℕ). having k b (suc a)) (omega (arith, bit_suc a)) ∙ having_border k c a

-- ---- the rank

pub face_rank_zero : (m : ℕ → ℕ) → face_rank m 0 ≡ 0
unfolding face_rank
face_rank_zero m = refl

pub face_rank_suc : (m : ℕ → ℕ) (k : ℕ) → face_rank m (suc k) ≡ face_rank m k + sum_to (having k (borders m (suc k))) (m k)
unfolding face_rank
face_rank_suc m k = refl

-- The block of the face's own last mark.
pub having_own : (m : ℕ → ℕ) (k : ℕ) → having k (borders m (suc k)) (m k) ≡ faces k (borders m k)
having_own m k = ap (λ (b : ℕ). having k b (m k)) (borders_suc m k) ∙ having_is k (borders m k) (m k)

-- The rank is below the number of faces with as many border axes.
pub face_rank_lt : (m : ℕ → ℕ) (k : ℕ) → ((t : ℕ) → t < k → m t ≤ 2) → face_rank m k < faces k (borders m k)
face_rank_lt m zero marks = omega (arith, face_rank_zero m, ap (faces 0) (borders_zero m), faces_none 0)
face_rank_lt m (suc k) marks =
    let b : ℕ = borders m (suc k) in
    omega (
      arith,
      face_rank_suc m k,
      face_rank_lt m k (λ t h. marks t (omega arith)),
      having_own m k,
      sum_to_suc (having k b) (m k),
      sum_to_mono (having k b) (suc (m k)) 3 (omega (arith, marks k (omega arith))),
      having_all k b,
    )

-- The rank depends on the marks of its axes alone.
pub face_rank_cong : (m o : ℕ → ℕ) (k : ℕ) → ((t : ℕ) → t < k → m t ≡ o t) → face_rank m k ≡ face_rank o k
face_rank_cong m o zero same = omega (arith, face_rank_zero m, face_rank_zero o)
face_rank_cong m o (suc k) same =
    face_rank_suc m k
    ∙ ap₂ ◌+◌ (face_rank_cong m o k (λ t h. same t (omega arith)))
    (ap₂ (λ (b a : ℕ). sum_to (having k b) a) (borders_cong m o (suc k) same) (same k (omega arith)))
    ∙ sym (face_rank_suc o k)

-- ---- the marks of a rank

-- What is left of a rank past the blocks of smaller last marks.
abbrev pub rest : ℕ → ℕ → ℕ → ℕ
rest k b r = r - sum_to (having k b) (last_mark k b r)

-- Its marks, and 0 past the axes.
pub mark_last : (k b r : ℕ) → mark_of (suc k) b r k ≡ last_mark k b r
unfolding mark_of
mark_last k b r = rw (eq-eqb k k refl)

pub mark_before : (k b r t : ℕ) → t < k → mark_of (suc k) b r t ≡ mark_of k (b - bit (last_mark k b r)) (rest k b r) t
unfolding mark_of
mark_before k b r t h = rw (ne_eqb t k (λ e. omega arith))

pub mark_past : (k b r t : ℕ) → k ≤ t → mark_of k b r t ≡ 0
unfolding mark_of
mark_past zero b r t h = refl
mark_past (suc k) b r t h =
    rw (ne_eqb t k (λ e. omega arith)) (mark_past k (b - bit (last_mark k b r)) (rest k b r) t (omega arith))

-- The block that the rank lies in is that of the last mark.
last_of_rank : (m : ℕ → ℕ) (k : ℕ) → ((t : ℕ) → t < suc k → m t ≤ 2) → last_mark k (borders m (suc k)) (face_rank m (suc k)) ≡ m k
unfolding last_mark
last_of_rank m k marks =
    let b : ℕ = borders m (suc k) in
    block_is (having k b) 2 (face_rank m (suc k)) (m k) (marks k (omega arith))
    (omega (arith, face_rank_suc m k))
    (omega (arith, face_rank_suc m k, face_rank_lt m k (λ t h. marks t (omega arith)), having_own m k, sum_to_suc (having k b) (m k)))

-- From the face to its rank and back.
pub mark_of_rank : (m : ℕ → ℕ) (k : ℕ) → ((t : ℕ) → t < k → m t ≤ 2) → (t : ℕ) → t < k → mark_of k (borders m k) (face_rank m k) t ≡ m t
mark_of_rank m zero marks t h = omega arith
mark_of_rank m (suc k) marks t h =
    let b : ℕ = borders m (suc k) in
    let r : ℕ = face_rank m (suc k) in
    let last : last_mark k b r ≡ m k = last_of_rank m k marks in
    eq_or_not t k
    (λ e. rw e (mark_last k b r ∙ last))
    (λ e.
    mark_before k b r t (omega arith)
    ∙ ap₂ (λ (c s : ℕ). mark_of k c s t)
    (omega (arith, ap bit last, borders_suc m k))
    (omega (arith, ap (sum_to (having k b)) last, face_rank_suc m k))
    ∙ mark_of_rank m k (λ u below. marks u (omega arith)) t (omega arith))

-- ---- the face of a rank

last_le : (k b r : ℕ) → last_mark k b r ≤ 2
unfolding last_mark
last_le k b r = block_le (having k b) 2 r

last_low : (k b r : ℕ) → sum_to (having k b) (last_mark k b r) ≤ r
unfolding last_mark
last_low k b r = block_low (having k b) 2 r

last_high : (k b r : ℕ) → r < faces (suc k) b → r < sum_to (having k b) (suc (last_mark k b r))
unfolding last_mark
last_high k b r h = block_high (having k b) 2 r (omega (arith, having_all k b))

pub mark_le : (k b r t : ℕ) → mark_of k b r t ≤ 2
unfolding mark_of
mark_le zero b r t = omega arith
mark_le (suc k) b r t =
    eq_or_not t k
    (λ e. rw (eq-eqb t k e) (last_le k b r))
    (λ ne. rw (ne_eqb t k ne) (mark_le k (b - bit (last_mark k b r)) (rest k b r) t))

-- Where some face has the mark a on the last axis, the other axes have the other border axes.
record Others (k b a : ℕ) : Type 0 where
  count : having k b a ≡ faces k (b - bit a)
  enough : bit a ≤ b

others : (k b a : ℕ) → 0 < having k b a → Others k b a
others k b zero h =
    record { count = having_inner k b ∙ ap (faces k) (omega (arith, bit_zero)); enough = omega (arith, bit_zero) }
others k zero (suc a) h = absurd (omega (arith, having_none k a))
others k (suc b) (suc a) h =
    record { count = having_border k b a ∙ ap (faces k) (omega (arith, bit_suc a)); enough = omega (arith, bit_suc a) }

others_at : (k b r : ℕ) → r < faces (suc k) b → Others k b (last_mark k b r)
others_at k b r h =
    others k b (last_mark k b r) (omega (arith, last_low k b r, last_high k b r h, sum_to_suc (having k b) (last_mark k b r)))

-- What is left is a rank on the other axes.
pub rest_lt : (k b r : ℕ) → r < faces (suc k) b → rest k b r < faces k (b - bit (last_mark k b r))
rest_lt k b r h =
    omega (
      arith,
      last_low k b r,
      last_high k b r h,
      sum_to_suc (having k b) (last_mark k b r),
      (others_at k b r h).count,
    )

pub last_enough : (k b r : ℕ) → r < faces (suc k) b → bit (last_mark k b r) ≤ b
last_enough k b r h = (others_at k b r h).enough

-- It has b border axes, and its rank is that.
pub borders_of_mark : (k b r : ℕ) → r < faces k b → borders (mark_of k b r) k ≡ b
borders_of_mark zero zero r h = borders_zero (mark_of 0 0 r)
borders_of_mark zero (suc b) r h = absurd (omega (arith, no_faces b))
borders_of_mark (suc k) b r h =
    omega (
      arith,
      borders_suc (mark_of (suc k) b r) k,
      ap bit (mark_last k b r),
      borders_cong (mark_of (suc k) b r) (mark_of k (b - bit (last_mark k b r)) (rest k b r)) k (mark_before k b r),
      borders_of_mark k (b - bit (last_mark k b r)) (rest k b r) (rest_lt k b r h),
      (others_at k b r h).enough,
    )

pub rank_of_mark : (k b r : ℕ) → r < faces k b → face_rank (mark_of k b r) k ≡ r
rank_of_mark zero zero r h = omega (arith, face_rank_zero (mark_of 0 0 r), faces_none 0)
rank_of_mark zero (suc b) r h = absurd (omega (arith, no_faces b))
rank_of_mark (suc k) b r h =
    omega (
      arith,
      face_rank_suc (mark_of (suc k) b r) k,
      face_rank_cong (mark_of (suc k) b r) (mark_of k (b - bit (last_mark k b r)) (rest k b r)) k (mark_before k b r),
      rank_of_mark k (b - bit (last_mark k b r)) (rest k b r) (rest_lt k b r h),
      ap₂ (λ (c a : ℕ). sum_to (having k c) a) (borders_of_mark (suc k) b r h) (mark_last k b r),
      last_low k b r,
    )
