-- The faces stand in a row without gap. A face and its number lead to each other, so each face stands in the row once, the one with no border axis first; the first
-- point of a face is that of `face_start`, and the row ends at N. A number within a face has the marks of the face, and the levels and indices of document 01 at the
-- place of an axis among the inner ones. True since the faces with as many border axes are a layer, of as many points each.
-- Assumes nothing.
use mathlib.Core.Path.{◌≡◌, refl, ap, ap₂, sym, ◌∙◌, fun_ext}
use Prim.Native.Nat.{ℕ, zero, suc, ◌+◌, ◌-◌, ◌*◌, ◌/◌, ◌%◌, ◌≤◌, ◌<◌}
use native.Mathlib.Nat.{add-suc, add-zero, mul-suc, mul-zero, mul_comm, mul-add-div, mul-add-mod_self_left, div-eq_of_lt, mod-eq_of_lt}
use native.Mathlib.Omega.{arith}
use lib.Dec.{eqb}
use borrow.Author.Tests.{lt-ltb}
use Rattle.naturals.specs.Sum.{sum_to}
use Rattle.std.specs.Prelude.{if◌then◌else◌}
use Rattle.naturals.proofs.Cases.{le_or_lt}
use Rattle.naturals.proofs.Sums.{sum_to_zero, sum_to_suc, sum_to_mono}
use Rattle.numbering.specs.Count.{points}
use Rattle.numbering.specs.Number.{number}
use Rattle.numbering.specs.Inverse.{level_at, index_at}
use Rattle.numbering.specs.Parent.{update}
use Rattle.numbering.proofs.Block.{block_is, block_le, block_low, block_high}
use Rattle.faces.specs.Faces.{faces, borders, having, face_rank, mark_of}
use Rattle.faces.specs.Packing.{before, packed}
use Rattle.faces.specs.Marked.{layer, border_points, face_start, border_number, borders_at, within_layer, number_at, mark_at, border_level_at, border_index_at}
use Rattle.faces.specs.Row.{all_faces, face_number, borders_of, marks_of, inner_of, points_on, row}
use Rattle.faces.proofs.Ranks.{borders_zero, borders_suc, borders_le, bit_inner, face_rank_zero, face_rank_suc, face_rank_lt, mark_of_rank, mark_past, mark_le, borders_of_mark, rank_of_mark}
use Rattle.faces.proofs.Packing.{before_borders, packed_before}
use Rattle.faces.proofs.Numbering.{points_pos, layer_is, all_layers, face_start_is, face_end, in_face_is, border_number_is, number_cong, borders_are, number_in_face, marked, in_face_again, number_of_marked}
use Rattle.faces.proofs.InFace.{one_less}

-- ---- a face and its number

pub all_faces_is : (d : ℕ) → all_faces d ≡ sum_to (faces d) (suc d)
unfolding all_faces
all_faces_is d = refl

pub face_number_is : (d : ℕ) (m : ℕ → ℕ) → face_number d m ≡ sum_to (faces d) (borders m d) + face_rank m d
unfolding face_number
face_number_is d m = refl

pub inner_of_is : (d f : ℕ) → inner_of d f ≡ d - borders_of d f
unfolding inner_of
inner_of_is d f = refl

pub borders_of_le : (d f : ℕ) → borders_of d f ≤ d
unfolding borders_of
borders_of_le d f = block_le (faces d) d f

-- The face with r faces before it among those with b border axes.
pub borders_of_is : (d b r : ℕ) → b ≤ d → r < faces d b → borders_of d (sum_to (faces d) b + r) ≡ b
unfolding borders_of
borders_of_is d b r le lt = block_is (faces d) d _ b le (omega arith) (omega (arith, sum_to_suc (faces d) b))

pub mark_of_low : (d f t : ℕ) → marks_of d f t ≤ 2
unfolding marks_of
mark_of_low d f t = mark_le d (borders_of d f) (f - sum_to (faces d) (borders_of d f)) t

pub marks_of_past : (d f t : ℕ) → d ≤ t → marks_of d f t ≡ 0
unfolding marks_of
marks_of_past d f t past = mark_past d (borders_of d f) (f - sum_to (faces d) (borders_of d f)) t past

-- From number to face and back.
module _ (d f : ℕ) (lt : f < all_faces d) where
  abbrev rank_in : ℕ
  rank_in = f - sum_to (faces d) (borders_of d f)

  number_low : sum_to (faces d) (borders_of d f) ≤ f
  unfolding borders_of
  number_low = block_low (faces d) d f

  number_high : f < sum_to (faces d) (suc (borders_of d f))
  unfolding borders_of
  number_high = block_high (faces d) d f (omega (arith, all_faces_is d))

  rank_lt : rank_in < faces d (borders_of d f)
  rank_lt = omega (arith, number_low, number_high, sum_to_suc (faces d) (borders_of d f))

  pub borders_of_marks : borders (marks_of d f) d ≡ borders_of d f
  unfolding marks_of
  borders_of_marks = borders_of_mark d (borders_of d f) rank_in rank_lt

  pub rank_of_marks : face_rank (marks_of d f) d ≡ rank_in
  unfolding marks_of
  rank_of_marks = rank_of_mark d (borders_of d f) rank_in rank_lt

  pub number_of_face : face_number d (marks_of d f) ≡ f
  number_of_face =
      omega (arith, face_number_is d (marks_of d f), ap (sum_to (faces d)) borders_of_marks, rank_of_marks, number_low)

-- From face to number and back.
module _ (d : ℕ) (m : ℕ → ℕ) (marks : (t : ℕ) → t < d → m t ≤ 2) where
  pub face_number_lt : face_number d m < all_faces d
  face_number_lt =
      omega (
        arith,
        face_number_is d m,
        face_rank_lt m d marks,
        sum_to_suc (faces d) (borders m d),
        sum_to_mono (faces d) (suc (borders m d)) (suc d) (omega (arith, borders_le m d)),
        all_faces_is d,
      )

  pub borders_of_number : borders_of d (face_number d m) ≡ borders m d
  borders_of_number =
      ap (borders_of d) (face_number_is d m) ∙ borders_of_is d (borders m d) (face_rank m d) (borders_le m d) (face_rank_lt m d marks)

  pub marks_of_number : (t : ℕ) → t < d → marks_of d (face_number d m) t ≡ m t
  unfolding marks_of
  marks_of_number t h =
      ap₂ (λ (b r : ℕ). mark_of d b r t) borders_of_number
      (omega (arith, ap (sum_to (faces d)) borders_of_number, face_number_is d m))
      ∙ mark_of_rank m d marks t h

  pub marks_are : ((t : ℕ) → d ≤ t → m t ≡ 0) → marks_of d (face_number d m) ≡ m
  marks_are none =
      fun_ext λ t.
      le_or_lt d t (λ past. marks_of_past d (face_number d m) t past ∙ sym (none t past)) (λ h. marks_of_number t h)

-- ---- the face with no border axis comes first

-- The marks of the inner face.
abbrev pub unmarked : ℕ → ℕ
unmarked t = 0

pub no_borders : (d : ℕ) → borders unmarked d ≡ 0
no_borders zero = borders_zero unmarked
no_borders (suc d) = omega (arith, borders_suc unmarked d, bit_inner 0 refl, no_borders d)

no_rank : (d : ℕ) → face_rank unmarked d ≡ 0
no_rank zero = face_rank_zero unmarked
no_rank (suc d) =
    omega (arith, face_rank_suc unmarked d, no_rank d, sum_to_zero (having d (borders unmarked (suc d))))

pub unmarked_first : (d : ℕ) → face_number d unmarked ≡ 0
unmarked_first d =
    omega (arith, face_number_is d unmarked, no_rank d, ap (sum_to (faces d)) (no_borders d), sum_to_zero (faces d))

pub first_unmarked : (d : ℕ) → marks_of d 0 ≡ unmarked
first_unmarked d =
    ap (marks_of d) (sym (unmarked_first d)) ∙ marks_are d unmarked (λ t h. omega arith) (λ t past. refl)

-- Its first number is 0, and its points are numbered as in document 01.
pub unmarked_start : (d n : ℕ) → face_start d n unmarked ≡ 0
unmarked_start d n =
    omega (
      arith,
      face_start_is d n unmarked,
      ap (sum_to (layer d n)) (no_borders d),
      sum_to_zero (layer d n),
      ap (λ (r : ℕ). points (d - borders unmarked d) n * r) (no_rank d),
      mul-zero (points (d - borders unmarked d) n),
    )

-- Every axis is at its own place.
pub before_unmarked : (t : ℕ) → before unmarked t ≡ t
before_unmarked t = omega (arith, before_borders unmarked t, no_borders t)

pub unmarked_packed : (d : ℕ) (f : ℕ → ℕ) (t : ℕ) → t < d → packed unmarked d f t ≡ f t
unmarked_packed d f t h = ap (packed unmarked d f) (sym (before_unmarked t)) ∙ packed_before unmarked d f t h refl

pub unmarked_number : (d n : ℕ) (l i : ℕ → ℕ) → border_number d n unmarked l i ≡ number d l i
unmarked_number d n l i =
    omega (arith, border_number_is d n unmarked l i, unmarked_start d n, in_face_is d unmarked l i)
    ∙ ap (λ (k : ℕ). number k (packed unmarked d l) (packed unmarked d i)) (inner d)
    ∙ number_cong d _ _ _ _ (unmarked_packed d l) (unmarked_packed d i)
  where
    inner : (d : ℕ) → d - borders unmarked d ≡ d
    inner d = omega (arith, no_borders d)

-- It has all axes inside.
pub first_inner : (d : ℕ) → inner_of d 0 ≡ d
first_inner d =
    omega (
      arith,
      inner_of_is d 0,
      ap (borders_of d) (sym (unmarked_first d)) ∙ borders_of_number d unmarked (λ t h. omega arith),
      no_borders d,
    )

-- ---- the row

pub row_zero : (d n : ℕ) → row d n 0 ≡ 0
unfolding row
row_zero d n = sum_to_zero (points_on d n)

pub row_suc : (d n f : ℕ) → row d n (suc f) ≡ row d n f + points (inner_of d f) n
unfolding row points_on
row_suc d n f = sum_to_suc (points_on d n) f

pub row_mono : (d n f g : ℕ) → f ≤ g → row d n f ≤ row d n g
unfolding row
row_mono d n f g le = sum_to_mono (points_on d n) f g le

-- The faces of a layer, each with as many points.
row_in_layer : (d n b r : ℕ) → b ≤ d → r ≤ faces d b → row d n (sum_to (faces d) b) ≡ sum_to (layer d n) b →
    row d n (sum_to (faces d) b + r) ≡ sum_to (layer d n) b + points (d - b) n * r
row_in_layer d n b zero le few start =
    ap (row d n) (add-zero (sum_to (faces d) b)) ∙ omega (arith, start, mul-zero (points (d - b) n))
row_in_layer d n b (suc r) le few start =
    ap (row d n) (add-suc (sum_to (faces d) b) r)
    ∙ omega (
      arith,
      row_suc d n (sum_to (faces d) b + r),
      row_in_layer d n b r le (omega arith) start,
      ap (λ (k : ℕ). points k n) (inner_of_is d (sum_to (faces d) b + r) ∙ ap (λ (c : ℕ). d - c) (borders_of_is d b r le few)),
      mul-suc (points (d - b) n) r,
    )

-- The layers before it.
row_at_layer : (d n b : ℕ) → b ≤ suc d → row d n (sum_to (faces d) b) ≡ sum_to (layer d n) b
row_at_layer d n zero le = ap (row d n) (sum_to_zero (faces d)) ∙ row_zero d n ∙ sym (sum_to_zero (layer d n))
row_at_layer d n (suc b) le =
    ap (row d n) (sum_to_suc (faces d) b)
    ∙ row_in_layer d n b (faces d b) (omega arith) (omega arith) (row_at_layer d n b (omega arith))
    ∙ omega (arith, sum_to_suc (layer d n) b, layer_is d n b, mul_comm (faces d b) (points (d - b) n))

-- The row starts at 0, goes from face to face and ends at N.
pub row_ends : (d n : ℕ) → row d n (all_faces d) ≡ border_points d n
row_ends d n = ap (row d n) (all_faces_is d) ∙ row_at_layer d n (suc d) (omega arith) ∙ sym (all_layers d n)

pub row_of_face : (d n : ℕ) (m : ℕ → ℕ) → ((t : ℕ) → t < d → m t ≤ 2) → row d n (face_number d m) ≡ face_start d n m
row_of_face d n m marks =
    let b : ℕ = borders m d in
    let few : b ≤ d = borders_le m d in
    ap (row d n) (face_number_is d m)
    ∙ row_in_layer d n b (face_rank m d) few (omega (arith, face_rank_lt m d marks)) (row_at_layer d n b (omega arith))
    ∙ sym (face_start_is d n m)

-- A face ends where the table does, or before.
pub face_inside : (d n : ℕ) (m : ℕ → ℕ) → ((t : ℕ) → t < d → m t ≤ 2) → face_start d n m + points (d - borders m d) n ≤ border_points d n
face_inside d n m marks =
    omega (
      arith,
      face_end d n m marks,
      sum_to_mono (layer d n) (suc (borders m d)) (suc d) (omega (arith, borders_le m d)),
      all_layers d n,
    )

module _ (d n f : ℕ) (lt : f < all_faces d) where
  pub row_inside : row d n f + points (inner_of d f) n ≤ border_points d n
  row_inside = omega (arith, row_suc d n f, row_mono d n (suc f) (all_faces d) lt, row_ends d n)

  pub row_start : row d n f ≡ face_start d n (marks_of d f)
  row_start =
      ap (row d n) (sym (number_of_face d f lt)) ∙ row_of_face d n (marks_of d f) (λ t h. mark_of_low d f t)

  pub inner_of_marks : d - borders (marks_of d f) d ≡ inner_of d f
  inner_of_marks = ap (λ (b : ℕ). d - b) (borders_of_marks d f lt) ∙ sym (inner_of_is d f)

  -- Faces with more border axes come later, among them those on the borders of an inner axis of this one.
  row_in : row d n (suc f) ≤ sum_to (layer d n) (suc (borders_of d f))
  row_in =
      omega (
        arith,
        row_suc d n f,
        row_start,
        ap (λ (k : ℕ). points k n) inner_of_marks,
        face_end d n (marks_of d f) (λ t h. mark_of_low d f t),
        ap (λ (b : ℕ). sum_to (layer d n) (suc b)) (borders_of_marks d f lt),
      )

  module _ (t a : ℕ) (h : t < d) (e : marks_of d f t ≡ 0) (some : 0 < a) where
    one_border_more : borders (update (marks_of d f) t a) d ≡ suc (borders_of d f)
    one_border_more =
        omega (
          arith,
          one_less (marks_of d f) d t a h e some,
          before_borders (marks_of d f) d,
          before_borders (update (marks_of d f) t a) d,
          borders_of_marks d f lt,
        )

    pub row_across : row d n (suc f) ≤ face_start d n (update (marks_of d f) t a)
    row_across =
        omega (arith, row_in, face_start_is d n (update (marks_of d f) t a), ap (sum_to (layer d n)) one_border_more)

  -- ---- the points of a face

  -- Number q within the face: its marks are those of the face, and its levels and indices on the inner axes those of document 01's number q.
  module _ (q : ℕ) (inside : q < points (inner_of d f) n) where
    abbrev rank_here : ℕ
    rank_here = f - sum_to (faces d) (borders_of d f)

    here : row d n f ≡ sum_to (layer d n) (borders_of d f) + points (inner_of d f) n * rank_here
    here =
        row_start
        ∙ face_start_is d n (marks_of d f)
        ∙ ap₂ ◌+◌
        (ap (sum_to (layer d n)) (borders_of_marks d f lt))
        (ap₂ (λ (k r : ℕ). points k n * r) inner_of_marks (rank_of_marks d f lt))

    pub row_borders : borders_at d n (row d n f + q) ≡ borders_of d f
    unfolding borders_at
    row_borders =
        block_is (layer d n) d (row d n f + q) (borders_of d f) (borders_of_le d f)
        (omega (arith, here))
        (omega (arith, row_suc d n f, row_in))

    row_within : within_layer d n (row d n f + q) ≡ points (inner_of d f) n * rank_here + q
    unfolding within_layer
    row_within = omega (arith, ap (sum_to (layer d n)) row_borders, here)

    pub row_inner : d - borders_at d n (row d n f + q) ≡ inner_of d f
    row_inner = ap (λ (b : ℕ). d - b) row_borders ∙ sym (inner_of_is d f)

    pub row_number : number_at d n (row d n f + q) ≡ q
    unfolding number_at
    row_number =
        ap₂ ◌%◌ row_within (ap (λ (k : ℕ). points k n) row_inner)
        ∙ mul-add-mod_self_left (points (inner_of d f) n) rank_here q
        ∙ mod-eq_of_lt inside

    pub row_marks : mark_at d n (row d n f + q) ≡ marks_of d f
    unfolding mark_at marks_of
    row_marks =
        ap₂ (mark_of d) row_borders
        (ap₂ ◌/◌ row_within (ap (λ (k : ℕ). points k n) row_inner)
        ∙ mul-add-div (points_pos (inner_of d f) n) rank_here q
        ∙ omega (arith, div-eq_of_lt inside))

    pub row_level : (t : ℕ) → t < d →
        border_level_at d n (row d n f + q) t
        ≡ (if eqb (marks_of d f t) 0 then level_at (inner_of d f) n q (before (marks_of d f) t) else 0)
    unfolding border_level_at
    row_level t h = rw (lt-ltb t d h, row_marks, row_inner, row_number) refl

    pub row_index : (t : ℕ) → t < d →
        border_index_at d n (row d n f + q) t
        ≡ (if eqb (marks_of d f t) 0 then index_at (inner_of d f) n q (before (marks_of d f) t) else 1)
    unfolding border_index_at
    row_index t h = rw (lt-ltb t d h, row_marks, row_inner, row_number) refl

-- Every number below N is in a face of the row.
pub record InRow (d n p : ℕ) : Type 0 where
  pub face : ℕ
  pub number : ℕ
  pub one : face < all_faces d
  pub inside : number < points (inner_of d face) n
  pub at : row d n face + number ≡ p

pub in_row : (d n p : ℕ) → p < border_points d n → InRow d n p
in_row d n p lt =
    let x = marked d n p lt in
    let f : ℕ = face_number d (mark_at d n p) in
    let k : d - borders_at d n p ≡ inner_of d f =
    ap (λ (b : ℕ). d - b) (sym (borders_of_number d (mark_at d n p) x.mark ∙ borders_are d n p lt)) ∙ sym (inner_of_is d f) in
    record {
      face = f;
      number = number_at d n p;
      one = face_number_lt d (mark_at d n p) x.mark;
      inside = omega (arith, number_in_face d n p lt, ap (λ (c : ℕ). points c n) k);
      at =
          omega (
            arith,
            row_of_face d n (mark_at d n p) x.mark,
            border_number_is d n (mark_at d n p) (border_level_at d n p) (border_index_at d n p),
            in_face_again d n p lt,
            number_of_marked d n p lt,
          );
    }
