-- What lies beside a point of a face on one of its inner axes, by numbers on the face: inside, the parent on the sparse table over the inner axes, moved to the face's
-- first number; across the border, the same point without the axis, on the face where the axis is a border axis. True since a point's levels and indices on the
-- inner axes are those of its number on the face, and its position is the same without its border axes.
-- Assumes nothing.
use mathlib.Core.Path.{◌≡◌, refl, ap, ap₂, sym, ◌∙◌}
use mathlib.Core.Bool.{true, false}
use Prim.Native.Nat.{ℕ, suc, ◌+◌, ◌-◌, ◌*◌, ◌/◌, ◌^◌, ◌≤◌, ◌<◌}
use native.Mathlib.Omega.{arith}
use borrow.Author.Tests.{eq-eqb, lt-ltb, le-ltb}
use Rattle.naturals.specs.Sum.{sum_to}
use Rattle.naturals.proofs.Cases.{le_or_lt}
use Rattle.naturals.proofs.Sums.{sum_to_cong}
use Rattle.numbering.specs.declared.Side.{Side}
use Rattle.numbering.specs.Count.{points, start}
use Rattle.numbering.specs.Number.{position, first_of, number}
use Rattle.numbering.specs.Inverse.{level_at, index_at}
use Rattle.numbering.specs.Parent.{numerator, is_border, parent_level, parent_index, update}
use Rattle.numbering.proofs.Position.{position_cong}
use Rattle.numbering.proofs.Rank.{rank_cong}
use Rattle.numbering.proofs.Subspaces.{first_is}
use Rattle.hierarchy.specs.Grid.{Still}
use Rattle.numbered.specs.Numbered.{mark_of}
use Rattle.numbered.proofs.Moves.{mark_pos}
use Rattle.numbered.proofs.Instance.{across_still}
use Rattle.faces.specs.Faces.{borders}
use Rattle.faces.specs.Packing.{before, packed, skip}
use Rattle.faces.specs.Marked.{Marked, face_start, in_face, border_number, mark_at}
use Rattle.faces.specs.Row.{all_faces, marks_of, inner_of, row}
use Rattle.faces.proofs.Packing.{inner_axes, place_lt, prefix_sum, prefix_position, packed_position, before_inner}
use Rattle.faces.proofs.Numbering.{border_number_is, level_in_face, index_in_face}
use Rattle.faces.proofs.InFace.{moved_number, one_less, packed_skip, across_in_face}
use Rattle.faces.proofs.Row.{row_suc, row_mono, row_ends, row_start, inner_of_marks, row_marks, row_level, row_index, row_across}
use Rattle.shapes.specs.declared.Shape.{Shape}
use Rattle.shapes.specs.Shapes.{points_of}
use Rattle.shapes.proofs.Layers.{points_bordered}
use Rattle.grids.specs.Grids.{number_of, mark_on, level_on, index_on, neighbour}
use Rattle.grids.proofs.Points.{mark_small, point_at_lem, number_bordered, marks_bordered, levels_bordered, indices_bordered, numbering, number_of_point_lem}
use Rattle.grids.proofs.Beside.{numerator_on, still_there, to_parent, to_across}
use Rattle.grids.proofs.Instance.{neighbours_of}

-- Two level lists of k axes that agree there have one first number.
pub first_of_cong : (k : ℕ) (l o : ℕ → ℕ) → ((u : ℕ) → u < k → l u ≡ o u) → first_of k l ≡ first_of k o
first_of_cong k l o same =
    first_is k l
    ∙ ap₂ (λ (s r : ℕ). start k s + 2 ^ s * r) (sum_to_cong l o k same) (rank_cong l o k same)
    ∙ sym (first_is k o)

skip_lt : (c u k : ℕ) → suc u < k → skip c u < k
unfolding skip
skip_lt c u k h = le_or_lt c u (λ le. rw (le-ltb u c le) h) (λ lt. rw (lt-ltb u c lt) (omega arith))

-- Where the axis is a border axis of a face, nothing moves there.
pub face_still : (s : Shape) → s.border ≡ true → (f : ℕ) → f < all_faces s.axes → (t : ℕ) → t < s.axes → 0 < marks_of s.axes f t →
    (p : ℕ) → row s.axes s.level f ≤ p → p < row s.axes s.level (suc f) → Still (neighbour s) t (suc p)
face_still s on f in_row t axis border p from to b =
    let q : ℕ = p - row s.axes s.level f in
    let q_in : q < points (inner_of s.axes f) s.level = omega (arith, to, from, row_suc s.axes s.level f) in
    let there : row s.axes s.level f + q ≡ p = omega (arith, from) in
    let marks : mark_on s p ≡ marks_of s.axes f = marks_bordered s on p ∙ ap (mark_at s.axes s.level) (sym there) ∙ row_marks s.axes s.level f in_row q q_in in
    let p_in : p < points_of s =
    omega (arith, to, row_mono s.axes s.level (suc f) (all_faces s.axes) in_row, row_ends s.axes s.level, points_bordered s on) in
    still_there s t b p p_in axis (omega (arith, border, ap (λ (m : ℕ → ℕ). m t) marks))

module _ (s : Shape) (on : s.border ≡ true) (f : ℕ) (in_row : f < all_faces s.axes) (t : ℕ) (axis : t < s.axes) (inner : marks_of s.axes f t ≡ 0) where
  -- The marks of the face, how many inner axes it has, the place of the axis among them, and its first number.
  abbrev m : ℕ → ℕ
  m = marks_of s.axes f

  abbrev k : ℕ
  k = inner_of s.axes f

  abbrev place : ℕ
  place = before m t

  abbrev base : ℕ
  base = row s.axes s.level f

  count_is : s.axes - borders m s.axes ≡ k
  count_is = inner_of_marks s.axes s.level f in_row

  pub facet_place : place < k
  facet_place = rw (sym count_is) (place_lt m s.axes t axis inner)

  pub facet_inside : base + points k s.level ≤ points_of s
  facet_inside =
      omega (
        arith,
        row_suc s.axes s.level f,
        row_mono s.axes s.level (suc f) (all_faces s.axes) (omega (arith, in_row)),
        row_ends s.axes s.level,
        points_bordered s on,
      )

  -- Number q on the face.
  module _ (q : ℕ) (q_in : q < points k s.level) where
    abbrev p : ℕ
    p = base + q

    -- Its levels and indices over the inner axes.
    abbrev l : ℕ → ℕ
    l = level_at k s.level q

    abbrev i : ℕ → ℕ
    i = index_at k s.level q

    p_in : p < points_of s
    p_in = omega (arith, facet_inside)

    marks_here : mark_on s p ≡ m
    marks_here = marks_bordered s on p ∙ row_marks s.axes s.level f in_row q q_in

    level_here : level_on s p t ≡ l place
    level_here =
        ap (λ (g : ℕ → ℕ). g t) (levels_bordered s on p)
        ∙ row_level s.axes s.level f in_row q q_in t axis
        ∙ rw (eq-eqb (m t) 0 inner) refl

    index_here : index_on s p t ≡ i place
    index_here =
        ap (λ (g : ℕ → ℕ). g t) (indices_bordered s on p)
        ∙ row_index s.axes s.level f in_row q q_in t axis
        ∙ rw (eq-eqb (m t) 0 inner) refl

    point : Marked s.axes s.level m (level_on s p) (index_on s p)
    point = rw marks_here at (point_at_lem s p p_in).marked

    inner_here : mark_on s p t ≡ 0
    inner_here = ap (λ (g : ℕ → ℕ). g t) marks_here ∙ inner

    here : in_face s.axes m (level_on s p) (index_on s p) ≡ q
    here =
        omega (
          arith,
          number_of_point_lem s p p_in,
          number_bordered s on (mark_on s p) (level_on s p) (index_on s p),
          ap (λ (o : ℕ → ℕ). border_number s.axes s.level o (level_on s p) (index_on s p)) marks_here,
          border_number_is s.axes s.level m (level_on s p) (index_on s p),
          row_start s.axes s.level f in_row,
        )

    module _ (b : Side) where
      -- Whether the border lies beside it, as the face and as the shape say.
      border_here : is_border (level_on s p t) (numerator_on s t b p) ≡ is_border (l place) (numerator b (i place))
      border_here = ap₂ (λ (u w : ℕ). is_border u (numerator b w)) level_here index_here

      -- Off the border.
      module _ (e : is_border (l place) (numerator b (i place)) ≡ false) where
        abbrev v : ℕ
        v = parent_level (l place) (numerator b (i place))

        abbrev w : ℕ
        w = parent_index (numerator b (i place))

        moved : in_face s.axes m (update (level_on s p) t v) (update (index_on s p) t w) ≡ number k (update l place v) (update i place w)
        moved =
            moved_number point t v w axis inner
            ∙ ap₂ (λ (c r : ℕ). number c (update (level_at c s.level r) place v) (update (index_at c s.level r) place w)) count_is here

        pub facet_parent : neighbour s t b (suc p) ≡ suc (base + number k (update l place v) (update i place w))
        facet_parent =
            to_parent s t b p p_in axis inner_here (border_here ∙ e)
            ∙ ap₂ (λ (u c : ℕ). suc (number_of s (mark_on s p) (update (level_on s p) t (parent_level u (numerator b c))) (update (index_on s p) t (parent_index (numerator b c)))))
            level_here index_here
            ∙ ap suc
            (omega (
              arith,
              number_bordered s on (mark_on s p) (update (level_on s p) t v) (update (index_on s p) t w),
              ap (λ (o : ℕ → ℕ). border_number s.axes s.level o (update (level_on s p) t v) (update (index_on s p) t w)) marks_here,
              border_number_is s.axes s.level m (update (level_on s p) t v) (update (index_on s p) t w),
              row_start s.axes s.level f in_row,
              moved,
            ))

      -- Across the border.
      module _ (e : is_border (l place) (numerator b (i place)) ≡ true) where
        abbrev across : ℕ → ℕ
        across = update m t (mark_of b)

        some_mark : 0 < mark_of b
        some_mark = mark_pos b

        -- The levels and indices over the inner axes, and the prefixes of the position.
        levels_packed : (u : ℕ) → u < k → packed m s.axes (level_on s p) u ≡ l u
        levels_packed u h =
            sym (level_in_face point u (rw count_is h))
            ∙ ap₂ (λ (c r : ℕ). level_at c s.level r u) count_is here

        indices_packed : (u : ℕ) → u < k → packed m s.axes (index_on s p) u ≡ i u
        indices_packed u h =
            sym (index_in_face point u (rw count_is h))
            ∙ ap₂ (λ (c r : ℕ). index_at c s.level r u) count_is here

        position_to : (c : ℕ) → c ≤ k → position (packed m s.axes (level_on s p)) (packed m s.axes (index_on s p)) c ≡ position l i c
        position_to c le =
            position_cong (packed m s.axes (level_on s p)) (packed m s.axes (index_on s p)) l i c
            (λ u h. levels_packed u (omega arith)) (λ u h. indices_packed u (omega arith))

        all_inner : before m s.axes ≡ k
        all_inner = inner_axes m s.axes ∙ count_is

        before_axis : position (level_on s p) (index_on s p) t ≡ position l i place
        before_axis = sym (prefix_position point t (omega arith)) ∙ position_to place (omega (arith, facet_place))

        whole_position : position (level_on s p) (index_on s p) s.axes ≡ position l i k
        whole_position =
            sym (packed_position point)
            ∙ ap (position (packed m s.axes (level_on s p)) (packed m s.axes (index_on s p))) all_inner
            ∙ position_to k (omega arith)

        levels_to : (c : ℕ) → c ≤ s.axes → before m c ≤ k → sum_to (level_on s p) c ≡ sum_to l (before m c)
        levels_to c le few =
            sym (prefix_sum m s.axes (level_on s p) point.level c le)
            ∙ sum_to_cong (packed m s.axes (level_on s p)) l (before m c) (λ u h. levels_packed u (omega arith))

        levels_before : sum_to (level_on s p) t ≡ sum_to l place
        levels_before = levels_to t (omega arith) (omega (arith, facet_place))

        next_place : before m (suc t) ≡ suc place
        next_place = before_inner m t inner

        levels_through : sum_to (level_on s p) (suc t) ≡ sum_to l (suc place)
        levels_through =
            levels_to (suc t) (omega arith) (omega (arith, facet_place, next_place)) ∙ ap (sum_to l) next_place

        -- The level list without the axis.
        list_across : first_of (s.axes - borders across s.axes) (packed across s.axes (update (level_on s p) t 0)) ≡ first_of (k - 1) (λ u. l (skip place u))
        list_across =
            let less : s.axes - borders across s.axes ≡ k - 1 =
            omega (arith, sym (inner_axes across s.axes), one_less m s.axes t (mark_of b) axis inner some_mark, all_inner) in
            ap (λ (c : ℕ). first_of c (packed across s.axes (update (level_on s p) t 0))) less
            ∙ first_of_cong (k - 1) _ _
            (λ u h.
            packed_skip m s.axes t (mark_of b) axis inner some_mark (level_on s p) 0 u (omega (arith, h, less, inner_axes across s.axes))
            ∙ levels_packed (skip place u) (skip_lt place u k (omega (arith, h))))

        number_across : in_face s.axes across (update (level_on s p) t 0) (update (index_on s p) t 1)
            ≡ first_of (k - 1) (λ u. l (skip place u)) + (position l i place + position l i k / 2 ^ sum_to l (suc place) * 2 ^ sum_to l place)
        number_across =
            across_in_face m s.axes t (mark_of b) axis inner some_mark (mark_small b) point
            ∙ ap₂ ◌+◌ list_across
            (ap₂ ◌+◌ before_axis
            (ap₂ ◌*◌
            (ap₂ (λ (x y : ℕ). x / 2 ^ y) whole_position levels_through)
            (ap (λ (y : ℕ). 2 ^ y) levels_before)))

        pub facet_across : neighbour s t b (suc p)
            ≡ suc (face_start s.axes s.level across
            + (first_of (k - 1) (λ u. l (skip place u)) + (position l i place + position l i k / 2 ^ sum_to l (suc place) * 2 ^ sum_to l place)))
        facet_across =
            to_across s t b p p_in axis inner_here (border_here ∙ e) on
            ∙ ap (λ (o : ℕ → ℕ). suc (number_of s (update o t (mark_of b)) (update (level_on s p) t 0) (update (index_on s p) t 1))) marks_here
            ∙ ap suc
            (omega (
              arith,
              number_bordered s on across (update (level_on s p) t 0) (update (index_on s p) t 1),
              border_number_is s.axes s.level across (update (level_on s p) t 0) (update (index_on s p) t 1),
              number_across,
            ))

        -- It stands behind the face and does not move on the axis.
        pub facet_behind : base + points k s.level ≤ face_start s.axes s.level across
        facet_behind =
            omega (arith, row_suc s.axes s.level f, row_across s.axes s.level f in_row t (mark_of b) axis inner some_mark)

        pub facet_still : Still (neighbour s) t (neighbour s t b (suc p))
        facet_still = rw neighbours_of (across_still (numbering s) t b p p_in axis inner_here (border_here ∙ e) on)
