-- The numbers of the points of a shape are a numbering: a point's number is below N and stands for its marks, levels and indices, and every number below N is that
-- of its marks, levels and indices. So numbers of the same marks, levels and indices are one. With values on the border that is the numbering over the faces; with a
-- zero border, document 01's. What lies beside a point is a point.
-- Assumes nothing.
use mathlib.Core.Path.{◌≡◌, refl, ap, sym, ◌∙◌}
use mathlib.Core.Bool.{true, false, false≢true}
use Prim.Native.Nat.{ℕ, suc, ◌-◌, ◌/◌, ◌%◌, ◌^◌, ◌≤◌, ◌<◌}
use lib.Dec.{eqb, ltb}
use native.Mathlib.Omega.{arith}
use Rattle.naturals.specs.Sum.{sum_to}
use Rattle.naturals.proofs.Cases.{true_or_false}
use Rattle.numbering.specs.declared.Side.{Side}
use Rattle.numbering.specs.declared.Side.TheVariants.{Left, Right}
use Rattle.numbering.specs.Count.{shell}
use Rattle.numbering.specs.Number.{number}
use Rattle.numbering.specs.Inverse.{sum_at, within, level_at, index_at}
use Rattle.numbering.proofs.Block.{block_le}
use Rattle.numbering.proofs.Unrank as unrank
use Rattle.numbering.proofs.Named.{Named, named}
use Rattle.numbering.proofs.Named as named
use Rattle.numbering.proofs.Numbering as sparse
use Rattle.numbered.specs.Numbered.{mark_of, unmarked, Numbering}
use Rattle.numbered.proofs.Instance as numbered_points
use Rattle.faces.specs.Marked.{Marked, border_number, borders_at, number_at, mark_at, border_level_at, border_index_at}
use Rattle.faces.specs.Packing.{before}
use borrow.Author.Tests.{le-ltb}
use Rattle.faces.proofs.Ranks as ranks
use Rattle.faces.proofs.Numbering as faces
use Rattle.faces.proofs.Beside.{one_border_number, parent_marked, across_marked}
use Rattle.shapes.specs.declared.Shape.{Shape}
use Rattle.shapes.specs.Shapes.{points_of}
use Rattle.shapes.proofs.Layers.{points_plain, points_bordered}
use Rattle.grids.specs.Grids.{number_of, mark_on, level_on, index_on, numbered}

pub mark_small : (b : Side) → mark_of b ≤ 2
mark_small Left = omega arith
mark_small Right = omega arith

-- Marks, levels and indices of a point of the shape, with nothing past its axes; with a zero border no axis is marked.
pub record PointOf (s : Shape) (m l i : ℕ → ℕ) : Type 0 where
  pub marked : Marked s.axes s.level m l i
  pub only : s.border ≡ false → m ≡ unmarked

-- ---- by the sort of the shape

module _ (s : Shape) where
  module _ (on : s.border ≡ true) where
    pub number_bordered : (m l i : ℕ → ℕ) → number_of s m l i ≡ border_number s.axes s.level m l i
    unfolding number_of
    number_bordered m l i = rw on refl

    pub marks_bordered : (p : ℕ) → mark_on s p ≡ mark_at s.axes s.level p
    unfolding mark_on
    marks_bordered p = rw on refl

    pub levels_bordered : (p : ℕ) → level_on s p ≡ border_level_at s.axes s.level p
    unfolding level_on
    levels_bordered p = rw on refl

    pub indices_bordered : (p : ℕ) → index_on s p ≡ border_index_at s.axes s.level p
    unfolding index_on
    indices_bordered p = rw on refl

  module _ (off : s.border ≡ false) where
    pub number_plain : (m l i : ℕ → ℕ) → number_of s m l i ≡ number s.axes l i
    unfolding number_of
    number_plain m l i = rw off refl

    pub marks_plain : (p : ℕ) → mark_on s p ≡ unmarked
    unfolding mark_on
    marks_plain p = rw off refl

    pub levels_plain : (p : ℕ) → level_on s p ≡ level_at s.axes s.level p
    unfolding level_on
    levels_plain p = rw off refl

    pub indices_plain : (p : ℕ) → index_on s p ≡ index_at s.axes s.level p
    unfolding index_on
    indices_plain p = rw off refl

-- Without marks a point is one of document 01.
as_named : {d n : ℕ} {m l i : ℕ → ℕ} → Marked d n m l i → Named d n l i
as_named x = record { point = x.point; levels = x.no_level; indices = x.no_index }

as_marked : {d n : ℕ} {l i : ℕ → ℕ} → Named d n l i → Marked d n unmarked l i
as_marked x =
    record {
      point = x.point;
      mark = λ t h. omega arith;
      level = λ t h some. absurd (omega arith);
      index = λ t h some. absurd (omega arith);
      no_mark = λ t past. refl;
      no_level = x.levels;
      no_index = x.indices;
    }

-- No number, of a point or not, has a level above the top level.
level_at_le : (d n p t : ℕ) → level_at d n p t ≤ n
unfolding level_at sum_at
level_at_le d n p t =
    omega (arith, unrank.level_le d (sum_at d n p) (within d n p / 2 ^ sum_at d n p) t, block_le (shell d) n p)

border_level_le : (d n p t : ℕ) → border_level_at d n p t ≤ n
unfolding border_level_at
border_level_le d n p t =
    true_or_false (ltb t d)
    (λ axis.
    true_or_false (eqb (mark_at d n p t) 0)
    (λ inner. rw (axis, inner) (level_at_le (d - borders_at d n p) n (number_at d n p) (before (mark_at d n p) t)))
    (λ border. rw (axis, border) (omega arith)))
    (λ past. rw past (omega arith))

-- ---- both sorts

module _ (s : Shape) where
  module _ {m l i : ℕ → ℕ} (x : PointOf s m l i) where
    pub number_lt : number_of s m l i < points_of s
    number_lt =
        true_or_false s.border
        (λ on. rw (number_bordered s on m l i, points_bordered s on) (faces.border_number_lt x.marked))
        (λ off. rw (number_plain s off m l i, points_plain s off) (sparse.number_lt x.marked.point))

    pub marks_again : mark_on s (number_of s m l i) ≡ m
    marks_again =
        true_or_false s.border
        (λ on. rw (number_bordered s on m l i, marks_bordered s on) (faces.marks_again x.marked))
        (λ off. marks_plain s off (number_of s m l i) ∙ sym (x.only off))

    pub levels_again : level_on s (number_of s m l i) ≡ l
    levels_again =
        true_or_false s.border
        (λ on. rw (number_bordered s on m l i, levels_bordered s on) (faces.levels_again x.marked))
        (λ off. rw (number_plain s off m l i, levels_plain s off) (named.levels_again (as_named x.marked)))

    pub indices_again : index_on s (number_of s m l i) ≡ i
    indices_again =
        true_or_false s.border
        (λ on. rw (number_bordered s on m l i, indices_bordered s on) (faces.indices_again x.marked))
        (λ off. rw (number_plain s off m l i, indices_plain s off) (named.indices_again (as_named x.marked)))

  pub level_top : (p t : ℕ) → level_on s p t ≤ s.level
  level_top p t =
      true_or_false s.border
      (λ on. rw (levels_bordered s on p) (border_level_le s.axes s.level p t))
      (λ off. rw (levels_plain s off p) (level_at_le s.axes s.level p t))

  module _ (p : ℕ) (h : p < points_of s) where
    pub point_at_lem : PointOf s (mark_on s p) (level_on s p) (index_on s p)
    point_at_lem =
        true_or_false s.border
        (λ on.
        rw (marks_bordered s on p, levels_bordered s on p, indices_bordered s on p)
        (record { marked = faces.marked s.axes s.level p (rw (points_bordered s on) at h); only = λ off. absurd (false≢true (sym off ∙ on)) }))
        (λ off.
        rw (marks_plain s off p, levels_plain s off p, indices_plain s off p)
        (record { marked = as_marked (named s.axes s.level p (rw (points_plain s off) at h)); only = λ e. refl }))

    pub number_of_point_lem : number_of s (mark_on s p) (level_on s p) (index_on s p) ≡ p
    number_of_point_lem =
        true_or_false s.border
        (λ on.
        rw (number_bordered s on, marks_bordered s on p, levels_bordered s on p, indices_bordered s on p)
        (faces.number_of_marked s.axes s.level p (rw (points_bordered s on) at h)))
        (λ off.
        rw (number_plain s off, levels_plain s off p, indices_plain s off p)
        (sparse.number_of_point_lem s.axes s.level p (rw (points_plain s off) at h)))

    -- What its levels and indices are: the levels sum to at most the top level, each index is odd and below 2^(level + 1).
    pub level_sum : sum_to (level_on s p) s.axes ≤ s.level
    level_sum = point_at_lem.marked.point.sum

    pub index_odd : (t : ℕ) → t < s.axes → index_on s p t % 2 ≡ 1
    index_odd = point_at_lem.marked.point.odd

    pub index_below : (t : ℕ) → t < s.axes → index_on s p t < 2 ^ suc (level_on s p t)
    index_below = point_at_lem.marked.point.below

    -- No level is above the top level.
    pub level_le : (t : ℕ) → t < s.axes → level_on s p t ≤ s.level
    level_le t axis = level_top p t

  -- Past the last axis there is nothing.
  module _ (p t : ℕ) (past : s.axes ≤ t) where
    pub mark_past : mark_on s p t ≡ 0
    unfolding mark_at
    mark_past =
        true_or_false s.border
        (λ on. ap (λ (m : ℕ → ℕ). m t) (marks_bordered s on p) ∙ ranks.mark_past s.axes _ _ t past)
        (λ off. ap (λ (m : ℕ → ℕ). m t) (marks_plain s off p))

    pub level_past : level_on s p t ≡ 0
    unfolding border_level_at
    level_past =
        true_or_false s.border
        (λ on. ap (λ (l : ℕ → ℕ). l t) (levels_bordered s on p) ∙ rw (le-ltb t s.axes past) refl)
        (λ off. ap (λ (l : ℕ → ℕ). l t) (levels_plain s off p) ∙ sparse.level_zero s.axes s.level p t past)

    pub index_past : index_on s p t ≡ 0
    unfolding border_index_at
    index_past =
        true_or_false s.border
        (λ on. ap (λ (i : ℕ → ℕ). i t) (indices_bordered s on p) ∙ rw (le-ltb t s.axes past) refl)
        (λ off. ap (λ (i : ℕ → ℕ). i t) (indices_plain s off p) ∙ sparse.index_zero s.axes s.level p t past)

  -- The numbering.
  pub numbering : Numbering (numbered s) (PointOf s)
  numbering =
      record {
        point_at = point_at_lem;
        number_at = number_of_point_lem;
        number_lt = number_lt;
        marks_again = marks_again;
        levels_again = levels_again;
        indices_again = indices_again;
        one_number = one_number;
        odd = λ x. x.marked.point.odd;
        below = λ x. x.marked.point.below;
        mark_le = λ x. x.marked.mark;
        border_level = λ x. x.marked.level;
        border_index = λ x. x.marked.index;
        only = λ x zero t axis. ap (λ (m : ℕ → ℕ). m t) (x.only zero);
        parent_there = λ x t b axis inner e. record { marked = parent_marked x.marked t axis inner b e; only = x.only };
        across_there = λ x t b axis on inner.
            record { marked = across_marked x.marked t axis inner (mark_of b) (mark_small b); only = λ off. absurd (false≢true (sym off ∙ on)) };
      }
    where
      one_number : {m l i o k j : ℕ → ℕ} → PointOf s m l i → PointOf s o k j → ((t : ℕ) → t < s.axes → m t ≡ o t) →
          ((t : ℕ) → t < s.axes → l t ≡ k t) → ((t : ℕ) → t < s.axes → i t ≡ j t) → number_of s m l i ≡ number_of s o k j
      one_number {m} {l} {i} {o} {k} {j} x y marks levels indices =
          true_or_false s.border
          (λ on.
          number_bordered s on m l i ∙ one_border_number x.marked y.marked marks levels indices ∙ sym (number_bordered s on o k j))
          (λ off.
          number_plain s off m l i ∙ faces.number_cong s.axes l i k j levels indices ∙ sym (number_plain s off o k j))

  -- Numbers of the same marks, levels and indices are one.
  pub same_point : (p q : ℕ) → p < points_of s → q < points_of s → ((t : ℕ) → t < s.axes → mark_on s p t ≡ mark_on s q t) →
      ((t : ℕ) → t < s.axes → level_on s p t ≡ level_on s q t) → ((t : ℕ) → t < s.axes → index_on s p t ≡ index_on s q t) → p ≡ q
  same_point = numbered_points.same_point numbering
