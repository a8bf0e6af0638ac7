-- What lies beside a point on an axis, case by case: on a border of the axis, nothing; inside, where the neighbour's numerator is the border's, the border point on
-- that side, or nothing with a zero border; else the parent. Each is a point that is the same on every other axis. Beside code 0, past the last point and on an
-- axis that there is not, nothing.
-- Assumes nothing.
use mathlib.Core.Path.{◌≡◌, refl, ap, ◌∙◌}
use mathlib.Core.Bool.{Bool, true, false, ◌&&◌}
use mathlib.Core.Logic.{◌⊎◌}
use Prim.Native.Nat.{ℕ, zero, suc, ◌^◌, ◌≤◌, ◌<◌}
use native.Mathlib.Omega.{arith}
use lib.Dec.{ltb}
use borrow.Author.Tests.{lt-ltb, le-ltb}
use Rattle.std.specs.Prelude.{if◌then◌else◌}
use Rattle.naturals.proofs.Cases.{le_or_lt, eq_or_not, true_or_false}
use Rattle.numbering.specs.declared.Side.{Side}
use Rattle.numbering.specs.Parent.{numerator, is_border, parent_level, parent_index, update}
use Rattle.numbering.proofs.Parents.{border_means, update_none}
use Rattle.numbered.specs.Numbered.{mark_of, Numbered, Numbering}
use Rattle.numbered.specs.Neighbours.{stop, to, move, nowhere, somewhere, beside, code_of, neighbour}
use Rattle.numbered.proofs.Moves.{move_still, move_border, move_inner, across_some, across_none, beside_stop, beside_to}

module _ (g : Numbered) where
  -- The code's clauses.
  pub code_nowhere : code_of g nowhere ≡ 0
  unfolding code_of
  code_nowhere = refl

  pub code_somewhere : (m l i : ℕ → ℕ) → code_of g (somewhere m l i) ≡ suc (g.number m l i)
  unfolding code_of
  code_somewhere m l i = refl

  module _ (t : ℕ) (b : Side) where
    -- The neighbour's clauses.
    pub neighbour_border : neighbour g t b 0 ≡ 0
    unfolding neighbour
    neighbour_border = refl

    pub neighbour_at : (p : ℕ) → p < g.count → t < g.axes →
        neighbour g t b (suc p) ≡ code_of g (beside g.border t b (g.mark p) (g.level p) (g.index p))
    unfolding neighbour
    neighbour_at p h axis = rw (lt-ltb p g.count h, lt-ltb t g.axes axis)

    pub neighbour_past : (p : ℕ) → g.count ≤ p → neighbour g t b (suc p) ≡ 0
    unfolding neighbour
    neighbour_past p h = rw (le-ltb p g.count h)

    pub neighbour_no_axis : (p : ℕ) → g.axes ≤ t → neighbour g t b p ≡ 0
    unfolding neighbour
    neighbour_no_axis zero h = refl
    neighbour_no_axis (suc p) h = rw (le-ltb t g.axes h) (neither (ltb p g.count))
      where
        neither : (a : Bool) → (if a && false then code_of g (beside g.border t b (g.mark p) (g.level p) (g.index p)) else 0) ≡ 0
        neither true = refl
        neither false = refl

    module _ (p : ℕ) where
      -- The numerator of the neighbour's coordinate, the levels and indices with the parent's on axis t, and the marks, levels and indices with the border's.
      abbrev pub numerator_on : ℕ
      numerator_on = numerator b (g.index p t)

      abbrev pub parent_levels : ℕ → ℕ
      parent_levels = update (g.level p) t (parent_level (g.level p t) numerator_on)

      abbrev pub parent_indices : ℕ → ℕ
      parent_indices = update (g.index p) t (parent_index numerator_on)

      abbrev pub across_marks : ℕ → ℕ
      across_marks = update (g.mark p) t (mark_of b)

      abbrev pub across_levels : ℕ → ℕ
      across_levels = update (g.level p) t 0

      abbrev pub across_indices : ℕ → ℕ
      across_indices = update (g.index p) t 1

      module _ (h : p < g.count) (axis : t < g.axes) where
        stopped : move g.border b (g.mark p t) (g.level p t) (g.index p t) ≡ stop → neighbour g t b (suc p) ≡ 0
        stopped e =
            neighbour_at p h axis
            ∙ ap (code_of g) (beside_stop g.border t b (g.mark p) (g.level p) (g.index p) e)
            ∙ code_nowhere

        moved_to : (a v w : ℕ) → move g.border b (g.mark p t) (g.level p t) (g.index p t) ≡ to a v w →
            neighbour g t b (suc p) ≡ suc (g.number (update (g.mark p) t a) (update (g.level p) t v) (update (g.index p) t w))
        moved_to a v w e =
            neighbour_at p h axis
            ∙ ap (code_of g) (beside_to g.border t b (g.mark p) (g.level p) (g.index p) a v w e)
            ∙ code_somewhere _ _ _

        -- A point on a border of the axis has no neighbour there.
        pub still_there : 0 < g.mark p t → neighbour g t b (suc p) ≡ 0
        still_there some = stopped (move_still g.border b (g.mark p t) (g.level p t) (g.index p t) some)

        module _ (inner : g.mark p t ≡ 0) where
          pub to_parent : is_border (g.level p t) numerator_on ≡ false → neighbour g t b (suc p) ≡ suc (g.number (g.mark p) parent_levels parent_indices)
          to_parent e =
              moved_to 0 _ _ (move_inner g.border b (g.mark p t) (g.level p t) (g.index p t) inner e)
              ∙ ap (λ (m : ℕ → ℕ). suc (g.number m parent_levels parent_indices)) (update_none (g.mark p) t 0 inner)

          module _ (e : is_border (g.level p t) numerator_on ≡ true) where
            pub to_border : g.border ≡ false → neighbour g t b (suc p) ≡ 0
            to_border off = stopped (move_border g.border b (g.mark p t) (g.level p t) (g.index p t) inner e ∙ across_none g.border b off)

            pub to_across : g.border ≡ true → neighbour g t b (suc p) ≡ suc (g.number across_marks across_levels across_indices)
            to_across on =
                moved_to (mark_of b) 0 1
                (move_border g.border b (g.mark p t) (g.level p t) (g.index p t) inner e ∙ across_some g.border b on)

          -- Nothing lies beside a point inside only where the neighbour's coordinate is 0 or 1.
          pub border_at : neighbour g t b (suc p) ≡ 0 → (numerator_on ≡ 0) ⊎ (numerator_on ≡ 2 ^ suc (g.level p t))
          border_at none =
              border_means (g.level p t) numerator_on
              (true_or_false (is_border (g.level p t) numerator_on) (λ e. e) (λ e. absurd (omega (arith, to_parent e, none))))

          -- A neighbour that there is with a zero border lies off the border.
          pub off_border : g.border ≡ false → (neighbour g t b (suc p) ≡ 0 → ⊥) → is_border (g.level p t) numerator_on ≡ false
          off_border off some = true_or_false (is_border (g.level p t) numerator_on) (λ e. absurd (some (to_border e off))) (λ e. e)

      -- Beside a code p + 1 lies nothing, or there are its point and the axis, it lies inside, and its parent lies off the border or the border has values.
      pub none_or_point : {A : Type 0} → (neighbour g t b (suc p) ≡ 0 → A) →
          (p < g.count → t < g.axes → g.mark p t ≡ 0 → is_border (g.level p t) numerator_on ≡ false → A) →
          (p < g.count → t < g.axes → g.mark p t ≡ 0 → is_border (g.level p t) numerator_on ≡ true → g.border ≡ true → A) → A
      none_or_point none some over =
          le_or_lt g.axes t
          (λ past. none (neighbour_no_axis (suc p) past))
          (λ axis.
          le_or_lt g.count p
          (λ past. none (neighbour_past p past))
          (λ h.
          eq_or_not (g.mark p t) 0
          (λ inner.
          true_or_false (is_border (g.level p t) numerator_on)
          (λ e. true_or_false g.border (over h axis inner e) (λ off. none (to_border h axis inner e off)))
          (some h axis inner))
          (λ marked. none (still_there h axis (omega arith)))))

module _ {g : Numbered} {Point : (ℕ → ℕ) → (ℕ → ℕ) → (ℕ → ℕ) → Type 0} (n : Numbering g Point)
    (t : ℕ) (b : Side) (p : ℕ) (h : p < g.count) (axis : t < g.axes) (inner : g.mark p t ≡ 0) where
  -- The parent is a point, and so is what lies across the border where that has values.
  pub parent_there : is_border (g.level p t) (numerator_on g t b p) ≡ false → Point (g.mark p) (parent_levels g t b p) (parent_indices g t b p)
  parent_there e = n.parent_there (n.point_at p h) t b axis inner e

  pub across_there : g.border ≡ true → Point (across_marks g t b p) (across_levels g t b p) (across_indices g t b p)
  across_there on = n.across_there (n.point_at p h) t b axis on inner
